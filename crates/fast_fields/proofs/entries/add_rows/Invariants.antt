use Rattle.std.proofs.Common.{◌+◌, ◌≤◌, length}
use Rattle.std.specs.Prelude.{vec_len, vec_capacity}
use Rattle.fast_fields.specs.Columns.{cells}
use Rattle.fast_fields.specs.Texts.{texts_in, EachIsAmong}
use Rattle.fast_fields.proofs.Grown.{AddsRows}
use Rattle.fast_fields.proofs.entries.add_rows.Given as goal

abbrev pub invariant-loop-row : goal.invariant-loop-row
invariant-loop-row l = AddsRows (texts_in l.texts) l.rest l.rows l.entries.items × EachIsAmong (cells l.rest) (texts_in l.texts) × (vec_len l.entries + length (cells l.rest) ≤ vec_capacity l.entries)

abbrev pub decreases-loop-row : goal.decreases-loop-row
decreases-loop-row l = length l.rest
