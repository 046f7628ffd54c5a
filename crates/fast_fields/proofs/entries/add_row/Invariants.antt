use Rattle.std.proofs.Common.{◌≡◌, ◌+◌, List, length}
use Rattle.std.specs.Prelude.{vec_len, vec_capacity}
use Rattle.fast_fields.specs.Columns.{Cell, AreGrown, cells_of}
use Rattle.fast_fields.specs.Texts.{texts_in, EachIsAmong}
use Rattle.fast_fields.proofs.Grown.{AddsValues}
use Rattle.fast_fields.proofs.entries.add_row.Given as goal

abbrev pub invariant-loop-value : goal.invariant-loop-value
invariant-loop-value l = ((done : List Cell) → AreGrown (texts_in l.texts) l.document done l.fn.entries.items → AddsValues (texts_in l.texts) l.document done l.rest l.values l.entries.items)
    × EachIsAmong (cells_of l.document l.rest) (texts_in l.texts)
    × (vec_len l.entries + length l.rest ≡ vec_len l.fn.entries + length l.values) × (vec_capacity l.entries ≡ vec_capacity l.fn.entries)

abbrev pub decreases-loop-value : goal.decreases-loop-value
decreases-loop-value l = length l.rest
