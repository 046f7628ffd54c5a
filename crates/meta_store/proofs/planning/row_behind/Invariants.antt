use Rattle.std.proofs.Common.{◌≡◌, drop}
use Rattle.std.specs.Prelude.{find}
use Rattle.meta_store.specs.Planning.{is_behind}
use Rattle.meta_store.proofs.planning.row_behind.Given as goal

abbrev pub invariant-loop-row : goal.invariant-loop-row
invariant-loop-row l = find (is_behind l.last) (drop l.row-index l.rows) ≡ find (is_behind l.last) l.rows
