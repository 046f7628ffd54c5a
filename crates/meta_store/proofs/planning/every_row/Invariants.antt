use Rattle.std.proofs.Common.{◌≡◌, take, map}
use Rattle.meta_store.specs.Planning.{planned_row, every}
use Rattle.meta_store.proofs.planning.every_row.Given as goal

abbrev pub invariant-loop-row : goal.invariant-loop-row
invariant-loop-row l = l.list ≡ map planned_row (every (take l.row-index l.rows))
