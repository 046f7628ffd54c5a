use Rattle.std.proofs.Common.{◌≡◌, take, map}
use Rattle.query_ast.specs.Sought.{view}
use Rattle.meta_store.specs.Planning.{planned_row, searched}
use Rattle.meta_store.proofs.planning.searched_rows.Given as goal

abbrev pub invariant-loop-row : goal.invariant-loop-row
invariant-loop-row l = l.list ≡ map planned_row (searched l.schema (view l.query) l.times (take l.row-index l.rows))
