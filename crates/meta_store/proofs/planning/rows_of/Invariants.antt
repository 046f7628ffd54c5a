use Rattle.std.proofs.Common.{◌≡◌, ◌++◌, drop, map}
use Rattle.std.specs.Prelude.{filter_map}
use Rattle.split_states.specs.Rows.{row_at}
use Rattle.meta_store.specs.Planning.{worked_row}
use Rattle.meta_store.proofs.planning.rows_of.Given as goal

abbrev pub invariant-loop-number : goal.invariant-loop-number
invariant-loop-number l = l.list ++ map worked_row (filter_map (row_at l.rows.list) (drop l.number-index l.numbers)) ≡ map worked_row (filter_map (row_at l.rows.list) l.numbers)
