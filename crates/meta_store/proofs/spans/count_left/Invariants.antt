use Rattle.std.proofs.Common.{◌≡◌, ◌-◌, length, drop}
use Rattle.split_states.specs.Rows.{joined_spans}
use Rattle.meta_store.proofs.spans.count_left.Given as goal

abbrev pub invariant-loop-number : goal.invariant-loop-number
invariant-loop-number l = l.left - length (joined_spans l.rows.list (drop l.number-index l.numbers)) ≡ l.count - length (joined_spans l.rows.list l.numbers)
