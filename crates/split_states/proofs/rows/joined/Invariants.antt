use Rattle.std.proofs.Common.{◌≡◌, ◌++◌, drop}
use Rattle.split_states.specs.Rows.{joined_spans}
use Rattle.split_states.proofs.rows.joined.Given as goal

abbrev pub invariant-loop-number : goal.invariant-loop-number
invariant-loop-number l = l.spans.items ++ joined_spans l.rows (drop l.number-index l.numbers) ≡ joined_spans l.rows l.numbers
