use Rattle.std.proofs.Common.{◌≡◌, drop}
use Rattle.split_states.specs.Answers.{answer_to_mark}
use Rattle.meta_store.specs.Answers.{answer_to_each}
use Rattle.meta_store.proofs.checks.may_mark_each.Given as goal

abbrev pub invariant-loop-number : goal.invariant-loop-number
invariant-loop-number l = answer_to_each (λ n. answer_to_mark l.rows.list n l.now l.grace) (drop l.number-index l.numbers) ≡ answer_to_each (λ n. answer_to_mark l.rows.list n l.now l.grace) l.numbers
