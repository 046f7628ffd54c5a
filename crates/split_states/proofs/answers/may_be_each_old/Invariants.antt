use Rattle.std.proofs.Common.{◌≡◌, [], take, drop}
use Rattle.split_states.specs.Answers.{answer_to_each_old}
use Rattle.split_states.proofs.answers.may_be_each_old.Given as goal

abbrev pub invariant-loop-i : goal.invariant-loop-i
invariant-loop-i l = answer_to_each_old l.rows.list (take l.i l.old) (drop l.i l.old) ≡ answer_to_each_old l.rows.list [] l.old
