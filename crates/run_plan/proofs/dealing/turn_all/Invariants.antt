use Rattle.run_plan.proofs.Deals.{TurnedUpTo}
use Rattle.run_plan.proofs.dealing.turn_all.Given as goal

abbrev pub invariant-loop-i : goal.invariant-loop-i
invariant-loop-i g l = TurnedUpTo l.i l.initial.lists l.lists
