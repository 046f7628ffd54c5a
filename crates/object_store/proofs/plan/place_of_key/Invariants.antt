use Rattle.object_store.proofs.Plans.{IsPassed}
use Rattle.object_store.proofs.plan.place_of_key.Given as goal

abbrev pub invariant-loop-at : goal.invariant-loop-at
invariant-loop-at l = IsPassed l.key l.keys l.at
