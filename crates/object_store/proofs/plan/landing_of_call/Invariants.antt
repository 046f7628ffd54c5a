use Rattle.std.proofs.Common.{◌≡◌, drop}
use Rattle.object_store.specs.FaultPlan.{landing_of_call}
use Rattle.object_store.proofs.plan.landing_of_call.Given as goal

abbrev pub invariant-loop-call : goal.invariant-loop-call
invariant-loop-call l = landing_of_call l.number (drop l.call-index l.calls) ≡ landing_of_call l.number l.calls
