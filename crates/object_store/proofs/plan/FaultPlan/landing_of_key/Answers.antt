use Rattle.object_store.proofs.Plans.{landing_there}
use Rattle.object_store.proofs.plan.FaultPlan.landing_of_key.Goals as goal

pub returns-in-Some : goal.returns-in-Some
returns-in-Some c =
    landing_there c.args.key.now c.args.self.now.keys.items c.deref.result.now c.in-Some.at c.index.result.now c.in-Some.ensures.some c.deref.ensures.value c.index.ensures
