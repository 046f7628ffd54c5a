use Rattle.std.proofs.Common.{refl}
use Rattle.object_store.specs.SteadyStore.{steady_state}
use Rattle.object_store.proofs.Landings.{HasLanded-refl}
use Rattle.object_store.proofs.steady.SteadyStoreObjectStore.get.Goals as goal

pub returns-clause-step : goal.returns-clause-step
returns-clause-step c = (steady_state c.args.self.now, HasLanded-refl (steady_state c.args.self.now), (refl, c.get-answer.ensures.finds))
