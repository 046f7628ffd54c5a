use Rattle.std.specs.Option.{option_copied}
use Rattle.object_store.specs.SteadyStore.{steady_state}
use Rattle.object_store.proofs.Landings.{HasLanded-refl}
use Rattle.object_store.proofs.States.{lists_of}
use Rattle.object_store.proofs.steady.SteadyStoreObjectStore.list.Goals as goal

pub returns-clause-step : goal.returns-clause-step
returns-clause-step c =
    let s = steady_state c.args.self.now in
    (s, HasLanded-refl s, lists_of c.args.prefix.now (option_copied c.args.after) c.args.max c.list.result s c.list.ensures.keys)
