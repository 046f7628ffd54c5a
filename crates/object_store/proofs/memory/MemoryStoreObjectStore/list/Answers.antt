use Rattle.std.specs.Option.{option_copied}
use Rattle.object_store.specs.MemoryStore.{state}
use Rattle.object_store.proofs.States.{lists_of}
use Rattle.object_store.proofs.memory.MemoryStoreObjectStore.list.Goals as goal

pub returns-in-None-clause-step : goal.returns-in-None-clause-step
returns-in-None-clause-step c =
    let s = state c.begin.new.self in
    (s, c.begin.ensures.lands, lists_of c.args.prefix.now (option_copied c.args.after) c.args.max c.list.result s c.list.ensures.keys)
