use Rattle.object_store.specs.MemoryStore.{state}
use Rattle.object_store.proofs.memory.MemoryStoreObjectStore.delete.Goals as goal

pub returns-in-Some-clause-step : goal.returns-in-Some-clause-step
returns-in-Some-clause-step c = (state c.begin.new.self, c.begin.ensures.lands, c.fall_delete.ensures.step)
