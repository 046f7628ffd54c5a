-- What a store in memory tells, and what it holds.
use Rattle.object_store.specs.declared.memory.MemoryStore.{MemoryStore}
use Rattle.object_store.specs.Kept.{state_of}
use Rattle.object_store.specs.Late.{Held, held_of}
use Rattle.object_store.specs.Store.{State}

abbrev pub state : MemoryStore → State
state s = state_of s.kept

abbrev pub held : MemoryStore → Held
held s = held_of s.kept
