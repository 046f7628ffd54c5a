-- A recorded world over a store in memory may go to another thread.
use denote.Param.Send.{IsSend}
use Rattle.clock_time.specs.contracts.clock.ScriptClock as Script
use Rattle.clock_time.proofs.clock.ScriptClock.TheSendSync as script
use Rattle.object_store.specs.contracts.memory.MemoryStore as Memory
use Rattle.object_store.specs.contracts.memory.MemoryStoreObjectStore.TheImpl.{ghosts}
use Rattle.object_store.proofs.memory.MemoryStore.TheSendSync as memory
use Rattle.source_log.specs.contracts.memory.MemoryLog as Log
use Rattle.shared_gate.specs.contracts.recorded.Recorded as Recorded
use Rattle.shared_gate.proofs.Sending.{recorded_send}

pub kept_send : IsSend (Recorded.the_row Memory.the_row Script.the_row Log.the_row ghosts)
kept_send = recorded_send Memory.the_row Script.the_row Log.the_row ghosts memory.the_send script.the_send
