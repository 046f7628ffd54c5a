-- From one core to another, by what is seen of them.
use Rattle.std.specs.Prelude.{◌≡◌, ◌≤◌, ◌++◌, List, length, take}
use Rattle.meta_journal.specs.declared.entry.Entry.{Entry}
use Rattle.meta_store.specs.History.{history, moment_of}
use Rattle.index_world.specs.CallsMade.{CallMade}
use Rattle.index_world.specs.Core.{Core}

-- The one is no later than the other: the history grew at its end, and neither the count of faults nor the moment fell.
pub record IsBefore (core after : Core) : Type 0 where
  pub grown : (more : List Entry) × (after.history ≡ core.history ++ more)
  pub faults : core.store_faults ≤ after.store_faults
  pub moment : core.moment ≤ after.moment

-- A call was made between them: it left a front of the journal at exit, and a moment that is none before those of its entries.
pub record IsCalled (first exit : Core) (call : CallMade) : Type 0 where
  pub front : call.history ≡ take (length call.history) exit.history
  pub begins : length first.history ≤ length call.history
  pub ends : length call.history ≤ length exit.history
  pub since : first.moment ≤ call.moment
  pub until : call.moment ≤ exit.moment
  pub greatest : moment_of (history call.history) ≤ call.moment
