-- What a store whose calls never fail tells.
use Rattle.object_store.specs.declared.steady.SteadyStore.{SteadyStore}
use Rattle.object_store.specs.Kept.{state_of}
use Rattle.object_store.specs.Store.{State}

abbrev pub steady_state : SteadyStore → State
steady_state s = state_of s.kept
