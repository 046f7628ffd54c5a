-- What a collector does up to its end.
use Rattle.std.specs.Prelude.{◌≡◌, ◌≤◌, ℕ, List, Option, Some, None, Result, Ok, Err, ⊤}
use Rattle.std.specs.declared.alloc.AllocError.{AllocError}
use Rattle.index_world.specs.CallsMade.{CallMade}
use Rattle.index_world.specs.Core.{Core, Nobody, last_count}
use Rattle.index_world.specs.World.{GoesFor}
use Rattle.index_world.specs.Ran.{IsCaused, StepMade, Works}
use Rattle.split_collector.specs.Ending.{Told}
use Rattle.split_collector.specs.Outcomes.{Outcome}
use Rattle.split_collector.specs.Standing.{Answers}
use Rattle.split_collector.specs.Steps.{ArePassed, AreRecorded, Passage, ran, stand}
use Rattle.split_collector.specs.Turns.{ended, to_mark}
use Rattle.split_collector.specs.declared.outcome.CollectorOutcome.TheVariants as said
use Rattle.split_collector.specs.declared.collecting.CollectorEnd.{CollectorEnd}
use Rattle.split_collector.specs.declared.collecting.CollectorEnd.TheVariants as ends

-- whether a step that answered so is the last one, and with which end
abbrev pub end_of : Told → Option CollectorEnd
end_of (Ok (said.MarkedStale count)) = None
end_of (Ok (said.Doomed number)) = None
end_of (Ok (said.Removed count)) = None
end_of (Ok (said.Swept number)) = None
end_of (Ok said.Nothing) = Some ends.Nothing
end_of (Ok (said.Fault error)) = Some (ends.Fault error)
end_of (Err refused) = Some ends.Memory

-- A step is the machine's, with a passage for each of its calls, before which other actors may have acted. It answered what the machine
-- came to, and the gate recorded these calls.
pub record CollectorStep (Between : Core → Core → Type 0) (core : Core) (step : StepMade Told) (after : Core) : Type 0 where
  pub passages : List Passage
  pub passed : ArePassed Between to_mark core passages
  pub outcome : Option Outcome
  pub did : ran to_mark core passages ≡ stand (ended outcome) after
  pub answer : Answers step.result outcome
  pub recorded : AreRecorded to_mark passages step.made
  pub goes_on : GoesFor Nobody core after

-- an end that is a fault of the store has its cause
abbrev pub IsEndCaused : CollectorEnd → (core after : Core) → Type 0
IsEndCaused ends.Nothing core after = ⊤
IsEndCaused (ends.Fault error) core after = IsCaused error core after
IsEndCaused ends.Turns core after = ⊤
IsEndCaused ends.Memory core after = ⊤

-- WHAT A COLLECTOR DID from a core on, in so many turns at most: its steps up to this end, whose calls these are.
pub record CollectorDid (Between : Core → Core → Type 0) (turns : ℕ) (end : CollectorEnd) (core : Core) (made : List CallMade) (after : Core) : Type 0 where
  pub works : Works (CollectorStep Between) (λ c. c) end_of ends.Turns (λ c. ⊤) turns end core made after
  pub cause : core.store_faults ≤ last_count → IsEndCaused end core after
