-- What a merger or a delete worker does up to its end.
use Rattle.std.specs.Prelude.{◌≡◌, ◌≤◌, ℕ, List, Option, Some, None, Result, Ok, Err, ⊤}
use Rattle.std.specs.declared.alloc.AllocError.{AllocError}
use Rattle.index_config.specs.declared.config.IndexConfig.{IndexConfig}
use Rattle.object_store.specs.Store.{State}
use Rattle.source_log.specs.Log.{Log}
use Rattle.index_world.specs.Answering.{Answered}
use Rattle.index_world.specs.CallsMade.{CallMade, IsRecorded}
use Rattle.index_world.specs.Core.{Core, Nobody, last_count}
use Rattle.index_world.specs.World.{GoesFor}
use Rattle.index_world.specs.Ran.{IsCaused, StepMade, Works}
use Rattle.upkeep_run.specs.Asking.{ask_of}
use Rattle.upkeep_run.specs.Corrupting.{CorruptDelete, CorruptStep}
use Rattle.upkeep_run.specs.Ending.{EndsDelete, EndsStep, Told}
use Rattle.upkeep_run.specs.Outcomes.{UpkeepOutcome}
use Rattle.upkeep_run.specs.Places.{WorkerPlace}
use Rattle.upkeep_run.specs.Standing.{Answers, PlaceStands}
use Rattle.upkeep_run.specs.Steps.{WorkerLuck, step_worker}
use Rattle.upkeep_run.specs.declared.work.Aim.{Aim}
use Rattle.upkeep_run.specs.declared.work.WorkerPlace.{WorkerPlace as HeldPlace}
use Rattle.upkeep_run.specs.declared.outcome.UpkeepOutcome.TheVariants as said
use Rattle.upkeep_run.specs.declared.working.WorkerEnd.{WorkerEnd}
use Rattle.upkeep_run.specs.declared.working.WorkerEnd.TheVariants as ends

-- whether a step that answered so is the last one, and with which end
abbrev pub end_of : Told → Option WorkerEnd
end_of (Ok said.Nothing) = Some ends.Nothing
end_of (Ok (said.Planned count)) = None
end_of (Ok (said.Fetched number)) = None
end_of (Ok (said.Staged number)) = None
end_of (Ok (said.Uploaded number)) = None
end_of (Ok (said.Replaced number)) = None
end_of (Ok (said.Raised number)) = None
end_of (Ok (said.Lost number refusal)) = None
end_of (Ok (said.Refused refusal)) = Some (ends.Refused refusal)
end_of (Ok (said.Fault error)) = Some (ends.Fault error)
end_of (Err refused) = Some ends.Memory

-- ---- whatever the gate tells

-- what a worker of the code holds, and its gate
pub record HeldAt (W : Type 0) : Type 0 where
  pub place : HeldPlace
  pub gate : W

abbrev pub held_at : {W : Type 0} → HeldPlace → W → HeldAt W
held_at place gate = record { place = place; gate = gate }

-- a step of a merger through a gate
abbrev pub MergesOnce : {W : Type 0} → (told : W → Option State) → (configured : W → IndexConfig) → (Answers : W → Answered → W → Type 0) → HeldAt W → Told → HeldAt W → Type 0
MergesOnce told configured Answers old answer new =
    EndsStep told configured Answers old.place answer new.place old.gate new.gate × CorruptStep configured Answers old.place answer old.gate new.gate

-- a step of a delete worker through a gate
abbrev pub DeletesOnce : {W : Type 0} → (told : W → Option State) → (configured : W → IndexConfig) → (Answers : W → Answered → W → Type 0) → HeldAt W → Told → HeldAt W → Type 0
DeletesOnce told configured Answers old answer new =
    EndsDelete told configured Answers old.place answer new.place old.gate new.gate × CorruptDelete configured Answers old.place answer old.gate new.gate

-- ---- over a gate that stands for a core

-- where a worker is, and the core there
pub record WorkerAt : Type 0 where
  pub place : WorkerPlace
  pub core : Core

abbrev pub worker_at : WorkerPlace → Core → WorkerAt
worker_at place core = record { place = place; core = core }

abbrev pub core_there : WorkerAt → Core
core_there at = at.core

-- A step is the machine's with some luck, behind what other actors did before its call. It answered what the machine came to, and the gate
-- recorded the call, or none where there was no memory.
pub record WorkerStep (Between : Core → Core → Type 0) (aim : Aim) (log : Log) (from : WorkerAt) (step : StepMade Told) (to : WorkerAt) : Type 0 where
  pub mid : Core
  pub passed : Between from.core mid
  pub luck : WorkerLuck
  pub outcome : Option UpkeepOutcome
  pub did : step_worker aim luck log from.place mid ≡ record { outcome = outcome; place = to.place; core = to.core }
  pub answer : Answers step.result outcome
  pub recorded : IsRecorded (ask_of aim from.place mid) mid to.core (outcome ≡ None) step.made
  pub goes_on : GoesFor Nobody from.core to.core

-- what a worker of the code holds stands for that
abbrev pub Holds : Aim → Log → HeldPlace → WorkerAt → Type 0
Holds aim log held at = PlaceStands aim log at.core held at.place

-- an end that is a fault of the store has its cause
abbrev pub IsEndCaused : WorkerEnd → (core after : Core) → Type 0
IsEndCaused ends.Nothing core after = ⊤
IsEndCaused (ends.Refused refusal) core after = ⊤
IsEndCaused (ends.Fault error) core after = IsCaused error core after
IsEndCaused ends.Turns core after = ⊤
IsEndCaused ends.Memory core after = ⊤

-- WHAT A WORKER DID from a place and a core on, in so many turns at most: its steps up to this end, whose calls these are. The worker of
-- the code holds what the last one left.
pub record WorkerDid (Between : Core → Core → Type 0) (aim : Aim) (log : Log) (turns : ℕ) (end : WorkerEnd) (held : HeldPlace) (place : WorkerPlace) (core : Core)
    (made : List CallMade) (after : Core) : Type 0 where
  pub works : Works (WorkerStep Between aim log) core_there end_of ends.Turns (Holds aim log held) turns end (worker_at place core) made after
  pub cause : core.store_faults ≤ last_count → IsEndCaused end core after
