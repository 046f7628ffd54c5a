-- What several steps of one actor did, over any gate.
use Rattle.std.specs.Prelude.{◌≡◌, ◌⊎◌, ◌≤◌, ℕ, List, [], ◌∷◌, ◌++◌, length, Option, Some, None, ⊤}
use Rattle.std.specs.List.{AllByRecursion}
use Rattle.byte_fields.specs.Causes.{Rose}
use Rattle.source_log.specs.Log.{Log}
use Rattle.index_world.specs.CallsMade.{CallMade}
use Rattle.index_world.specs.Core.{Core, Nobody}
use Rattle.index_world.specs.World.{GoesFor}
use Rattle.index_world.specs.declared.world_error.WorldError.{WorldError}
use Rattle.index_world.specs.declared.world_error.WorldError.TheVariants as errors

-- These calls were made through the gate, with those of others between them. The index went on, the gate stands for the core behind them,
-- and this holds of the calls and of that core.
pub record Ran {W : Type 0} (Stands : W → Core → Log → Type 0) (Adds : W → List CallMade → W → Type 0) (Did : List CallMade → Core → Type 0)
    (core : Core) (log : Log) (old new : W) : Type 0 where
  pub made : List CallMade
  pub after : Core
  pub own : Adds old made new
  pub goes_on : GoesFor Nobody core after
  pub stands : Stands new after log
  pub did : Did made after

-- ---- why an actor failed

-- the store's count of faults rose on the way from the one core to the other, or stands at its end
abbrev pub IsCause : (before now : ℕ) → (core after : Core) → Type 0
IsCause before now core after = (core.store_faults ≤ before) × Rose before now × (now ≤ after.store_faults)

-- a fault of the store has its cause
abbrev pub IsCaused : WorldError → (core after : Core) → Type 0
IsCaused (errors.Memory e) core after = ⊤
IsCaused (errors.Refused refusal) core after = ⊤
IsCaused (errors.StoreFault before now) core after = IsCause before now core after
IsCaused (errors.Missing key) core after = ⊤
IsCaused (errors.Corrupt key) core after = ⊤
IsCaused (errors.Foreign key) core after = ⊤
IsCaused errors.Full core after = ⊤
IsCaused (errors.Expired planned_at reached) core after = ⊤
IsCaused errors.NoIndex core after = ⊤
IsCaused errors.IndexExists core after = ⊤
IsCaused (errors.BadConfig bad) core after = ⊤

-- ---- steps

-- a step: what it answered, and the calls that the gate recorded of it
pub record StepMade (R : Type 0) : Type 0 where
  pub result : R
  pub made : List CallMade

-- steps one behind another, each on from where the one before it led
abbrev pub AreSteps : {S X : Type 0} → (Step : S → X → S → Type 0) → S → List X → S → Type 0
AreSteps Step from [] to = to ≡ from
AreSteps {S} Step from (x ∷ more) to = (next : S) × Step from x next × AreSteps Step next more to

-- the calls of all of them
abbrev pub calls_of : {R : Type 0} → List (StepMade R) → List CallMade
calls_of [] = []
calls_of (step ∷ more) = step.made ++ calls_of more

-- the last one is an end, this one, and none before it is
pub record IsLastEnd {X E : Type 0} (end_of : X → Option E) (steps : List X) (end : E) : Type 0 where
  pub front : List X
  pub last : X
  pub are : steps ≡ front ++ last ∷ []
  pub going : AllByRecursion (λ x. end_of x ≡ None) front
  pub ends : end_of last ≡ Some end

-- The first step that is an end ends them, among so many; or there are so many, none is an end, and the turns are used up.
abbrev pub EndsBy : {X E : Type 0} → (end_of : X → Option E) → (used_up : E) → (turns : ℕ) → List X → E → Type 0
EndsBy end_of used_up turns steps end =
    ((length steps ≤ turns) × IsLastEnd end_of steps end)
    ⊎ ((end ≡ used_up) × (length steps ≡ turns) × AllByRecursion (λ x. end_of x ≡ None) steps)

-- AN ACTOR'S WORK UP TO ITS END, in so many turns at most: these were its steps, and the calls are theirs. Where the last one led this
-- holds, and behind it the index went on.
pub record Works {S R E : Type 0} (Step : S → StepMade R → S → Type 0) (core_of : S → Core) (end_of : R → Option E) (used_up : E) (Left : S → Type 0)
    (turns : ℕ) (end : E) (from : S) (made : List CallMade) (after : Core) : Type 0 where
  pub steps : List (StepMade R)
  pub last : S
  pub are : AreSteps Step from steps last
  pub left : Left last
  pub calls : made ≡ calls_of steps
  pub goes_on : GoesFor Nobody (core_of last) after
  pub ended : EndsBy (λ (step : StepMade R). end_of step.result) used_up turns steps end

-- the same by what each step answered, whatever is told of what they work on
abbrev pub WorksTo : {S R E : Type 0} → (Step : S → R → S → Type 0) → (end_of : R → Option E) → (used_up : E) → (turns : ℕ) → (end : E) → (from to : S) → Type 0
WorksTo {S} {R} Step end_of used_up turns end from to = (results : List R) × AreSteps Step from results to × EndsBy end_of used_up turns results end
