-- How a step ends, by what its call answered.
use Rattle.std.proofs.Common.{◌≡◌, refl, subst, sym, Ok, Err, Option}
use Rattle.index_config.specs.declared.config.IndexConfig.{IndexConfig}
use Rattle.index_world.specs.Answering.{Answered}
use Rattle.object_store.specs.Store.{State as Kept}
use Rattle.std.specs.Prelude.{IsErr}
use Rattle.upkeep_run.specs.Ending.{Ends, EndsDelete, EndsDeleteFrom, EndsFrom, EndsStep, Told}
use Rattle.upkeep_run.specs.declared.outcome.UpkeepOutcome.{UpkeepOutcome as Said}
use Rattle.upkeep_run.specs.declared.work.WorkerPlace.{WorkerPlace as HeldPlace}
use Rattle.upkeep_run.specs.declared.work.WorkerPlace.TheVariants as places

-- it ends so where each outcome that it gives does
pub ends_by : (Says : Said → HeldPlace → Type 0) (result : Told) (place : HeldPlace) → place ≡ places.Idle → ((outcome : Said) → result ≡ Ok outcome → Says outcome place) → Ends Says result place
ends_by Says (Ok outcome) place idle says = says outcome refl
ends_by Says (Err refused) place idle says = idle

-- none is given without memory
pub ends_short : (Says : Said → HeldPlace → Type 0) (result : Told) (place : HeldPlace) → IsErr result → place ≡ places.Idle → Ends Says result place
ends_short Says (Ok outcome) place short idle = absurd cc
ends_short Says (Err refused) place short idle = idle

pub ends_where : (Says Others : Said → HeldPlace → Type 0) (result : Told) (place : HeldPlace) → ((outcome : Said) → Says outcome place → Others outcome place) → Ends Says result place → Ends Others result place
ends_where Says Others (Ok outcome) place f says = f outcome says
ends_where Says Others (Err refused) place f idle = idle

-- ---- a whole step

pub ends_from : {W : Type 0} (told : W → Option Kept) (configured : W → IndexConfig) (Answers : W → Answered → W → Type 0) (before : HeldPlace) (result : Told) (place : HeldPlace) (old new : W) (at : HeldPlace) → before ≡ at →
    Ends (EndsFrom at (λ call. Answers old call new) (configured old) (told old) (told new)) result place → EndsStep told configured Answers before result place old new
ends_from told configured Answers before result place old new at e h = subst (λ (p : HeldPlace). Ends (EndsFrom p (λ call. Answers old call new) (configured old) (told old) (told new)) result place) (sym e) h

pub delete_ends : {W : Type 0} (told : W → Option Kept) (configured : W → IndexConfig) (Answers : W → Answered → W → Type 0) (before : HeldPlace) (result : Told) (place : HeldPlace) (old new : W) (at : HeldPlace) → before ≡ at →
    Ends (EndsDeleteFrom at (λ call. Answers old call new) (configured old) (told old) (told new)) result place → EndsDelete told configured Answers before result place old new
delete_ends told configured Answers before result place old new at e h =
    subst (λ (p : HeldPlace). Ends (EndsDeleteFrom p (λ call. Answers old call new) (configured old) (told old) (told new)) result place) (sym e) h
