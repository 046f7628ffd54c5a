-- A step up to one of its tries.
use Rattle.std.proofs.Common.{◌≡◌, ◌∙◌, List, Option, Some, None, Result, Ok, Err, refl, sym, ap, subst}
use Rattle.std.specs.Prelude.{IsErrAnd}
use Rattle.std.specs.declared.alloc.AllocError.{AllocError}
use Rattle.object_store.specs.Store.{State}
use Rattle.source_log.specs.Log.{Log}
use Rattle.index_world.specs.Answering.{Answered}
use Rattle.index_world.specs.CallsMade.{CallMade}
use Rattle.index_world.specs.Core.{Core}
use Rattle.split_collector.specs.Ending.{CallsTo, Told, turn_of}
use Rattle.split_collector.specs.Outcomes.{Outcome}
use Rattle.split_collector.specs.Standing.{Alike, CollectsAs}
use Rattle.split_collector.specs.Turns.{Turn, ended, to_mark}
use Rattle.split_collector.specs.declared.outcome.CollectorOutcome.{CollectorOutcome as Said}
use Rattle.split_collector.proofs.Running.{AddsMore, then_called, then_collects}

-- ---- where a try leads

-- it had nothing to do
pub passed_turn : (result : Result (Option Said) AllocError) (given : Option Said) (next : Turn Told) → result ≡ Ok given → ((outcome : Said) → given ≡ Some outcome → ⊥) → turn_of result next ≡ next
passed_turn result None next is none = ap (λ (r : Result (Option Said) AllocError). turn_of r next) is
passed_turn result (Some outcome) next is none = absurd (none outcome refl)

-- it ended the step
pub did_turn : (result : Result (Option Said) AllocError) (given : Option Said) (outcome : Said) (next : Turn Told) → result ≡ Ok given → given ≡ Some outcome → turn_of result next ≡ ended (Ok outcome)
did_turn result given outcome next is did = ap (λ (r : Result (Option Said) AllocError). turn_of r next) (is ∙ ap (λ (o : Option Said). Ok o) did)

-- it found no memory
pub short_turn : (result : Result (Option Said) AllocError) (answer : Told) (refused : AllocError) (next : Turn Told) → result ≡ Err refused → IsErrAnd answer (λ e. e ≡ refused) → turn_of result next ≡ ended answer
short_turn result (Ok outcome) refused next is h = absurd h
short_turn result (Err e) refused next is h = ap (λ (r : Result (Option Said) AllocError). turn_of r next) is ∙ ap (λ (x : AllocError). ended (Err x)) (sym h)

-- ---- tries one behind another

module _ {W : Type 0} (Stands : W → Core → Log → Type 0) (Between : Core → Core → Type 0) (Adds : W → List CallMade → W → Type 0) (tells : W → Option State) (Answers : W → Answered → W → Type 0) (adds : AddsMore Adds) where
  -- what both clauses say of a step that has come so far
  pub record SoFar (to : Turn Told) (old new : W) : Type 0 where
    pub ends : CallsTo tells Answers to_mark to old new
    pub step : (core : Core) (log : Log) → Stands old core log → CollectsAs Stands Between Adds to_mark to core log old new

  pub so_far : (to other : Turn Told) (old new : W) → to ≡ other → CallsTo tells Answers to_mark to old new → ((core : Core) (log : Log) → Stands old core log → CollectsAs Stands Between Adds to_mark to core log old new) → SoFar other old new
  so_far to other old new e ends step =
      record {
        ends = subst (λ (t : Turn Told). CallsTo tells Answers to_mark t old new) e ends;
        step = λ core log stands. subst (λ (t : Turn Told). CollectsAs Stands Between Adds to_mark t core log old new) e (step core log stands);
      }

  pub further : (at to other : Turn Told) (from : Turn (Option Outcome)) (old gate new : W) → ((turn : Turn (Option Outcome)) → Alike at turn → turn ≡ from) → to ≡ other → SoFar at old gate → CallsTo tells Answers at to gate new
      → ((core : Core) (log : Log) → Stands gate core log → CollectsAs Stands Between Adds from to core log gate new) → SoFar other old new
  further at to other from old gate new alike e f ends step =
      so_far to other old new e (then_called tells Answers to_mark at to old gate new f.ends ends) (λ core log stands.
      let first = f.step core log stands in
      then_collects Stands Between Adds adds to_mark from at to core log old gate new first (alike first.reached first.alike) (step first.after log first.stands))
