-- The last step of an actor's work is its end.
use Rattle.std.proofs.Common.{◌≡◌, inl, inr, ℕ, List, ◌++◌, length, ap, ◌∙◌, subst}
use Rattle.std.specs.List.{AllByRecursion}
use Rattle.std.specs.Prelude.{Option, Some, None}
use Rattle.index_world.specs.CallsMade.{CallMade}
use Rattle.index_world.specs.Core.{Core, Nobody}
use Rattle.index_world.specs.Ran.{AreSteps, EndsBy, StepMade, Works, calls_of}
use Rattle.index_world.specs.World.{GoesFor}
use Rattle.index_world.proofs.Ran.{calls_more, goes_then, last_step, steps_go}

module _ {S R E : Type 0} (Step : S → StepMade R → S → Type 0) (core_of : S → Core) (end_of : R → Option E) (used_up : E) (Left : S → Type 0) where
  -- These steps were no ends, and behind them one was this end.
  pub record LastStep (end : E) (from last : S) (made : List CallMade) : Type 0 where
    pub front : List (StepMade R)
    pub mid : S
    pub are : AreSteps Step from front mid
    pub step : StepMade R
    pub did : Step mid step last
    pub ends : end_of step.result ≡ Some end
    pub calls : made ≡ calls_of front ++ step.made

  module _ (turns : ℕ) (end : E) (from : S) (made : List CallMade) (after : Core) (w : Works Step core_of end_of used_up Left turns end from made after) where
    -- an end that is not that the turns are used up
    pub ends_last : (end ≡ used_up → ⊥) → LastStep end from w.last made
    ends_last other = by w.ended
      where
        by : EndsBy (λ (step : StepMade R). end_of step.result) used_up turns w.steps end → LastStep end from w.last made
        by (inr out) = absurd (other out.0)
        by (inl ends) =
            let P : List (StepMade R) → Type 0 = λ xs. AreSteps Step from xs w.last in
            let split = last_step Step from w.last ends.1.front ends.1.last (subst P ends.1.are w.are) in
            record {
              front = ends.1.front;
              mid = split.0;
              are = split.1;
              step = ends.1.last;
              did = split.2;
              ends = ends.1.ends;
              calls = w.calls ∙ (ap (λ (l : List (StepMade R)). calls_of l) ends.1.are ∙ calls_more ends.1.front ends.1.last);
            }

    pub record AllGoing : Type 0 where
      pub many : length w.steps ≡ turns
      pub going : AllByRecursion (λ (step : StepMade R). end_of step.result ≡ None) w.steps

    -- where they are used up there were so many steps, none of them an end
    pub all_going : end ≡ used_up → ((r : R) → end_of r ≡ Some used_up → ⊥) → AllGoing
    all_going is never = by w.ended
      where
        by : EndsBy (λ (step : StepMade R). end_of step.result) used_up turns w.steps end → AllGoing
        by (inl ends) = absurd (never ends.1.last.result (ends.1.ends ∙ ap Some is))
        by (inr out) = record { many = out.1; going = out.2 }

-- while it worked the index went on
pub works_go : {S R E : Type 0} (Step : S → StepMade R → S → Type 0) (core_of : S → Core) (end_of : R → Option E) (Left : S → Type 0) → ((a : S) (x : StepMade R) (b : S) → Step a x b → GoesFor Nobody (core_of a) (core_of b)) →
    (used_up : E) (turns : ℕ) (end : E) (from : S) (made : List CallMade) (after : Core) → Works Step core_of end_of used_up Left turns end from made after → GoesFor Nobody (core_of from) after
works_go Step core_of end_of Left step_goes used_up turns end from made after w =
    goes_then (core_of from) (core_of w.last) after (steps_go Step core_of end_of Left step_goes from w.last w.steps w.are) w.goes_on
