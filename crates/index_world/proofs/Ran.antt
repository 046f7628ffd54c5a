-- One step more behind others.
use Rattle.std.proofs.Common.{◌≡◌, ◌⊎◌, inl, inr, ℕ, ◌+◌, ◌≤◌, ◌<◌, List, [], ◌∷◌, ◌++◌, length, refl, sym, ap, ◌∙◌, subst, append-nil, append_assoc, min, arith}
use Rattle.std.proofs.lemmas.List.{length-append}
use Rattle.std.specs.List.{AllByRecursion}
use Rattle.std.specs.Prelude.{Option, Some, None}
use Rattle.byte_fields.specs.Causes.{Rose, last_count}
use Rattle.source_log.specs.Log.{Log}
use Rattle.index_world.specs.CallsMade.{CallMade}
use Rattle.index_world.specs.Core.{Core, Nobody}
use Rattle.index_world.specs.DirectLaws.{stays_as_is}
use Rattle.index_world.specs.World.{GoesFor}
use Rattle.index_world.specs.declared.world_error.WorldError.{WorldError}
use Rattle.index_world.specs.declared.world_error.WorldError.TheVariants as errors
use Rattle.index_world.proofs.InCore.{goes_both}
use Rattle.index_world.proofs.StoreChanges.{All-snoc}
use Rattle.index_world.specs.Ran.{AreSteps, EndsBy, IsCause, IsCaused, IsLastEnd, Ran, StepMade, Works, WorksTo, calls_of}

-- a count is not below this one, as far as counts go
abbrev pub Past : ℕ → ℕ → Type 0
Past low count = min low last_count ≤ count

-- a cause, as far as counts go
abbrev pub PastCause : (before now : ℕ) → (core after : Core) → Type 0
PastCause before now core after = Past core.store_faults before × Rose before now × (now ≤ after.store_faults)

pub goes_then : (a b c : Core) → GoesFor Nobody a b → GoesFor Nobody b c → GoesFor Nobody a c
goes_then a b c = goes_both Nobody Nobody Nobody a b c (λ n none. (none, none))

pub steps_more : {S X : Type 0} (Step : S → X → S → Type 0) (from mid to : S) (xs : List X) (x : X) → AreSteps Step from xs mid → Step mid x to → AreSteps Step from (xs ++ x ∷ []) to
steps_more {S} Step from mid to [] x are step = let P : S → Type 0 = λ s. Step s x to in (to, subst P are step, refl)
steps_more Step from mid to (y ∷ ys) x are step = (are.0, are.1, steps_more Step are.0 mid to ys x are.2 step)

-- the last step, behind those before it
pub last_step : {S X : Type 0} (Step : S → X → S → Type 0) (from to : S) (front : List X) (x : X) → AreSteps Step from (front ++ x ∷ []) to → (mid : S) × AreSteps Step from front mid × Step mid x to
last_step {S} Step from to [] x are = let P : S → Type 0 = λ s. Step from x s in (from, refl, subst P (sym are.2) are.1)
last_step Step from to (y ∷ ys) x are = let more = last_step Step are.0 to ys x are.2 in (more.0, (are.0, are.1, more.1), more.2)

pub calls_more : {R : Type 0} (xs : List (StepMade R)) (x : StepMade R) → calls_of (xs ++ x ∷ []) ≡ calls_of xs ++ x.made
calls_more [] x = append-nil x.made
calls_more (y ∷ ys) x = ap (λ l. y.made ++ l) (calls_more ys x) ∙ sym (append_assoc y.made (calls_of ys) x.made)

one_longer : {X : Type 0} (xs : List X) (x : X) → length (xs ++ x ∷ []) ≡ length xs + 1
one_longer xs x = length-append xs (x ∷ [])

-- it is none of these
pub none_of : {E : Type 0} (end : Option E) → ((e : E) → end ≡ Some e → ⊥) → end ≡ None
none_of None none = refl
none_of (Some e) none = absurd (none e refl)

-- ---- whatever is told of what they work on

module _ {S X E : Type 0} (Step : S → X → S → Type 0) (end_of : X → Option E) where
  -- so many steps, of which none is an end
  pub record Going (count : ℕ) (from to : S) : Type 0 where
    pub steps : List X
    pub are : AreSteps Step from steps to
    pub going : AllByRecursion (λ x. end_of x ≡ None) steps
    pub count_is : length steps ≡ count

  pub going_none : (from : S) → Going 0 from from
  going_none from = record { steps = []; are = refl; going = tt; count_is = refl }

  module _ (count : ℕ) (from mid to : S) (so_far : Going count from mid) (x : X) (step : Step mid x to) where
    pub going_more : end_of x ≡ None → Going (count + 1) from to
    going_more goes =
        let longer = one_longer so_far.steps x in
        let counted = so_far.count_is in
        record {
          steps = so_far.steps ++ x ∷ [];
          are = steps_more Step from mid to so_far.steps x so_far.are step;
          going = All-snoc (λ y. end_of y ≡ None) so_far.steps x so_far.going goes;
          count_is = omega (arith, longer, counted);
        }

    pub going_ends : (used_up : E) (turns : ℕ) (end : E) → end_of x ≡ Some end → count < turns → WorksTo Step end_of used_up turns end from to
    going_ends used_up turns end ends less =
        let longer = one_longer so_far.steps x in
        let counted = so_far.count_is in (
          so_far.steps ++ x ∷ [],
          steps_more Step from mid to so_far.steps x so_far.are step,
          inl (omega (arith, longer, counted, less), record { front = so_far.steps; last = x; are = refl; going = so_far.going; ends = ends }),
        )

  pub going_out : (used_up : E) (turns : ℕ) (from to : S) → Going turns from to → WorksTo Step end_of used_up turns used_up from to
  going_out used_up turns from to so_far = (so_far.steps, so_far.are, inr (refl, so_far.count_is, so_far.going))

-- ---- over a gate that stands for a core

module _ {W S R E : Type 0} (Stands : W → Core → Log → Type 0) (Adds : W → List CallMade → W → Type 0) (Step : S → StepMade R → S → Type 0) (core_of : S → Core) (end_of : R → Option E) where
  -- so many steps, of which none is an end, and the gate behind them
  pub record SoFar (Left : S → Type 0) (count : ℕ) (from : S) (log : Log) (old new : W) : Type 0 where
    pub steps : List (StepMade R)
    pub last : S
    pub are : AreSteps Step from steps last
    pub left : Left last
    pub own : Adds old (calls_of steps) new
    pub goes_on : GoesFor Nobody (core_of from) (core_of last)
    pub stands : Stands new (core_of last) log
    pub going : AllByRecursion (λ (step : StepMade R). end_of step.result ≡ None) steps
    pub count_is : length steps ≡ count

  -- one step, and the gate behind it
  pub record OneStep (Left : S → Type 0) (result : R) (from : S) (log : Log) (old new : W) : Type 0 where
    pub made : List CallMade
    pub to : S
    pub left : Left to
    pub step : Step from (record { result = result; made = made }) to
    pub own : Adds old made new
    pub goes_on : GoesFor Nobody (core_of from) (core_of to)
    pub stands : Stands new (core_of to) log

  pub none_so_far : ((gate : W) → Adds gate [] gate) → (Left : S → Type 0) (from : S) (log : Log) (gate : W) → Left from → Stands gate (core_of from) log → SoFar Left 0 from log gate gate
  none_so_far adds_none Left from log gate left stands =
      record {
        steps = [];
        last = from;
        are = refl;
        left = left;
        own = adds_none gate;
        goes_on = stays_as_is Nobody (core_of from);
        stands = stands;
        going = tt;
        count_is = refl;
      }

  module _ (adds_more : (first mid last : W) (made more : List CallMade) → Adds first made mid → Adds mid more last → Adds first (made ++ more) last)
      (Before Left : S → Type 0) (count : ℕ) (from : S) (log : Log) (old mid new : W) (so_far : SoFar Before count from log old mid) (result : R) (one : OneStep Left result so_far.last log mid new) where
    abbrev this : StepMade R
    this = record { result = result; made = one.made }

    abbrev all : List (StepMade R)
    all = so_far.steps ++ this ∷ []

    are_all : AreSteps Step from all one.to
    are_all = steps_more Step from so_far.last one.to so_far.steps this so_far.are one.step

    own_all : Adds old (calls_of all) new
    own_all =
        let P : List CallMade → Type 0 = λ calls. Adds old calls new in
        subst P (sym (calls_more so_far.steps this)) (adds_more old mid new (calls_of so_far.steps) one.made so_far.own one.own)

    goes_all : GoesFor Nobody (core_of from) (core_of one.to)
    goes_all = goes_then (core_of from) (core_of so_far.last) (core_of one.to) so_far.goes_on one.goes_on

    count_all : length all ≡ count + 1
    count_all = let longer = one_longer so_far.steps this in let counted = so_far.count_is in omega (arith, longer, counted)

    pub one_more : end_of result ≡ None → SoFar Left (count + 1) from log old new
    one_more goes =
        record {
          steps = all;
          last = one.to;
          are = are_all;
          left = one.left;
          own = own_all;
          goes_on = goes_all;
          stands = one.stands;
          going = All-snoc (λ (step : StepMade R). end_of step.result ≡ None) so_far.steps this so_far.going goes;
          count_is = count_all;
        }

    pub ended_here : (used_up : E) (turns : ℕ) (end : E) → end_of result ≡ Some end → count < turns →
        Ran Stands Adds (λ made after. Works Step core_of end_of used_up Left turns end from made after) (core_of from) log old new
    ended_here used_up turns end ends less =
        record {
          made = calls_of all;
          after = core_of one.to;
          own = own_all;
          goes_on = goes_all;
          stands = one.stands;
          did = record {
            steps = all;
            last = one.to;
            are = are_all;
            left = one.left;
            calls = refl;
            goes_on = stays_as_is Nobody (core_of one.to);
            ended = let counted = count_all in inl (omega (arith, counted, less), record { front = so_far.steps; last = this; are = refl; going = so_far.going; ends = ends });
          };
        }

  pub used_up_here : (Left : S → Type 0) (used_up : E) (turns : ℕ) (from : S) (log : Log) (old new : W) → SoFar Left turns from log old new →
      Ran Stands Adds (λ made after. Works Step core_of end_of used_up Left turns used_up from made after) (core_of from) log old new
  used_up_here Left used_up turns from log old new so_far =
      record {
        made = calls_of so_far.steps;
        after = core_of so_far.last;
        own = so_far.own;
        goes_on = so_far.goes_on;
        stands = so_far.stands;
        did = record {
          steps = so_far.steps;
          last = so_far.last;
          are = so_far.are;
          left = so_far.left;
          calls = refl;
          goes_on = stays_as_is Nobody (core_of so_far.last);
          ended = inr (refl, so_far.count_is, so_far.going);
        };
      }

-- what was done is more, in other words
pub ran_as : {W : Type 0} (Stands : W → Core → Log → Type 0) (Adds : W → List CallMade → W → Type 0) (Did More : List CallMade → Core → Type 0) (core : Core) (log : Log) (old new : W) →
    ((made : List CallMade) (after : Core) → Did made after → More made after) → Ran Stands Adds Did core log old new → Ran Stands Adds More core log old new
ran_as Stands Adds Did More core log old new more ran =
    record { made = ran.made; after = ran.after; own = ran.own; goes_on = ran.goes_on; stands = ran.stands; did = more ran.made ran.after ran.did }

-- ---- behind an actor's work

module _ {S R E : Type 0} (Step : S → StepMade R → S → Type 0) (core_of : S → Core) (end_of : R → Option E) (Left : S → Type 0) where
  -- the index may go on
  pub works_later : (used_up : E) (turns : ℕ) (end : E) (from : S) (made : List CallMade) (after later : Core) → GoesFor Nobody after later →
      Works Step core_of end_of used_up Left turns end from made after → Works Step core_of end_of used_up Left turns end from made later
  works_later used_up turns end from made after later on w =
      record { steps = w.steps; last = w.last; are = w.are; left = w.left; calls = w.calls; goes_on = goes_then (core_of w.last) after later w.goes_on on; ended = w.ended }

  module _ (step_goes : (a : S) (x : StepMade R) (b : S) → Step a x b → GoesFor Nobody (core_of a) (core_of b)) where
    pub steps_go : (from to : S) (xs : List (StepMade R)) → AreSteps Step from xs to → GoesFor Nobody (core_of from) (core_of to)
    steps_go from to [] are = let P : S → Type 0 = λ s. GoesFor Nobody (core_of from) (core_of s) in subst P (sym are) (stays_as_is Nobody (core_of from))
    steps_go from to (x ∷ xs) are = goes_then (core_of from) (core_of are.0) (core_of to) (step_goes from x are.0 are.1) (steps_go are.0 to xs are.2)

    -- The cause of an end that fails: its step is the last one.
    module _ (used_up : E) (turns : ℕ) (end : E) (from : S) (made : List CallMade) (after : Core) (w : Works Step core_of end_of used_up Left turns end from made after) where
      pub end_cause : (before now : ℕ) → (end ≡ used_up → ⊥) → ((a : S) (x : StepMade R) (b : S) → Step a x b → end_of x.result ≡ Some end → PastCause before now (core_of a) (core_of b)) →
          (core_of from).store_faults ≤ last_count → IsCause before now (core_of from) after
      end_cause before now other cause within = by w.ended
        where
          by : EndsBy (λ (step : StepMade R). end_of step.result) used_up turns w.steps end → IsCause before now (core_of from) after
          by (inr out) = absurd (other out.0)
          by (inl ends) =
              let P : List (StepMade R) → Type 0 = λ xs. AreSteps Step from xs w.last in
              let split = last_step Step from w.last ends.1.front ends.1.last (subst P ends.1.are w.are) in
              let front = (steps_go from split.0 ends.1.front split.1).faults in
              let behind = w.goes_on.faults in
              let c = cause split.0 ends.1.last w.last split.2 ends.1.ends in
              let past = c.0 in
              let later = c.2 in
              (omega (arith, front, past, within), c.1, omega (arith, behind, later))

-- ---- a cause, where the index goes on

pub caused_later : (error : WorldError) (core after later : Core) → GoesFor Nobody after later → IsCaused error core after → IsCaused error core later
caused_later (errors.Memory e) core after later on c = tt
caused_later (errors.Refused refusal) core after later on c = tt
caused_later (errors.StoreFault before now) core after later on c = let up = on.faults in let high = c.2 in (c.0, c.1, omega (arith, up, high))
caused_later (errors.Missing key) core after later on c = tt
caused_later (errors.Corrupt key) core after later on c = tt
caused_later (errors.Foreign key) core after later on c = tt
caused_later errors.Full core after later on c = tt
caused_later (errors.Expired planned_at reached) core after later on c = tt
caused_later errors.NoIndex core after later on c = tt
caused_later errors.IndexExists core after later on c = tt
caused_later (errors.BadConfig bad) core after later on c = tt
