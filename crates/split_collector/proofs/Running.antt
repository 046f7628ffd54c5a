-- Calls that follow one another, over a core and over any gate.
use Rattle.std.proofs.Common.{◌≡◌, inl, inr, List, [], ◌∷◌, ◌++◌, refl, sym, ap, ◌∙◌, subst, append_assoc, append-nil, Option, Some, None}
use Rattle.std.specs.Prelude.{IsSome}
use Rattle.object_store.specs.Store.{State}
use Rattle.source_log.specs.Log.{Log}
use Rattle.index_world.specs.Answering.{Answered}
use Rattle.index_world.specs.CallsMade.{Ask, CallMade, IsRecorded}
use Rattle.index_world.specs.Core.{Core, IsOther, Nobody}
use Rattle.index_world.specs.DirectLaws.{stays_as_is}
use Rattle.index_world.specs.World.{GoesFor, GoesOn}
use Rattle.index_world.proofs.InCore.{goes_both}
use Rattle.split_collector.specs.Ending.{AreCalls, CallsTo, Leads, Sweeps, Told}
use Rattle.split_collector.specs.Outcomes.{Outcome}
use Rattle.split_collector.specs.Standing.{Alike, CollectsAs}
use Rattle.split_collector.specs.Steps.{ArePassed, AreRecorded, CallLuck, IsCallAt, Passage, Stand, ask_at, ran, stand, turned}
use Rattle.split_collector.specs.Turns.{Turn, ended}

-- ---- passages behind others

ran_behind : (from mid : Turn (Option Outcome)) (core left : Core) (xs ys : List Passage) → ran from core xs ≡ stand mid left → ran from core (xs ++ ys) ≡ ran mid left ys
ran_behind from mid core left [] ys e = ap (λ (s : Stand). ran s.turn s.core ys) e
ran_behind from mid core left (p ∷ xs) ys e = let next = turned from p.luck p.core in ran_behind next.turn mid next.core left xs ys e

passed_more : (Between : Core → Core → Type 0) (from mid : Turn (Option Outcome)) (core left : Core) (xs ys : List Passage) → ran from core xs ≡ stand mid left → ArePassed Between from core xs → ArePassed Between mid left ys → ArePassed Between from core (xs ++ ys)
passed_more Between from mid core left [] ys e a b = subst (λ (s : Stand). ArePassed Between s.turn s.core ys) (sym e) b
passed_more Between from mid core left (p ∷ xs) ys e a b =
    let next = turned from p.luck p.core in
    (a.0, a.1, a.2, passed_more Between next.turn mid next.core left xs ys e a.3 b)

recorded_more : (from mid : Turn (Option Outcome)) (core left : Core) (xs ys : List Passage) (made more : List CallMade) → ran from core xs ≡ stand mid left → AreRecorded from xs made → AreRecorded mid ys more → AreRecorded from (xs ++ ys) (made ++ more)
recorded_more from mid core left [] ys made more e a b =
    subst (λ (l : List CallMade). AreRecorded from ys (l ++ more)) (sym a) (subst (λ (t : Turn (Option Outcome)). AreRecorded t ys more) (sym (ap (λ (s : Stand). s.turn) e)) b)
recorded_more from mid core left (p ∷ xs) ys made more e a b =
    let next = turned from p.luck p.core in
    (a.0, a.1, a.2 ++ more, a.3, ap (λ (l : List CallMade). l ++ more) a.4 ∙ append_assoc a.1 a.2 more, a.5, recorded_more next.turn mid next.core left xs ys a.2 more e a.6 b)

pub short_as : (ask : Ask) (mid after : Core) (short other : Type 0) (made : List CallMade) → (short → other) → IsRecorded ask mid after short made → IsRecorded ask mid after other made
short_as ask mid after short other made f (inl once) = inl once
short_as ask mid after short other made f (inr none) = inr (none.0, none.1, f none.2)

-- ---- what the code's calls do to a core

-- calls behind others are the gate's own too
abbrev pub AddsMore : {W : Type 0} → (W → List CallMade → W → Type 0) → Type 0
AddsMore {W} Adds = (first mid last : W) (made more : List CallMade) → Adds first made mid → Adds mid more last → Adds first (made ++ more) last

-- what others do, the index goes on
abbrev pub BetweenGoes : (Core → Core → Type 0) → Type 0
BetweenGoes Between = (core mid : Core) → Between core mid → GoesFor Nobody core mid

module _ {W : Type 0} (Stands : W → Core → Log → Type 0) (Between : Core → Core → Type 0) (Adds : W → List CallMade → W → Type 0) where
  -- none
  pub none_collects : (from : Turn (Option Outcome)) (to : Turn Told) (core : Core) (log : Log) (gate : W) → Alike to from → Adds gate [] gate → Stands gate core log → CollectsAs Stands Between Adds from to core log gate gate
  none_collects from to core log gate alike own stands =
      record {
        passages = [];
        passed = tt;
        reached = from;
        after = core;
        did = refl;
        alike = alike;
        stands = stands;
        always = stays_as_is Nobody core;
        alone = λ none. stays_as_is (IsOther None) core;
        made = [];
        own = own;
        recorded = refl;
      }

  -- one, and the core behind it
  pub one_collects_at : BetweenGoes Between → (from reached : Turn (Option Outcome)) (to : Turn Told) (ask : Ask) (luck : CallLuck) (core mid after : Core) (log : Log) (old new : W) (made : List CallMade) → ask_at from ≡ Some ask → Between core mid → IsCallAt from (record { core = mid; luck = luck })
      → turned from luck mid ≡ stand reached after → Alike to reached → GoesOn None mid after → Stands new after log → Adds old made new → IsRecorded ask mid after (reached ≡ ended None) made → (f : CollectsAs Stands Between Adds from to core log old new) × (f.after ≡ after)
  one_collects_at goes from reached to ask luck core mid after log old new made asks passed paged does alike on stands own recorded = (
    record {
      passages = record { core = mid; luck = luck } ∷ [];
      passed = (subst (λ (o : Option Ask). IsSome o) (sym asks) refl, passed, paged, tt);
      reached = reached;
      after = after;
      did = does;
      alike = alike;
      stands = stands;
      always = goes_both Nobody (IsOther None) Nobody core mid after (λ n kept. (kept, absurd kept)) (goes core mid passed) on;
      alone = λ none. subst (λ (c : Core). GoesOn None c after) (none core mid passed) on;
      made = made;
      own = own;
      recorded = (ask, made, [], asks, sym (append-nil made), subst (λ (s : Stand). IsRecorded ask mid s.core (s.turn ≡ ended None) made) (sym does) recorded, refl);
    },
    refl,
  )

  pub one_collects : BetweenGoes Between → (from reached : Turn (Option Outcome)) (to : Turn Told) (ask : Ask) (luck : CallLuck) (core mid after : Core) (log : Log) (old new : W) (made : List CallMade) → ask_at from ≡ Some ask → Between core mid → IsCallAt from (record { core = mid; luck = luck })
      → turned from luck mid ≡ stand reached after → Alike to reached → GoesOn None mid after → Stands new after log → Adds old made new → IsRecorded ask mid after (reached ≡ ended None) made → CollectsAs Stands Between Adds from to core log old new
  one_collects goes from reached to ask luck core mid after log old new made asks passed paged does alike on stands own recorded =
      (one_collects_at goes from reached to ask luck core mid after log old new made asks passed paged does alike on stands own recorded).0

  -- some behind others
  pub then_collects : AddsMore Adds → (from mid : Turn (Option Outcome)) (next to : Turn Told) (core : Core) (log : Log) (old gate new : W) → (f : CollectsAs Stands Between Adds from next core log old gate) → f.reached ≡ mid → CollectsAs Stands Between Adds mid to f.after log gate new
      → CollectsAs Stands Between Adds from to core log old new
  then_collects adds from mid next to core log old gate new f at b =
      let did = f.did ∙ ap (λ (t : Turn (Option Outcome)). stand t f.after) at in
      record {
        passages = f.passages ++ b.passages;
        passed = passed_more Between from mid core f.after f.passages b.passages did f.passed b.passed;
        reached = b.reached;
        after = b.after;
        did = ran_behind from mid core f.after f.passages b.passages did ∙ b.did;
        alike = b.alike;
        stands = b.stands;
        always = goes_both Nobody Nobody Nobody core f.after b.after (λ n kept. (kept, kept)) f.always b.always;
        alone = λ none. goes_both (IsOther None) (IsOther None) (IsOther None) core f.after b.after (λ n kept. (kept, kept)) (f.alone none) (b.alone none);
        made = f.made ++ b.made;
        own = adds old gate new f.made b.made f.own b.own;
        recorded = recorded_more from mid core f.after f.passages b.passages f.made b.made did f.recorded b.recorded;
      }

-- ---- whatever a gate tells

module _ {W : Type 0} (tells : W → Option State) (Answers : W → Answered → W → Type 0) where
  pub none_called : (from : Turn Told) (gate : W) → CallsTo tells Answers from from gate gate
  none_called from gate = ([], (refl, refl))

  pub one_called : (from to : Turn Told) (call : Answered) (old new : W) → Answers old call new → Sweeps (tells old) (tells new) call → Leads from call to → CallsTo tells Answers from to old new
  one_called from to call old new answered sweeps leads = (call ∷ [], (new, to, answered, sweeps, leads, (refl, refl)))

  calls_more : (from mid to : Turn Told) (xs ys : List Answered) (old gate new : W) → AreCalls tells Answers from old xs mid gate → AreCalls tells Answers mid gate ys to new → AreCalls tells Answers from old (xs ++ ys) to new
  calls_more from mid to [] ys old gate new a b = subst (λ (t : Turn Told). AreCalls tells Answers t old ys to new) a.0 (subst (λ (w : W). AreCalls tells Answers mid w ys to new) a.1 b)
  calls_more from mid to (x ∷ xs) ys old gate new a b = (a.0, a.1, a.2, a.3, a.4, calls_more a.1 mid to xs ys a.0 gate new a.5 b)

  pub then_called : (from mid to : Turn Told) (old gate new : W) → CallsTo tells Answers from mid old gate → CallsTo tells Answers mid to gate new → CallsTo tells Answers from to old new
  then_called from mid to old gate new a b = (a.0 ++ b.0, calls_more from mid to a.0 b.0 old gate new a.1 b.1)
