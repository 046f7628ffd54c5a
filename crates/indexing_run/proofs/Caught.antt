-- Where an indexer has caught up, the checkpoints of its partitions are at their ends from then on.
use Rattle.std.proofs.Common.{inl, inr, ℕ, List, [], ◌∷◌, ◌++◌, refl, sym, ap, ◌∙◌, subst, append_assoc, append-nil, arith}
use Rattle.std.specs.List.{AllByRecursion}
use Rattle.std.specs.Prelude.{Option}
use Rattle.meta_journal.specs.declared.entry.Entry.{Entry}
use Rattle.source_log.specs.Log.{Log}
use Rattle.index_world.specs.CallsMade.{Ask, CallMade, IsRecorded}
use Rattle.index_world.specs.Core.{Core, Nobody}
use Rattle.index_world.specs.Gate.{IsSoundCore}
use Rattle.index_world.specs.Ran.{AreSteps, StepMade, calls_of}
use Rattle.index_world.specs.World.{GoesFor}
use Rattle.indexing_run.specs.Asking.{IsCallFree, IsIdle, ask_of}
use Rattle.indexing_run.specs.IndexAll.{AreAtEnds, IndexerAt, IndexerDid, IndexerStep, Told, indexer_at}
use Rattle.indexing_run.specs.Places.{Indexer}
use Rattle.indexing_run.specs.Steps.{partitions_for}
use Rattle.indexing_run.specs.declared.indexer.Indexer.{Indexer as Reader}
use Rattle.indexing_run.specs.declared.indexing.IndexerEnd.TheVariants as ends
use Rattle.indexing_run.specs.IndexLaws.{AreEnds}
use Rattle.indexing_run.proofs.Rising.{IsFront, checkpoint_within, checkpoints_rise, taken_legal}

front_on : (a b c : List Entry) → IsFront a b → IsFront b c → IsFront a c
front_on a b c f g = (f.0 ++ g.0, g.1 ∙ (ap (λ (l : List Entry). l ++ g.0) f.1 ∙ append_assoc a f.0 g.0))

pub All-append : {X : Type 0} (P : X → Type 0) (xs ys : List X) → AllByRecursion P xs → AllByRecursion P ys → AllByRecursion P (xs ++ ys)
All-append P [] ys a b = b
All-append P (x ∷ xs) ys a b = (a.0, All-append P xs ys a.1 b)

All-mid : {X : Type 0} (P : X → Type 0) (xs : List X) (x : X) (ys : List X) → AllByRecursion P (xs ++ x ∷ ys) → P x
All-mid P [] x ys all = all.0
All-mid P (y ∷ xs) x ys all = All-mid P xs x ys all.1

-- what a call saw is the first of what stands behind it
abbrev SawFront : List Entry → CallMade → Type 0
SawFront entries call = IsFront call.history entries

recorded_front : (ask : Ask) (mid after : Core) (short : Type 0) (made : List CallMade) (entries : List Entry) → IsRecorded ask mid after short made → IsFront after.history entries → AllByRecursion (SawFront entries) made
recorded_front ask mid after short made entries (inl one) f = let P : List CallMade → Type 0 = λ calls. AllByRecursion (SawFront entries) calls in subst P (sym one) (f, tt)
recorded_front ask mid after short made entries (inr none) f = let P : List CallMade → Type 0 = λ calls. AllByRecursion (SawFront entries) calls in subst P (sym none.0) tt

module _ (Between : Core → Core → Type 0) (log : Log) where
  steps_front : (from to : IndexerAt) (steps : List (StepMade Told)) → AreSteps (IndexerStep Between log) from steps to → IsFront from.core.history to.core.history
  steps_front from to [] are = ([], ap (λ (at : IndexerAt). at.core.history) are ∙ sym (append-nil from.core.history))
  steps_front from to (step ∷ more) are = front_on from.core.history are.0.core.history to.core.history are.1.goes_on.grown (steps_front are.0 to more are.2)

  calls_front : (from to : IndexerAt) (steps : List (StepMade Told)) → AreSteps (IndexerStep Between log) from steps to → AllByRecursion (SawFront to.core.history) (calls_of steps)
  calls_front from to [] are = tt
  calls_front from to (step ∷ more) are =
      let s = are.1 in
      All-append (SawFront to.core.history) step.made (calls_of more)
      (recorded_front (ask_of from.indexer.place) s.mid are.0.core (IsCallFree from.indexer.place s.outcome) step.made to.core.history s.recorded (steps_front are.0 to more are.2))
      (calls_front are.0 to more are.2)

-- at the end when it was seen, and at the end now
still_ends : (log : Log) (seen : List Entry) (exit : Core) (names : List (List ℕ)) → IsFront seen exit.history → IsSoundCore exit log → AreAtEnds log names seen → AreEnds log names exit.history
still_ends log seen exit [] f s at = tt
still_ends log seen exit (name ∷ names) f s at =
    let past = checkpoints_rise seen exit.history name f (taken_legal exit log s) in
    let within = checkpoint_within exit log name s in
    let low = at.0 in
    (omega (arith, past, within, low), still_ends log seen exit names f s at.1)

pub ends_at_exit : {L : Type 0} (tells : L → Option Log) (count : L → ℕ) (Between : Core → Core → Type 0) (log : Log) (turns : ℕ) (reader : Reader L) (indexer : Indexer) (core : Core) (made : List CallMade) (after exit : Core) →
    IsIdle indexer.place → IndexerDid tells count Between log turns ends.CaughtUp reader indexer core made after → GoesFor Nobody after exit → IsSoundCore exit log → AreEnds log (partitions_for indexer.assignment log) exit.history
ends_at_exit tells count Between log turns reader indexer core made after exit idled d later s =
    let saw = d.caught_up refl idled in
    let w = d.works in
    let calls = calls_front Between log (indexer_at indexer core) w.last w.steps w.are in
    let P : List CallMade → Type 0 = λ l. AllByRecursion (SawFront w.last.core.history) l in
    let seen = All-mid (SawFront w.last.core.history) saw.front saw.seen saw.more (subst P (sym w.calls ∙ saw.are) calls) in
    let left = front_on saw.seen.history w.last.core.history after.history seen w.goes_on.grown in
    still_ends log saw.seen.history exit (partitions_for indexer.assignment log) (front_on saw.seen.history after.history exit.history left later.grown) s saw.at_ends
