-- What the end of an indexer says of the journal at the exit.
use Rattle.std.proofs.Common.{◌≡◌, inl, inr, ℕ, ◌-◌, ◌^◌, ◌≤◌, ◌<◌, Bool, true, false, List, [], ◌∷◌, length, refl, sym, ap, subst, arith}
use Rattle.std.proofs.lemmas.Bool.{ltb-false, ltb-true}
use Rattle.std.specs.List.{AllByRecursion}
use Rattle.std.specs.Prelude.{Option, Some, None, Ok, Err, nat_lt}
use Rattle.byte_fields.specs.Causes.{last_count}
use Rattle.index_config.specs.declared.config.IndexConfig.{IndexConfig}
use Rattle.meta_journal.specs.declared.entry.Entry.{Entry}
use Rattle.meta_store.specs.History.{history, moment_of}
use Rattle.meta_store.specs.Rows.{rows}
use Rattle.meta_store.specs.State.{Legal}
use Rattle.meta_store.specs.declared.refusal.Refusal.{Refusal}
use Rattle.meta_store.specs.declared.refusal.Refusal.TheVariants.{TooManyRows}
use Rattle.source_log.specs.Log.{IsLog, Log}
use Rattle.index_world.specs.Calls.{Fault, is_foreign, is_full, is_expired, faulted, no_memory}
use Rattle.index_world.specs.CallsMade.{Ask, CallMade, IsRecorded, made_of}
use Rattle.index_world.specs.Config.{reads}
use Rattle.index_world.specs.Core.{Core, Nobody}
use Rattle.index_world.specs.DirectLaws.{stays_as_is}
use Rattle.index_world.specs.Gate.{IsSoundCore, IsTrouble}
use Rattle.index_world.specs.Ran.{AreSteps, IsCause, IsCaused, StepMade, calls_of}
use Rattle.index_world.specs.World.{GoesFor}
use Rattle.index_world.specs.declared.world_error.WorldError.{WorldError}
use Rattle.index_world.specs.declared.world_error.WorldError.TheVariants as errors
use Rattle.indexing_run.specs.Asking.{IsCallFree, IsIdle, ask_of}
use Rattle.indexing_run.specs.IndexAll.{Holds, IndexerAt, IndexerDid, IndexerStep, Told, core_there, end_of, indexer_at}
use Rattle.indexing_run.specs.IndexLaws.{AreEnds, most_partitions}
use Rattle.indexing_run.specs.Making.{AreApart, IsAssigned}
use Rattle.indexing_run.specs.Outcomes.{IndexerOutcome, Faulted, Refused}
use Rattle.indexing_run.specs.Places.{Indexer, IndexerPlace, idle, reading, staged, uploaded}
use Rattle.indexing_run.specs.Standing.{Answers}
use Rattle.indexing_run.specs.Steps.{Stepped, batch_facts, partitions_for}
use Rattle.indexing_run.specs.declared.indexer.Indexer.{Indexer as Reader}
use Rattle.indexing_run.specs.declared.indexing.IndexerEnd.{IndexerEnd}
use Rattle.indexing_run.specs.declared.indexing.IndexerEnd.TheVariants as ends
use Rattle.indexing_run.specs.declared.outcome.IndexerOutcome.TheVariants as said
use Rattle.indexing_run.proofs.Caught.{ends_at_exit}
use Rattle.indexing_run.proofs.Rising.{checkpoint_within, checkpoints_rise, taken_legal}
use Rattle.indexing_run.proofs.Steps.{assigned_apart}
use Rattle.indexing_run.proofs.Turns.{turns_enough}
use Rattle.call_laws.proofs.CallTells.{IsLowCore}
use Rattle.root_search.proofs.Stands.{legal_before}
use Rattle.thread_run.specs.Meanwhile.{IsBefore, IsCalled}
use Rattle.thread_run.specs.ClientReplies.{IsReached}
use Rattle.thread_run.specs.Ends.{FaultsIndexer, IndexerEnded}
use Rattle.thread_run.proofs.CallsSay.{FaultAt, crowded_here}
use Rattle.thread_run.proofs.IndexerSteps.{IsGood, IsStep, IsUnstaged, Says, step_is}
use Rattle.thread_run.proofs.LastSteps.{LastStep, ends_last, works_go}
use Rattle.thread_run.proofs.Lists.{all_back}
use Rattle.thread_run.proofs.Replies.{cause_wider}

-- ---- what an answer of the code is

fault_told : (told : Told) (error : WorldError) → end_of told ≡ Some (ends.Fault error) → told ≡ Ok (said.Fault error)
fault_told (Ok said.Checkpoint) error e = absurd cc
fault_told (Ok (said.Read count)) error e = absurd cc
fault_told (Ok (said.Staged number)) error e = absurd cc
fault_told (Ok (said.Uploaded number)) error e = absurd cc
fault_told (Ok (said.Published number)) error e = absurd cc
fault_told (Ok said.CaughtUp) error e = absurd cc
fault_told (Ok (said.Stale partition current from)) error e = absurd cc
fault_told (Ok (said.Lost number refusal)) error e = absurd cc
fault_told (Ok (said.Refused refusal)) error e = absurd cc
fault_told (Ok (said.Fault other)) error e = let same : other ≡ error = cc in ap (λ x. Ok (said.Fault x)) same
fault_told (Ok (said.SourceFault before after)) error e = absurd cc
fault_told (Err short) error e = absurd cc

refused_told : (told : Told) (refusal : Refusal) → end_of told ≡ Some (ends.Refused refusal) → told ≡ Ok (said.Refused refusal)
refused_told (Ok said.Checkpoint) refusal e = absurd cc
refused_told (Ok (said.Read count)) refusal e = absurd cc
refused_told (Ok (said.Staged number)) refusal e = absurd cc
refused_told (Ok (said.Uploaded number)) refusal e = absurd cc
refused_told (Ok (said.Published number)) refusal e = absurd cc
refused_told (Ok said.CaughtUp) refusal e = absurd cc
refused_told (Ok (said.Stale partition current from)) refusal e = absurd cc
refused_told (Ok (said.Lost number other)) refusal e = absurd cc
refused_told (Ok (said.Refused other)) refusal e = let same : other ≡ refusal = cc in ap (λ x. Ok (said.Refused x)) same
refused_told (Ok (said.Fault other)) refusal e = absurd cc
refused_told (Ok (said.SourceFault before after)) refusal e = absurd cc
refused_told (Err short) refusal e = absurd cc

-- the fault that it stands for
record IsFault (error : WorldError) (outcome : Option IndexerOutcome) : Type 0 where
  fault : Fault
  is : outcome ≡ Some (Faulted fault)
  of : IsTrouble error (faulted fault)

fault_is : (error : WorldError) (outcome : Option IndexerOutcome) → Answers (Ok (said.Fault error)) outcome → IsFault error outcome
fault_is error None a = absurd a
fault_is error (Some outcome) a = record { fault = a.0; is = ap (λ o. Some o) a.1; of = a.2 }

refusal_is : (refusal : Refusal) (outcome : Option IndexerOutcome) → Answers (Ok (said.Refused refusal)) outcome → outcome ≡ Some (Refused refusal)
refusal_is refusal None a = absurd a
refusal_is refusal (Some outcome) a = ap (λ o. Some o) a

recorded_so : (ask : Ask) (mid after : Core) (place : IndexerPlace) (outcome : IndexerOutcome) (o : Option IndexerOutcome) (made : List CallMade) → o ≡ Some outcome → (IsCallFree place (Some outcome) → ⊥) →
    IsRecorded ask mid after (IsCallFree place o) made → made ≡ made_of ask after ∷ []
recorded_so ask mid after place outcome o made is never (inl once) = once
recorded_so ask mid after place outcome o made is never (inr none) = let P : Option IndexerOutcome → Type 0 = λ x. IsCallFree place x in absurd (never (subst P is none.2))

idle_good : (place : IndexerPlace) → IsIdle place → IsGood place
idle_good idle i = tt
idle_good (reading batch) i = absurd i
idle_good (staged held) i = tt
idle_good (uploaded held) i = tt

-- a place where it was refused was one of a batch
good_delta : (place : IndexerPlace) (core : Core) (refusal : Refusal) → 0 < length core.history → Legal reads (history core.history) → moment_of (history core.history) ≤ core.moment → IsGood place → IsUnstaged place core refusal →
    (100000 ≤ length (rows (history core.history))) × (refusal ≡ TooManyRows (length (rows (history core.history))))
good_delta idle core refusal some legal greatest good u = absurd u
good_delta (reading batch) core refusal some legal greatest good u = crowded_here core.history core.moment legal some greatest batch.parts (batch_facts batch) refusal good.delta u
good_delta (staged held) core refusal some legal greatest good u = absurd u
good_delta (uploaded held) core refusal some legal greatest good u = absurd u

-- From the first core to the last, behind which the journal went on up to the exit.
module _ (config : IndexConfig) (log : Log) (is_log : IsLog log) (Between : Core → Core → Type 0) (goes : (core mid : Core) → Between core mid → GoesFor Nobody core mid)
    (keeps_low : (core mid : Core) → Between core mid → IsLowCore core → IsLowCore mid) (first last exit : Core) (low_first : IsLowCore first) (some : 0 < length first.history)
    (at_last : IsSoundCore last log) (at_exit : IsSoundCore exit log) (on : IsBefore last exit) (counted : last.store_faults ≤ last_count) where
  module _ (names : List (List ℕ)) (apart : AreApart names) where
    -- what is known along its steps
    record Good (at : IndexerAt) : Type 0 where
      low : IsLowCore at.core
      good : IsGood at.indexer.place
      has : partitions_for at.indexer.assignment log ≡ names

    one_step : (from : IndexerAt) (step : StepMade Told) (to : IndexerAt) (s : IndexerStep Between log from step to) → Good from →
        IsStep names from.indexer.place log (record { outcome = s.outcome; indexer = to.indexer; core = to.core })
    one_step from step to s g =
        let P : Stepped → Type 0 = λ st. IsStep names from.indexer.place log st in
        subst P s.did (step_is s.luck log s.mid (keeps_low from.core s.mid s.passed g.low) names apart from.indexer g.good g.has)

    all_good : (from to : IndexerAt) (steps : List (StepMade Told)) → AreSteps (IndexerStep Between log) from steps to → Good from → Good to
    all_good from to [] are g = subst Good (sym are) g
    all_good from to (step ∷ steps) are g = let s = one_step from step are.0 are.1 g in all_good are.0 to steps are.2 (record { low = s.low; good = s.good; has = s.names_are })

  -- the checkpoints stay at their ends
  ends_on : (names : List (List ℕ)) → AreEnds log names last.history → AreEnds log names exit.history
  ends_on [] at = tt
  ends_on (name ∷ names) at =
      let rise = checkpoints_rise last.history exit.history name on.grown (taken_legal exit log at_exit) in
      let within = checkpoint_within exit log name at_exit in
      let here = at.0 in
      (omega (arith, rise, within, here), ends_on names at.1)

  legal_last : Legal reads (history last.history)
  legal_last = taken_legal last log at_last

  module _ {L : Type 0} (tells : L → Option Log) (count : L → ℕ) (reader : Reader L) (indexer : Indexer) (made : List CallMade) (called : AllByRecursion (IsCalled first exit) made) (idled : IsIdle indexer.place)
      (assigned : IsAssigned indexer.assignment) where
    abbrev names : List (List ℕ)
    names = partitions_for indexer.assignment log

    abbrev Did : IndexerEnd → Type 0
    Did end = IndexerDid tells count Between log (2 ^ 64 - 1) end reader indexer first made last

    abbrev Ended : IndexerEnd → Type 0
    Ended end = IndexerEnded config log exit.history (length first.history) first exit (partitions_for indexer.assignment log) indexer.log_faults (count reader.log) end

    module _ (end : IndexerEnd) (d : Did end) (other : end ≡ ends.Turns → ⊥) where
      abbrev end_step : LastStep (IndexerStep Between log) core_there end_of ends.Turns (Holds tells count log reader) end (indexer_at indexer first) d.works.last made
      end_step = ends_last (IndexerStep Between log) core_there end_of ends.Turns (Holds tells count log reader) (2 ^ 64 - 1) end (indexer_at indexer first) made last d.works other

      start : Good names (assigned_apart log indexer.assignment is_log assigned) (indexer_at indexer first)
      start = record { low = low_first; good = idle_good indexer.place idled; has = refl }

      end_good : Good names (assigned_apart log indexer.assignment is_log assigned) end_step.mid
      end_good = all_good names (assigned_apart log indexer.assignment is_log assigned) (indexer_at indexer first) end_step.mid end_step.front end_step.are start

      end_is : IsStep names end_step.mid.indexer.place log (record { outcome = end_step.did.outcome; indexer = d.works.last.indexer; core = d.works.last.core })
      end_is = one_step names (assigned_apart log indexer.assignment is_log assigned) end_step.mid end_step.step d.works.last end_step.did end_good

      abbrev left : Core
      left = d.works.last.core

      -- its call was recorded
      end_called : (outcome : IndexerOutcome) → end_step.did.outcome ≡ Some outcome → (IsCallFree end_step.mid.indexer.place (Some outcome) → ⊥) → IsCalled first exit (made_of (ask_of end_step.mid.indexer.place) left)
      end_called outcome is never =
          let one = recorded_so (ask_of end_step.mid.indexer.place) end_step.did.mid left end_step.mid.indexer.place outcome end_step.did.outcome end_step.step.made is never end_step.did.recorded in
          let all = all_back (IsCalled first exit) (calls_of end_step.front) end_step.step.made (subst (AllByRecursion (IsCalled first exit)) end_step.calls called) in
          (subst (AllByRecursion (IsCalled first exit)) one all).0

      left_legal : Legal reads (history left.history)
      left_legal = legal_before left.history last.history d.works.goes_on.grown.0 d.works.goes_on.grown.1 legal_last

    -- ---- refused

    refused_ended : (refusal : Refusal) → Did (ends.Refused refusal) → Ended (ends.Refused refusal)
    refused_ended refusal d =
        let end = ends.Refused refusal in
        let other : end ≡ ends.Turns → ⊥ = λ e. cc in
        let last_one = end_step end d other in
        let told = refused_told last_one.step.result refusal last_one.ends in
        let outcome_is = refusal_is refusal last_one.did.outcome (subst (λ (t : Told). Answers t last_one.did.outcome) told last_one.did.answer) in
        let place = last_one.mid.indexer.place in
        let core = d.works.last.core in
        let call = end_called end d other (Refused refusal) outcome_is (λ f. f) in
        let says : IsUnstaged place core refusal = subst (Says place core) outcome_is (end_is end d other).says in
        let low = call.begins in
        let crowd = good_delta place core refusal (omega (arith, some, low)) (left_legal end d other) call.greatest (end_good end d other).good says in
        let P : List Entry → Type 0 = λ es. (100000 ≤ length (rows (history es))) × (refusal ≡ TooManyRows (length (rows (history es)))) in
        (length core.history, (call.begins, call.ends), subst P call.front crowd)

    -- ---- a fault

    fault_same : (x y : Fault) → faulted x ≡ faulted y → x ≡ y
    fault_same x y e = cc

    fault_wanted : (x : Fault) → faulted x ≡ no_memory → ⊥
    fault_wanted x e = cc

    by_error : (error : WorldError) (fault : Fault) (core : Core) → IsReached exit.history (length first.history) (length core.history) → IsTrouble error (faulted fault) → FaultAt core fault →
        ((before now : ℕ) → error ≡ errors.StoreFault before now → IsCause before now first exit) → FaultsIndexer config log exit.history (length first.history) first exit error
    by_error (errors.StoreFault before now) fault core reached of at cause = cause before now refl
    by_error errors.Full fault core reached of at cause = (length core.history, reached, subst (FaultAt core) (fault_same fault is_full of) at)
    by_error (errors.Foreign key) fault core reached of at cause = subst (FaultAt core) (fault_same fault (is_foreign key) of) at
    by_error (errors.Memory e) fault core reached of at cause = fault_wanted fault of
    by_error (errors.Expired planned_at now) fault core reached of at cause = subst (FaultAt core) (fault_same fault (is_expired planned_at now) of) at
    by_error error fault core reached of at cause = of

    -- a step that came to a fault
    step_fails : (error : WorldError) (place : IndexerPlace) (core : Core) (outcome : Option IndexerOutcome) → IsFault error outcome → ((fault : Fault) → outcome ≡ Some (Faulted fault) → IsReached exit.history (length first.history) (length core.history)) →
        Says place core outcome → ((before now : ℕ) → error ≡ errors.StoreFault before now → IsCause before now first exit) → FaultsIndexer config log exit.history (length first.history) first exit error
    step_fails error place core outcome fault reached says cause = by_error error fault.fault core (reached fault.fault fault.is) fault.of (subst (Says place core) fault.is says) cause

    fault_ended : (error : WorldError) → Did (ends.Fault error) → Ended (ends.Fault error)
    fault_ended error d =
        let end = ends.Fault error in
        let other : end ≡ ends.Turns → ⊥ = λ e. cc in
        let last_one = end_step end d other in
        let told = fault_told last_one.step.result error last_one.ends in
        step_fails error last_one.mid.indexer.place d.works.last.core last_one.did.outcome (fault_is error last_one.did.outcome (subst (λ (t : Told). Answers t last_one.did.outcome) told last_one.did.answer))
        (λ fault is. let call = end_called end d other (Faulted fault) is (λ f. f) in (call.begins, call.ends)) (end_is end d other).says (λ before now is. cause before now is)
      where
        within : first.store_faults ≤ last_count
        within = let up = (works_go (IndexerStep Between log) core_there end_of (Holds tells count log reader) (λ a x b s. s.goes_on) ends.Turns (2 ^ 64 - 1) (ends.Fault error) (indexer_at indexer first) made last d.works).faults in omega (arith, up, counted)

        cause : (before now : ℕ) → error ≡ errors.StoreFault before now → IsCause before now first exit
        cause before now is = cause_wider before now first first last exit (stays_as_is Nobody first) on (subst (λ (e : WorldError). IsCaused e first last) is (d.cause within))

    -- ---- AN INDEXER'S END

    pub indexer_ended : (end : IndexerEnd) → Did end → indexer.log_faults ≤ last_count → Ended end
    indexer_ended ends.CaughtUp d low = ends_on names (ends_at_exit tells count Between log (2 ^ 64 - 1) reader indexer first made last last idled d (stays_as_is Nobody last) at_last)
    indexer_ended (ends.Refused refusal) d low = refused_ended refusal d
    indexer_ended (ends.Fault error) d low = fault_ended error d
    indexer_ended (ends.SourceFault before now) d low =
        let s = d.source low in
        let is = s.2 in
        let same = d.works.left.log_faults in
        (s.0, s.1, omega (arith, is, same))
    indexer_ended ends.Turns d low = by (nat_lt most_partitions (length (partitions_for indexer.assignment log))) refl
      where
        by : (b : Bool) → nat_lt most_partitions (length (partitions_for indexer.assignment log)) ≡ b → most_partitions < length (partitions_for indexer.assignment log)
        by true e = ltb-true most_partitions (length (partitions_for indexer.assignment log)) e
        by false e =
            absurd (turns_enough tells count Between goes log ends.Turns reader indexer first last last made idled (ltb-false most_partitions (length (partitions_for indexer.assignment log)) e) d (stays_as_is Nobody last) at_last refl)
    indexer_ended ends.Memory d low = tt
