-- What the end of a merger or a delete worker says of the journal at the exit.
use Rattle.std.proofs.Common.{◌≡◌, inl, inr, ℕ, ◌≤◌, ◌<◌, List, [], ◌∷◌, length, refl, sym, ap, ◌∙◌, subst, arith}
use Rattle.std.proofs.lemmas.List.{length-append}
use Rattle.std.specs.List.{AllByRecursion}
use Rattle.std.specs.Prelude.{Option, Some, None, Ok, Err, ⊤}
use Rattle.byte_fields.specs.Causes.{last_count}
use Rattle.index_config.specs.declared.config.IndexConfig.{IndexConfig}
use Rattle.merge_policy.specs.Chosen.{chosen}
use Rattle.meta_journal.specs.declared.entry.Entry.{Entry}
use Rattle.meta_store.specs.History.{history, last_opstamp, moment_of}
use Rattle.meta_store.specs.Rows.{rows}
use Rattle.meta_store.specs.State.{Legal}
use Rattle.meta_store.specs.declared.refusal.Refusal.{Refusal}
use Rattle.meta_store.specs.declared.refusal.Refusal.TheVariants.{TooManyRows}
use Rattle.source_log.specs.Log.{Log}
use Rattle.index_world.specs.Calls.{Fault, is_foreign, is_full, is_expired, faulted, no_memory}
use Rattle.index_world.specs.CallsMade.{Ask, CallMade, IsRecorded, made_of}
use Rattle.index_world.specs.Config.{reads}
use Rattle.index_world.specs.Configuration.{config_or, configuration}
use Rattle.index_world.specs.Core.{Core, Nobody}
use Rattle.index_world.specs.DirectLaws.{stays_as_is}
use Rattle.index_world.specs.Gate.{IsTrouble}
use Rattle.index_world.specs.Index.{max_entries}
use Rattle.index_world.specs.Ran.{AreSteps, IsCause, IsCaused, StepMade, calls_of}
use Rattle.index_world.specs.World.{GoesFor}
use Rattle.index_world.specs.declared.world_error.WorldError.{WorldError}
use Rattle.index_world.specs.declared.world_error.WorldError.TheVariants as errors
use Rattle.index_world.proofs.Ran.{goes_then, steps_go}
use Rattle.upkeep_run.specs.Asking.{ask_of}
use Rattle.upkeep_run.specs.Ending.{Told}
use Rattle.upkeep_run.specs.Outcomes.{UpkeepOutcome, Faulted, Nothing, Refused}
use Rattle.upkeep_run.specs.Places.{WorkerPlace, fetching, idle, staged, uploaded}
use Rattle.upkeep_run.specs.Standing.{Answers}
use Rattle.upkeep_run.specs.Steps.{Stepped, config_in, rows_in}
use Rattle.upkeep_run.specs.WorkAll.{Holds, WorkerAt, WorkerDid, WorkerStep, core_there, end_of, worker_at}
use Rattle.upkeep_run.specs.declared.outcome.UpkeepOutcome.TheVariants as said
use Rattle.upkeep_run.specs.declared.work.Aim.{Aim}
use Rattle.upkeep_run.specs.declared.work.Aim.TheVariants.{Deleting, Merging}
use Rattle.upkeep_run.specs.declared.work.WorkerPlace.{WorkerPlace as HeldPlace}
use Rattle.upkeep_run.specs.declared.working.WorkerEnd.{WorkerEnd}
use Rattle.upkeep_run.specs.declared.working.WorkerEnd.TheVariants as ends
use Rattle.call_laws.proofs.CallTells.{IsLowCore}
use Rattle.root_search.proofs.Stands.{legal_before}
use Rattle.root_search.proofs.Stretches.{longer, under}
use Rattle.thread_run.specs.Meanwhile.{IsBefore, IsCalled}
use Rattle.thread_run.specs.ClientReplies.{IsReached}
use Rattle.thread_run.specs.Ends.{FaultsWorker, HadNothing, IsApplied, WorkerEnded}
use Rattle.thread_run.proofs.CallsSay.{FaultAt, crowded_here}
use Rattle.thread_run.proofs.LastSteps.{LastStep, all_going, ends_last, works_go}
use Rattle.thread_run.proofs.Lists.{all_back}
use Rattle.thread_run.proofs.Replies.{cause_wider}
use Rattle.thread_run.proofs.Rested.{all_applied, none_chosen}
use Rattle.thread_run.proofs.WorkerTurns.{turns_fewer}
use Rattle.thread_run.proofs.WorkerSteps.{FaultsAt, IsGood, IsIdleThen, IsStep, IsUnstaged, Says, step_is}

-- ---- what an answer of the code is

nothing_told : (told : Told) → end_of told ≡ Some ends.Nothing → told ≡ Ok said.Nothing
nothing_told (Ok said.Nothing) e = refl
nothing_told (Ok (said.Planned count)) e = absurd cc
nothing_told (Ok (said.Fetched number)) e = absurd cc
nothing_told (Ok (said.Staged number)) e = absurd cc
nothing_told (Ok (said.Uploaded number)) e = absurd cc
nothing_told (Ok (said.Replaced number)) e = absurd cc
nothing_told (Ok (said.Raised number)) e = absurd cc
nothing_told (Ok (said.Lost number refusal)) e = absurd cc
nothing_told (Ok (said.Refused refusal)) e = absurd cc
nothing_told (Ok (said.Fault error)) e = absurd cc
nothing_told (Err short) e = absurd cc

fault_told : (told : Told) (error : WorldError) → end_of told ≡ Some (ends.Fault error) → told ≡ Ok (said.Fault error)
fault_told (Ok said.Nothing) error e = absurd cc
fault_told (Ok (said.Planned count)) error e = absurd cc
fault_told (Ok (said.Fetched number)) error e = absurd cc
fault_told (Ok (said.Staged number)) error e = absurd cc
fault_told (Ok (said.Uploaded number)) error e = absurd cc
fault_told (Ok (said.Replaced number)) error e = absurd cc
fault_told (Ok (said.Raised number)) error e = absurd cc
fault_told (Ok (said.Lost number refusal)) error e = absurd cc
fault_told (Ok (said.Refused refusal)) error e = absurd cc
fault_told (Ok (said.Fault other)) error e = let same : other ≡ error = cc in ap (λ x. Ok (said.Fault x)) same
fault_told (Err short) error e = absurd cc

refused_told : (told : Told) (refusal : Refusal) → end_of told ≡ Some (ends.Refused refusal) → told ≡ Ok (said.Refused refusal)
refused_told (Ok said.Nothing) refusal e = absurd cc
refused_told (Ok (said.Planned count)) refusal e = absurd cc
refused_told (Ok (said.Fetched number)) refusal e = absurd cc
refused_told (Ok (said.Staged number)) refusal e = absurd cc
refused_told (Ok (said.Uploaded number)) refusal e = absurd cc
refused_told (Ok (said.Replaced number)) refusal e = absurd cc
refused_told (Ok (said.Raised number)) refusal e = absurd cc
refused_told (Ok (said.Lost number other)) refusal e = absurd cc
refused_told (Ok (said.Refused other)) refusal e = let same : other ≡ refusal = cc in ap (λ x. Ok (said.Refused x)) same
refused_told (Ok (said.Fault error)) refusal e = absurd cc
refused_told (Err short) refusal e = absurd cc

-- the turns are used up by no answer
never_turns : (told : Told) → end_of told ≡ Some ends.Turns → ⊥
never_turns (Ok said.Nothing) e = cc
never_turns (Ok (said.Planned count)) e = cc
never_turns (Ok (said.Fetched number)) e = cc
never_turns (Ok (said.Staged number)) e = cc
never_turns (Ok (said.Uploaded number)) e = cc
never_turns (Ok (said.Replaced number)) e = cc
never_turns (Ok (said.Raised number)) e = cc
never_turns (Ok (said.Lost number refusal)) e = cc
never_turns (Ok (said.Refused refusal)) e = cc
never_turns (Ok (said.Fault error)) e = cc
never_turns (Err short) e = cc

-- an answer that is no end has an outcome
going_some : (told : Told) (outcome : Option UpkeepOutcome) → end_of told ≡ None → Answers told outcome → outcome ≡ None → ⊥
going_some (Ok given) None e a none = a
going_some (Ok given) (Some outcome) e a none = cc
going_some (Err short) outcome e a none = cc

-- the fault that it stands for
record IsFault (error : WorldError) (outcome : Option UpkeepOutcome) : Type 0 where
  fault : Fault
  is : outcome ≡ Some (Faulted fault)
  of : IsTrouble error (faulted fault)

fault_is : (error : WorldError) (outcome : Option UpkeepOutcome) → Answers (Ok (said.Fault error)) outcome → IsFault error outcome
fault_is error None a = absurd a
fault_is error (Some outcome) a = record { fault = a.0; is = ap (λ o. Some o) a.1; of = a.2 }

refusal_is : (refusal : Refusal) (outcome : Option UpkeepOutcome) → Answers (Ok (said.Refused refusal)) outcome → outcome ≡ Some (Refused refusal)
refusal_is refusal None a = absurd a
refusal_is refusal (Some outcome) a = ap (λ o. Some o) a

nothing_is : (outcome : Option UpkeepOutcome) → Answers (Ok said.Nothing) outcome → outcome ≡ Some Nothing
nothing_is None a = absurd a
nothing_is (Some outcome) a = ap (λ o. Some o) a

recorded_so : (ask : Ask) (mid after : Core) (o : Option UpkeepOutcome) (made : List CallMade) → (o ≡ None → ⊥) → IsRecorded ask mid after (o ≡ None) made → made ≡ made_of ask after ∷ []
recorded_so ask mid after o made never (inl once) = once
recorded_so ask mid after o made never (inr none) = absurd (never none.2)

some_none : (x : UpkeepOutcome) (o : Option UpkeepOutcome) → o ≡ Some x → o ≡ None → ⊥
some_none x o e f = cc

-- From the first core to the last, behind which the journal went on up to the exit.
module _ (config : IndexConfig) (log : Log) (Between : Core → Core → Type 0) (goes : (core mid : Core) → Between core mid → GoesFor Nobody core mid) (keeps_low : (core mid : Core) → Between core mid → IsLowCore core → IsLowCore mid)
    (first last exit : Core) (low_first : IsLowCore first) (some : 0 < length first.history) (configured : configuration first.history ≡ Some config) (legal_last : Legal reads (history last.history))
    (on : IsBefore last exit) (counted : last.store_faults ≤ last_count) (aim : Aim) where
  -- what is known along its steps
  record Good (at : WorkerAt) : Type 0 where
    low : IsLowCore at.core
    good : IsGood config first.moment at.place

  config_there : (core : Core) → GoesFor Nobody first core → GoesFor Nobody core last → configuration core.history ≡ Some config
  config_there core from to = under first.history core.history last.history config from.grown to.grown legal_last configured

  one_step : (from : WorkerAt) (step : StepMade Told) (to : WorkerAt) (s : WorkerStep Between aim log from step to) → Good from →
      IsStep config first.moment aim from.place (record { outcome = s.outcome; place = to.place; core = to.core })
  one_step from step to s g =
      let P : Stepped → Type 0 = λ st. IsStep config first.moment aim from.place st in
      subst P s.did (step_is config first.moment s.luck log s.mid (keeps_low from.core s.mid s.passed g.low) aim from.place g.good)

  steps_there : (from to : WorkerAt) (steps : List (StepMade Told)) → AreSteps (WorkerStep Between aim log) from steps to → GoesFor Nobody from.core to.core
  steps_there from to steps are = steps_go (WorkerStep Between aim log) core_there end_of (λ at. ⊤) (λ a x b s. s.goes_on) from to steps are

  all_good : (from to : WorkerAt) (steps : List (StepMade Told)) → AreSteps (WorkerStep Between aim log) from steps to → GoesFor Nobody first from.core → GoesFor Nobody to.core last → Good from → Good to
  all_good from to [] are to_here to_last g = subst Good (sym are) g
  all_good from to (step ∷ steps) are to_here to_last g =
      let s = one_step from step are.0 are.1 g in
      let there = are.0.core in
      let going = goes_then first from.core there to_here are.1.goes_on in
      let rest = goes_then there to.core last (steps_there are.0 to steps are.2) to_last in
      let config_is : config_in there ≡ config = ap config_or (config_there there going rest) in
      all_good are.0 to steps are.2 going to_last (record { low = s.low; good = s.good config_is going.moment })

  module _ (turns : ℕ) (held : HeldPlace) (made : List CallMade) (called : AllByRecursion (IsCalled first exit) made) where
    abbrev Did : WorkerEnd → Type 0
    Did end = WorkerDid Between aim log turns end held idle first made last

    abbrev Ended : WorkerEnd → Type 0
    Ended end = WorkerEnded config log exit.history (length first.history) first exit aim turns (length made) end

    module _ (end : WorkerEnd) (d : Did end) (other : end ≡ ends.Turns → ⊥) where
      abbrev end_step : LastStep (WorkerStep Between aim log) core_there end_of ends.Turns (Holds aim log held) end (worker_at idle first) d.works.last made
      end_step = ends_last (WorkerStep Between aim log) core_there end_of ends.Turns (Holds aim log held) turns end (worker_at idle first) made last d.works other

      abbrev left : Core
      left = d.works.last.core

      to_mid : GoesFor Nobody first end_step.mid.core
      to_mid = steps_there (worker_at idle first) end_step.mid end_step.front end_step.are

      from_mid : GoesFor Nobody end_step.mid.core last
      from_mid = goes_then end_step.mid.core left last end_step.did.goes_on d.works.goes_on

      end_good : Good end_step.mid
      end_good = all_good (worker_at idle first) end_step.mid end_step.front end_step.are (stays_as_is Nobody first) from_mid (record { low = low_first; good = tt })

      end_is : IsStep config first.moment aim end_step.mid.place (record { outcome = end_step.did.outcome; place = d.works.last.place; core = d.works.last.core })
      end_is = one_step end_step.mid end_step.step d.works.last end_step.did end_good

      -- its call was recorded
      end_called : (outcome : UpkeepOutcome) → end_step.did.outcome ≡ Some outcome → IsCalled first exit (made_of (ask_of aim end_step.mid.place end_step.did.mid) left)
      end_called outcome is =
          let one = recorded_so (ask_of aim end_step.mid.place end_step.did.mid) end_step.did.mid left end_step.did.outcome end_step.step.made (some_none outcome end_step.did.outcome is) end_step.did.recorded in
          let all = all_back (IsCalled first exit) (calls_of end_step.front) end_step.step.made (subst (AllByRecursion (IsCalled first exit)) end_step.calls called) in
          (subst (AllByRecursion (IsCalled first exit)) one all).0

      to_left : GoesFor Nobody first left
      to_left = goes_then first end_step.mid.core left to_mid end_step.did.goes_on

      left_legal : Legal reads (history left.history)
      left_legal = legal_before left.history last.history d.works.goes_on.grown.0 d.works.goes_on.grown.1 legal_last

      left_some : 0 < length left.history
      left_some = let up = longer first.history left.history to_left.grown in omega (arith, some, up)

    -- ---- nothing to do

    idle_then : (which : Aim) (place : WorkerPlace) (core : Core) → IsIdleThen which place core → rows_in which core ≡ []
    idle_then which idle core h = h
    idle_then which (fetching work) core h = absurd h
    idle_then which (staged held) core h = absurd h
    idle_then which (uploaded held) core h = absurd h

    had_nothing : (which : Aim) (ask : Ask) (core : Core) → GoesFor Nobody first core → GoesFor Nobody core last → Legal reads (history core.history) → 0 < length core.history → IsCalled first exit (made_of ask core) →
        rows_in which core ≡ [] → HadNothing config log exit.history (length first.history) first exit which
    had_nothing Merging ask core from to legal any call none =
        let P : List Entry → Type 0 = λ es. chosen config.policy config.docs_target core.moment (rows (history es)) ≡ None in (
          length core.history,
          core.moment,
          record { reached = (call.begins, call.ends); since = call.since; until = call.until; greatest = subst (λ (es : List Entry). moment_of (history es) ≤ core.moment) call.front call.greatest },
          subst P call.front (none_chosen core legal any config (config_there core from to) none),
        )
    had_nothing Deleting ask core from to legal any call none =
        let P : List Entry → Type 0 = λ es. AllByRecursion (IsApplied (last_opstamp (history es))) (rows (history es)) in
        (length core.history, (call.begins, call.ends), subst P call.front (all_applied core legal any none))

    nothing_ended : Did ends.Nothing → Ended ends.Nothing
    nothing_ended d =
        let other : ends.Nothing ≡ ends.Turns → ⊥ = λ e. cc in
        let last_one = end_step ends.Nothing d other in
        let told = nothing_told last_one.step.result last_one.ends in
        let outcome_is = nothing_is last_one.did.outcome (subst (λ (t : Told). Answers t last_one.did.outcome) told last_one.did.answer) in
        let core = d.works.last.core in
        let says : IsIdleThen aim last_one.mid.place core = subst (Says aim last_one.mid.place core) outcome_is (end_is ends.Nothing d other).says in
        had_nothing aim (ask_of aim last_one.mid.place last_one.did.mid) core (to_left ends.Nothing d other) d.works.goes_on (left_legal ends.Nothing d other) (left_some ends.Nothing d other)
        (end_called ends.Nothing d other Nothing outcome_is) (idle_then aim last_one.mid.place core says)

    -- ---- refused

    refused_ended : (refusal : Refusal) → Did (ends.Refused refusal) → Ended (ends.Refused refusal)
    refused_ended refusal d =
        let end = ends.Refused refusal in
        let other : end ≡ ends.Turns → ⊥ = λ e. cc in
        let last_one = end_step end d other in
        let told = refused_told last_one.step.result refusal last_one.ends in
        let outcome_is = refusal_is refusal last_one.did.outcome (subst (λ (t : Told). Answers t last_one.did.outcome) told last_one.did.answer) in
        let core = d.works.last.core in
        let call = end_called end d other (Refused refusal) outcome_is in
        let says : IsUnstaged core refusal = subst (Says aim last_one.mid.place core) outcome_is (end_is end d other).says in
        let crowd = crowded_here core.history core.moment (left_legal end d other) (left_some end d other) call.greatest [] says.0 refusal tt says.1 in
        let P : List Entry → Type 0 = λ es. (100000 ≤ length (rows (history es))) × (refusal ≡ TooManyRows (length (rows (history es)))) in
        (length core.history, (call.begins, call.ends), subst P call.front crowd)

    -- ---- a fault

    fault_same : (x y : Fault) → faulted x ≡ faulted y → x ≡ y
    fault_same x y e = cc

    fault_wanted : (x : Fault) → faulted x ≡ no_memory → ⊥
    fault_wanted x e = cc

    full_at : (place : WorkerPlace) (core : Core) → FaultsAt place core is_full → max_entries ≤ length core.history
    full_at idle core h = h
    full_at (fetching work) core h = h
    full_at (staged held) core h = h
    full_at (uploaded held) core h = h

    foreign_at : (place : WorkerPlace) (core : Core) (key : List ℕ) → FaultsAt place core (is_foreign key) → FaultAt core (is_foreign key)
    foreign_at idle core key h = h
    foreign_at (fetching work) core key h = h
    foreign_at (staged held) core key h = h
    foreign_at (uploaded held) core key h = h

    abbrev Faults : WorldError → Type 0
    Faults error = FaultsWorker config log exit.history (length first.history) first exit error

    late_at : (place : WorkerPlace) (core : Core) (planned_at now : ℕ) → IsGood config first.moment place → core.moment ≤ exit.moment → FaultsAt place core (is_expired planned_at now) → Faults (errors.Expired planned_at now)
    late_at idle core planned_at now good low h = absurd h
    late_at (fetching work) core planned_at now good low h =
        let planned = h.0 in
        let over = h.1 in
        let here = h.2 in
        let least = good.1 in
        let grace : work.config.deletion_grace ≡ config.deletion_grace = ap (λ (c : IndexConfig). c.deletion_grace) good.0 in
        record { since = omega (arith, planned, least); over = omega (arith, planned, over, grace); until = omega (arith, here, low) }
    late_at (staged held) core planned_at now good low h = absurd h
    late_at (uploaded held) core planned_at now good low h = absurd h

    by_error : (error : WorldError) (fault : Fault) (place : WorkerPlace) (core : Core) → IsReached exit.history (length first.history) (length core.history) → core.moment ≤ exit.moment → IsGood config first.moment place →
        IsTrouble error (faulted fault) → FaultsAt place core fault → ((before now : ℕ) → error ≡ errors.StoreFault before now → IsCause before now first exit) → Faults error
    by_error (errors.StoreFault before now) fault place core reached low good of at cause = cause before now refl
    by_error errors.Full fault place core reached low good of at cause = (length core.history, reached, full_at place core (subst (FaultsAt place core) (fault_same fault is_full of) at))
    by_error (errors.Foreign key) fault place core reached low good of at cause = foreign_at place core key (subst (FaultsAt place core) (fault_same fault (is_foreign key) of) at)
    by_error (errors.Expired planned_at now) fault place core reached low good of at cause = late_at place core planned_at now good low (subst (FaultsAt place core) (fault_same fault (is_expired planned_at now) of) at)
    by_error (errors.Memory e) fault place core reached low good of at cause = fault_wanted fault of
    by_error error fault place core reached low good of at cause = of

    -- a step that came to a fault
    step_fails : {ask : Ask} → (error : WorldError) (place : WorkerPlace) (core : Core) (outcome : Option UpkeepOutcome) → IsGood config first.moment place → IsFault error outcome →
        ((fault : Fault) → outcome ≡ Some (Faulted fault) → IsCalled first exit (made_of ask core)) → Says aim place core outcome → ((before now : ℕ) → error ≡ errors.StoreFault before now → IsCause before now first exit) → Faults error
    step_fails error place core outcome good fault called says cause =
        let call = called fault.fault fault.is in
        by_error error fault.fault place core (call.begins, call.ends) call.until good fault.of (subst (Says aim place core) fault.is says) cause

    fault_ended : (error : WorldError) → Did (ends.Fault error) → Ended (ends.Fault error)
    fault_ended error d =
        let end = ends.Fault error in
        let other : end ≡ ends.Turns → ⊥ = λ e. cc in
        let last_one = end_step end d other in
        let told = fault_told last_one.step.result error last_one.ends in
        step_fails error last_one.mid.place d.works.last.core last_one.did.outcome (end_good end d other).good (fault_is error last_one.did.outcome (subst (λ (t : Told). Answers t last_one.did.outcome) told last_one.did.answer))
        (λ fault is. end_called end d other (Faulted fault) is) (end_is end d other).says (λ before now is. cause before now is)
      where
        within : first.store_faults ≤ last_count
        within =
            let up = (works_go (WorkerStep Between aim log) core_there end_of (Holds aim log held) (λ a x b s. s.goes_on) ends.Turns turns (ends.Fault error) (worker_at idle first) made last d.works).faults in omega (arith, up, counted)

        cause : (before now : ℕ) → error ≡ errors.StoreFault before now → IsCause before now first exit
        cause before now is = cause_wider before now first first last exit (stays_as_is Nobody first) on (subst (λ (e : WorldError). IsCaused e first last) is (d.cause within))

    -- ---- the turns are used up

    as_many : (from to : WorkerAt) (steps : List (StepMade Told)) → AreSteps (WorkerStep Between aim log) from steps to → AllByRecursion (λ (step : StepMade Told). end_of step.result ≡ None) steps → length (calls_of steps) ≡ length steps
    as_many from to [] are going = refl
    as_many from to (step ∷ steps) are going =
        let s = are.1 in
        let once = recorded_so (ask_of aim from.place s.mid) s.mid are.0.core s.outcome step.made (going_some step.result s.outcome going.0 s.answer) s.recorded in
        let one : length step.made ≡ 1 = ap (λ (l : List CallMade). length l) once in
        let all = length-append step.made (calls_of steps) in
        let rest = as_many are.0 to steps are.2 going.1 in
        omega (arith, one, all, rest)

    turns_ended : Did ends.Turns → Ended ends.Turns
    turns_ended d =
        let all = all_going (WorkerStep Between aim log) core_there end_of ends.Turns (Holds aim log held) turns ends.Turns (worker_at idle first) made last d.works refl never_turns in
        let one_each = as_many (worker_at idle first) d.works.last d.works.steps d.works.are all.going in
        let few = turns_fewer log Between goes aim last legal_last first exit first d.works.last d.works.steps d.works.are all.going (subst (AllByRecursion (IsCalled first exit)) d.works.calls called) d.works.goes_on some in
        let many = all.many in
        let way = longer last.history exit.history on.grown in
        let from = longer first.history last.history (works_go (WorkerStep Between aim log) core_there end_of (Holds aim log held) (λ a x b s. s.goes_on) ends.Turns turns ends.Turns (worker_at idle first) made last d.works).grown in
        (ap (λ (l : List CallMade). length l) d.works.calls ∙ (one_each ∙ all.many), omega (arith, few, many, way, from))

    -- ---- A WORKER'S END

    pub worker_ended : (end : WorkerEnd) → Did end → Ended end
    worker_ended ends.Nothing d = nothing_ended d
    worker_ended (ends.Refused refusal) d = refused_ended refusal d
    worker_ended (ends.Fault error) d = fault_ended error d
    worker_ended ends.Turns d = turns_ended d
    worker_ended ends.Memory d = tt
