-- A worker's step is one of its steps, and a fault that it answers has its cause.
use Rattle.std.proofs.Common.{◌≡◌, ℕ, ◌≤◌, Bool, true, false, List, [], ◌∷◌, refl, sym, ap, ◌∙◌, subst, min, arith}
use Rattle.std.specs.Prelude.{Option, Some, None, Result, Ok, Err, ⊤, if◌then◌else◌}
use Rattle.std.specs.declared.alloc.AllocError.{AllocError}
use Rattle.meta_journal.specs.Places.{split_key}
use Rattle.meta_journal.specs.declared.entry.Act.TheVariants.{Raise, Replace}
use Rattle.source_log.specs.Log.{Log}
use Rattle.split_states.specs.declared.rows.Row.{Row}
use Rattle.index_world.specs.Calls.{Fault, store_fault, Trouble, faulted, no_memory, Unmade, refused, troubled, Gives, gives, asked_and_looked, fetched, upload_made}
use Rattle.index_world.specs.CallsMade.{CallMade}
use Rattle.index_world.specs.Core.{Core, IsOther, Nobody, last_count}
use Rattle.index_world.specs.Gate.{raise_call, replace_call, stage_act, stage_call}
use Rattle.index_world.specs.World.{GoesFor}
use Rattle.index_world.specs.declared.world_error.WorldError.{WorldError}
use Rattle.index_world.specs.declared.world_error.WorldError.TheVariants as errors
use Rattle.index_world.proofs.InCore.{goes_less}
use Rattle.index_world.specs.Ran.{IsCaused, Ran, StepMade, Works}
use Rattle.index_world.proofs.CallCauses.{Caused, FaultWithin, TroubleWithin, UnmadeWithin, appended_caused, as_given, asked_and_looked_caused, fault_wider, fetched_caused, file_caused}
use Rattle.index_world.proofs.Ran.{OneStep, Past, PastCause, caused_later, end_cause, goes_then, ran_as, works_later}
use Rattle.upkeep_run.specs.Ending.{Told}
use Rattle.upkeep_run.specs.Outcomes.{UpkeepOutcome, Nothing, Planned, Fetched, Staged, Uploaded, Replaced, Raised, Lost, Refused, Faulted}
use Rattle.upkeep_run.specs.Places.{WorkerHeld, WorkerPlace, Work, fetching, held_facts, held_file, idle, number_held, staged, uploaded}
use Rattle.upkeep_run.specs.Standing.{Answers, StepsAs}
use Rattle.upkeep_run.specs.Steps.{WorkerLuck, Stepped, drops_none, fetch_by, first_number, grace_in, held_of, lost_outcome, or_short, plan_by, plan_with, raise_by, replace_by, rows_in, stage_by, stage_outcome, step_close, step_place, step_raise, step_stage, step_work, step_worker, trouble_outcome, upload_by, work_in}
use Rattle.upkeep_run.specs.declared.work.Aim.{Aim}
use Rattle.upkeep_run.specs.declared.work.Aim.TheVariants.{Deleting, Merging}
use Rattle.upkeep_run.specs.declared.work.WorkerPlace.{WorkerPlace as HeldPlace}
use Rattle.upkeep_run.specs.declared.outcome.UpkeepOutcome.TheVariants as said
use Rattle.upkeep_run.specs.WorkAll.{Holds, IsEndCaused, WorkerAt, WorkerDid, WorkerStep, core_there, end_of, worker_at}
use Rattle.upkeep_run.specs.declared.working.WorkerEnd.{WorkerEnd}
use Rattle.upkeep_run.specs.declared.working.WorkerEnd.TheVariants as ends

-- ---- one step

pub one_step : {W : Type 0} (Stands : W → Core → Log → Type 0) (Between : Core → Core → Type 0) (Owns : W → ℕ → Type 0) (Adds : W → List CallMade → W → Type 0) →
    ((core mid : Core) → Between core mid → GoesFor Nobody core mid) →
    (aim : Aim) (told : Told) (from : WorkerAt) (log : Log) (kept : HeldPlace) (old new : W) →
    StepsAs Stands Between Owns Adds aim told from.place from.core log kept old new → OneStep Stands Adds (WorkerStep Between aim log) core_there end_of (Holds aim log kept) told from log old new
one_step Stands Between Owns Adds between_goes aim told from log kept old new s =
    let on : GoesFor Nobody from.core s.behind =
    goes_then from.core s.mid s.behind (between_goes from.core s.mid s.passed) (goes_less (IsOther (number_held from.place)) Nobody s.mid s.behind (λ n none. absurd none) s.goes_on) in
    record {
      made = s.made;
      to = worker_at s.after s.behind;
      left = s.stands;
      step = record { mid = s.mid; passed = s.passed; luck = s.luck; outcome = s.outcome; did = s.did; answer = s.answer; recorded = s.asked; goes_on = on };
      own = s.own;
      goes_on = on;
      stands = s.gate;
    }

-- ---- what a step of the machine says

abbrev pub OutcomeWithin : ℕ → Option UpkeepOutcome → ℕ → Type 0
OutcomeWithin low None high = ⊤
OutcomeWithin low (Some Nothing) high = ⊤
OutcomeWithin low (Some (Planned count)) high = ⊤
OutcomeWithin low (Some (Fetched number)) high = ⊤
OutcomeWithin low (Some (Staged number)) high = ⊤
OutcomeWithin low (Some (Uploaded number)) high = ⊤
OutcomeWithin low (Some (Replaced number)) high = ⊤
OutcomeWithin low (Some (Raised number)) high = ⊤
OutcomeWithin low (Some (Lost number refusal)) high = ⊤
OutcomeWithin low (Some (Refused refusal)) high = ⊤
OutcomeWithin low (Some (Faulted fault)) high = FaultWithin low fault high

abbrev StepSays : ℕ → Stepped → Type 0
StepSays low step = OutcomeWithin low step.outcome step.core.store_faults

module _ (low : ℕ) where
  trouble_says : (trouble : Trouble) (high : ℕ) → TroubleWithin low trouble high → OutcomeWithin low (trouble_outcome trouble) high
  trouble_says (faulted fault) high t = t
  trouble_says no_memory high t = tt

  stage_says : (unmade : Unmade) (high : ℕ) → UnmadeWithin low unmade high → OutcomeWithin low (stage_outcome unmade) high
  stage_says (refused refusal) high u = tt
  stage_says (troubled trouble) high u = trouble_says trouble high u

  lost_says : (number : ℕ) (unmade : Unmade) (high : ℕ) → UnmadeWithin low unmade high → OutcomeWithin low (lost_outcome number unmade) high
  lost_says number (refused refusal) high u = tt
  lost_says number (troubled trouble) high u = trouble_says trouble high u

  rows_said : (rows : List Row) (work : Work) (core : Core) → StepSays low (plan_with rows work core)
  rows_said [] work core = tt
  rows_said (row ∷ rows) work core = tt

  plan_said : (aim : Aim) (r : Result ⊤ Trouble) (log : Log) (core : Core) → Caused TroubleWithin low (gives r core) → StepSays low (plan_by aim r log core)
  plan_said aim (Ok done) log core g = rows_said (rows_in aim core) (work_in aim log core) core
  plan_said aim (Err trouble) log core g = trouble_says trouble core.store_faults g.says

  fetch_said : (r : Result ⊤ Trouble) (work : Work) (number : ℕ) (more : List Row) (core : Core) → Caused TroubleWithin low (gives r core) → StepSays low (fetch_by r work number more core)
  fetch_said (Ok done) work number more core g = tt
  fetch_said (Err trouble) work number more core g = trouble_says trouble core.store_faults g.says

  staged_said : (r : Result ⊤ Unmade) (held : ℕ → WorkerHeld) (core : Core) → Caused UnmadeWithin low (gives r core) → StepSays low (stage_by r held core)
  staged_said (Ok done) held core g = tt
  staged_said (Err unmade) held core g = stage_says unmade core.store_faults g.says

  raised_said : (r : Result ⊤ Unmade) (number : ℕ) (core : Core) → Caused UnmadeWithin low (gives r core) → StepSays low (raise_by r number core)
  raised_said (Ok done) number core g = tt
  raised_said (Err unmade) number core g = lost_says number unmade core.store_faults g.says

  uploaded_said : (r : Result ⊤ Trouble) (held : WorkerHeld) (core : Core) → Caused TroubleWithin low (gives r core) → StepSays low (upload_by r held core)
  uploaded_said (Ok done) held core g = tt
  uploaded_said (Err trouble) held core g = trouble_says trouble core.store_faults g.says

  replaced_said : (r : Result ⊤ Unmade) (number : ℕ) (core : Core) → Caused UnmadeWithin low (gives r core) → StepSays low (replace_by r number core)
  replaced_said (Ok done) number core g = tt
  replaced_said (Err unmade) number core g = lost_says number unmade core.store_faults g.says

module _ (luck : WorkerLuck) (log : Log) (core : Core) where
  staging_said : (held : ℕ → WorkerHeld) → StepSays core.store_faults (step_stage luck held core)
  staging_said held =
      let given = stage_call [] (held_facts (held 0)) luck.world core in
      staged_said core.store_faults given.answer held given.core (as_given core.store_faults UnmadeWithin given (appended_caused luck.world (stage_act [] (held_facts (held 0))) core))

  raising_said : (number upto : ℕ) → StepSays core.store_faults (step_raise luck number upto core)
  raising_said number upto =
      let given = raise_call number upto luck.world core in
      raised_said core.store_faults given.answer number given.core (as_given core.store_faults UnmadeWithin given (appended_caused luck.world (λ c. Raise number upto) core))

  choice_said : (b : Bool) (x y : Stepped) → StepSays core.store_faults x → StepSays core.store_faults y → StepSays core.store_faults (if b then x else y)
  choice_said true x y p q = p
  choice_said false x y p q = q

  close_said : (aim : Aim) (work : Work) → StepSays core.store_faults (step_close aim luck work core)
  close_said Merging work = staging_said (held_of Merging work core)
  close_said Deleting work =
      choice_said (drops_none work core) (step_raise luck (first_number work.rows) work.upto core) (step_stage luck (held_of Deleting work core) core) (raising_said (first_number work.rows) work.upto)
      (staging_said (held_of Deleting work core))

  work_said : (aim : Aim) (work : Work) (unfetched : List Row) → StepSays core.store_faults (step_work aim luck work unfetched core)
  work_said aim work [] = close_said aim work
  work_said aim work (row ∷ more) =
      let given = fetched (grace_in work) luck.world core in
      fetch_said core.store_faults given.answer work row.number more given.core (as_given core.store_faults TroubleWithin given (fetched_caused (grace_in work) luck.world core))

  place_said : (aim : Aim) (place : WorkerPlace) → StepSays core.store_faults (step_place aim place luck log core)
  place_said aim idle =
      let given = asked_and_looked luck.world core in
      plan_said core.store_faults aim given.answer log given.core (as_given core.store_faults TroubleWithin given (asked_and_looked_caused luck.world core))
  place_said aim (fetching work) = work_said aim work work.unfetched
  place_said aim (staged held) =
      let given = upload_made luck.world held.number (held_file held) core in
      uploaded_said core.store_faults given.answer held given.core (as_given core.store_faults TroubleWithin given (file_caused luck.world.first (split_key held.number) (held_file held) core))
  place_said aim (uploaded held) =
      let given = replace_call held.number held.old held.upto luck.world core in
      replaced_said core.store_faults given.answer held.number given.core (as_given core.store_faults UnmadeWithin given (appended_caused luck.world (λ c. Replace held.number held.old held.upto) core))

  short_said : (b : Bool) (step : Stepped) → StepSays core.store_faults step → StepSays core.store_faults (or_short b step)
  short_said true step p = tt
  short_said false step p = p

  worker_said : (aim : Aim) (place : WorkerPlace) → StepSays core.store_faults (step_worker aim luck log place core)
  worker_said aim place = short_said luck.short (step_place aim place luck log core) (place_said aim place)

-- ---- an end that is a fault of the store

fault_answer : (told : Told) (error : WorldError) → end_of told ≡ Some (ends.Fault error) → told ≡ Ok (said.Fault error)
fault_answer (Ok said.Nothing) error e = absurd cc
fault_answer (Ok (said.Planned count)) error e = absurd cc
fault_answer (Ok (said.Fetched number)) error e = absurd cc
fault_answer (Ok (said.Staged number)) error e = absurd cc
fault_answer (Ok (said.Uploaded number)) error e = absurd cc
fault_answer (Ok (said.Replaced number)) error e = absurd cc
fault_answer (Ok (said.Raised number)) error e = absurd cc
fault_answer (Ok (said.Lost number refusal)) error e = absurd cc
fault_answer (Ok (said.Refused refusal)) error e = absurd cc
fault_answer (Ok (said.Fault other)) error e = let same : other ≡ error = cc in ap (λ x. Ok (said.Fault x)) same
fault_answer (Err short) error e = absurd cc

answer_fault : (before now : ℕ) (outcome : Option UpkeepOutcome) → Answers (Ok (said.Fault (errors.StoreFault before now))) outcome → outcome ≡ Some (Faulted (store_fault before now))
answer_fault before now None a = absurd a
answer_fault before now (Some outcome) a =
    let fault_is : a.0 ≡ store_fault before now = same_fault a.0 (store_fault before now) a.2 in
    ap (λ o. Some o) (a.1 ∙ ap (λ f. Faulted f) fault_is)
  where
    same_fault : (x y : Fault) → faulted x ≡ faulted y → x ≡ y
    same_fault x y e = cc

module _ (Between : Core → Core → Type 0) (aim : Aim) (log : Log) (between_goes : (core mid : Core) → Between core mid → GoesFor Nobody core mid) where
  step_cause : (before now : ℕ) (from : WorkerAt) (step : StepMade Told) (to : WorkerAt) → WorkerStep Between aim log from step to → end_of step.result ≡ Some (ends.Fault (errors.StoreFault before now)) →
      PastCause before now from.core to.core
  step_cause before now from step to s e =
      let told_is : step.result ≡ Ok (said.Fault (errors.StoreFault before now)) = fault_answer step.result (errors.StoreFault before now) e in
      let outcome_is = answer_fault before now s.outcome (subst (λ told. Answers told s.outcome) told_is s.answer) in
      let did : step_worker aim s.luck log from.place s.mid ≡ record { outcome = Some (Faulted (store_fault before now)); place = to.place; core = to.core } =
      s.did ∙ ap (λ o. record { outcome = o; place = to.place; core = to.core }) outcome_is in
      let P : Stepped → Type 0 = λ stepped. StepSays s.mid.store_faults stepped in
      let c : FaultWithin s.mid.store_faults (store_fault before now) to.core.store_faults = subst P did (worker_said s.luck log s.mid aim from.place) in
      let up = (between_goes from.core s.mid s.passed).faults in
      let past = c.0 in
      (omega (arith, up, past), c.1, c.2)

  module _ (turns : ℕ) (held : HeldPlace) (place : WorkerPlace) (core : Core) (made : List CallMade) (after : Core) where
    abbrev Working : WorkerEnd → Type 0
    Working end = Works (WorkerStep Between aim log) core_there end_of ends.Turns (Holds aim log held) turns end (worker_at place core) made after

    by_error : (error : WorldError) → Working (ends.Fault error) → core.store_faults ≤ last_count → IsCaused error core after
    by_error (errors.Memory e) w within = tt
    by_error (errors.Refused refusal) w within = tt
    by_error (errors.StoreFault before now) w within =
        end_cause (WorkerStep Between aim log) core_there end_of (Holds aim log held) (λ a x b s. s.goes_on) ends.Turns turns (ends.Fault (errors.StoreFault before now)) (worker_at place core) made after w before now
        (λ e. cc) (λ a x b s e. step_cause before now a x b s e) within
    by_error (errors.Missing key) w within = tt
    by_error (errors.Corrupt key) w within = tt
    by_error (errors.Foreign key) w within = tt
    by_error errors.Full w within = tt
    by_error (errors.Expired planned_at reached) w within = tt
    by_error errors.NoIndex w within = tt
    by_error errors.IndexExists w within = tt
    by_error (errors.BadConfig bad) w within = tt

    end_caused : (end : WorkerEnd) → Working end → core.store_faults ≤ last_count → IsEndCaused end core after
    end_caused ends.Nothing w within = tt
    end_caused (ends.Refused refusal) w within = tt
    end_caused (ends.Fault error) w within = by_error error w within
    end_caused ends.Turns w within = tt
    end_caused ends.Memory w within = tt

    pub did_of : (end : WorkerEnd) → Working end → WorkerDid Between aim log turns end held place core made after
    did_of end w = record { works = w; cause = λ within. end_caused end w within }

  pub ran_did : {W : Type 0} (Stands : W → Core → Log → Type 0) (Adds : W → List CallMade → W → Type 0) (turns : ℕ) (end : WorkerEnd) (held : HeldPlace) (place : WorkerPlace) (core : Core) (old new : W) →
      Ran Stands Adds (λ made after. Works (WorkerStep Between aim log) core_there end_of ends.Turns (Holds aim log held) turns end (worker_at place core) made after) core log old new →
      Ran Stands Adds (λ made after. WorkerDid Between aim log turns end held place core made after) core log old new
  ran_did Stands Adds turns end held place core old new r =
      ran_as Stands Adds (λ made after. Works (WorkerStep Between aim log) core_there end_of ends.Turns (Holds aim log held) turns end (worker_at place core) made after)
      (λ made after. WorkerDid Between aim log turns end held place core made after) core log old new (λ made after w. did_of turns held place core made after end w) r

  -- the index may go on
  later_end : (end : WorkerEnd) (core after later : Core) → GoesFor Nobody after later → IsEndCaused end core after → IsEndCaused end core later
  later_end ends.Nothing core after later on c = tt
  later_end (ends.Refused refusal) core after later on c = tt
  later_end (ends.Fault error) core after later on c = caused_later error core after later on c
  later_end ends.Turns core after later on c = tt
  later_end ends.Memory core after later on c = tt

  pub did_later : (turns : ℕ) (end : WorkerEnd) (held : HeldPlace) (place : WorkerPlace) (core : Core) (made : List CallMade) (after later : Core) → GoesFor Nobody after later →
      WorkerDid Between aim log turns end held place core made after → WorkerDid Between aim log turns end held place core made later
  did_later turns end held place core made after later on d =
      record {
        works = works_later (WorkerStep Between aim log) core_there end_of (Holds aim log held) ends.Turns turns end (worker_at place core) made after later on d.works;
        cause = λ within. later_end end core after later on (d.cause within);
      }
