-- An indexer's step is one of its steps; a fault that it answers has its cause, and where it has caught up it saw that.
use Rattle.std.proofs.Common.{◌≡◌, ◌⊎◌, inl, inr, ℕ, ◌≤◌, ◌<◌, Bool, true, false, List, [], ◌∷◌, ◌++◌, refl, sym, ap, ◌∙◌, subst, min, append_assoc, append-nil, arith}
use Rattle.std.proofs.lemmas.Bool.{eqb-true, ltb-true, or_cases}
use Rattle.std.specs.List.{AllByRecursion}
use Rattle.std.specs.Prelude.{Option, Some, None, Result, Ok, Err, ⊤, if◌then◌else◌, ◌==◌, ◌&&◌, ◌||◌, nat_lt}
use Rattle.std.specs.declared.alloc.AllocError.{AllocError}
use Rattle.byte_fields.specs.Causes.{Rose}
use Rattle.meta_journal.specs.Places.{split_key}
use Rattle.meta_journal.specs.declared.entry.Act.TheVariants.{Publish}
use Rattle.meta_journal.specs.declared.entry.Entry.{Entry}
use Rattle.meta_store.specs.History.{history}
use Rattle.meta_store.specs.State.{checkpoints_of}
use Rattle.meta_store.specs.declared.refusal.Refusal.{Refusal}
use Rattle.meta_store.specs.declared.refusal.Refusal.TheVariants.{MomentBack, NotCreated, AlreadyCreated, BadConfig, NotNext, Delta, State, BadTask, UptoAhead, TooManyTasks, TooManyRows, TooManySpans}
use Rattle.source_checkpoint.specs.declared.delta.StaleDelta.{StaleDelta}
use Rattle.source_checkpoint.specs.declared.delta.StaleDelta.TheVariants as deltas
use Rattle.source_checkpoint.specs.declared.ledger.Checkpoint.{Checkpoint as Mark}
use Rattle.source_log.specs.Log.{Log}
use Rattle.index_world.specs.Calls.{Fault, store_fault, Trouble, faulted, no_memory, Unmade, refused, troubled, Gives, gives, appended, asked, looked, file_made, risen}
use Rattle.index_world.specs.CallsMade.{CallMade, IsRecorded, made_of, of_checkpoints}
use Rattle.index_world.specs.Core.{Core, IsOther, Nobody, last_count}
use Rattle.index_world.specs.Gate.{stage_act}
use Rattle.index_world.specs.SplitFile.{file_of}
use Rattle.index_world.specs.World.{GoesFor}
use Rattle.index_world.specs.declared.world_error.WorldError.{WorldError}
use Rattle.index_world.specs.declared.world_error.WorldError.TheVariants as errors
use Rattle.index_world.proofs.InCore.{goes_less}
use Rattle.indexing_run.specs.Asking.{IsCallFree, IsIdle, ask_of}
use Rattle.indexing_run.specs.Outcomes.{IndexerOutcome, Checkpoint, Read, Staged, Uploaded, Published, CaughtUp, Stale, Lost, Refused, SourceFault, Faulted}
use Rattle.indexing_run.specs.Places.{Batch, IndexerHeld, IndexerPlace, idle, reading, staged, uploaded, Indexer, number_held}
use Rattle.indexing_run.specs.Standing.{Answers, StepsAs}
use Rattle.indexing_run.specs.Steps.{LogCall, Stepped, log_may_fail, log_called, checkpoints_by, take_checkpoints, idle_by, read_by, read_given, step_read, stage_by, step_stage, batch_facts, upload_by, publish_by, publish_refused, marks_at, partitions_for, step_batch, step_place, step_indexer}
use Rattle.indexing_run.specs.Steps as indexing
use Rattle.indexing_run.specs.declared.indexer.Indexer.{Indexer as Reader}
use Rattle.indexing_run.specs.declared.outcome.IndexerOutcome.TheVariants as said
use Rattle.index_world.specs.Ran.{AreSteps, EndsBy, IsCaused, Ran, StepMade, Works, calls_of}
use Rattle.index_world.proofs.CallCauses.{Caused, FaultWithin, TroubleWithin, UnmadeWithin, appended_caused, as_given, asked_caused, file_caused, looked_caused}
use Rattle.index_world.proofs.Ran.{OneStep, Past, PastCause, caused_later, calls_more, end_cause, goes_then, last_step, ran_as, works_later}
use Rattle.indexing_run.specs.IndexAll.{AreAtEnds, Holds, IndexerAt, IndexerDid, IndexerStep, IsEndCaused, IsSourceCaused, SawEnds, Told, core_there, end_of, indexer_at}
use Rattle.indexing_run.specs.declared.indexing.IndexerEnd.{IndexerEnd}
use Rattle.indexing_run.specs.declared.indexing.IndexerEnd.TheVariants as ends
use Rattle.indexing_run.proofs.Watching.{Begins, GoesOn, HasBegun, IsBehind, Leaves, PlaceWatched, ReadsNone, Watched, ends_of, idle_step, reading_step, staged_step, uploaded_step}

-- ---- one step

pub one_step : {L W : Type 0} (tells : L → Option Log) (count : L → ℕ) (Stands : W → Core → Log → Type 0) (Between : Core → Core → Type 0) (Owns : W → ℕ → Type 0) (Adds : W → List CallMade → W → Type 0) →
    ((core mid : Core) → Between core mid → GoesFor Nobody core mid) →
    (told : Told) (from : IndexerAt) (log : Log) (reader : Reader L) (old new : W) →
    StepsAs tells count Stands Between Owns Adds told from.indexer from.core log reader old new →
    OneStep Stands Adds (IndexerStep Between log) core_there end_of (Holds tells count log reader) told from log old new
one_step tells count Stands Between Owns Adds between_goes told from log reader old new s =
    let on : GoesFor Nobody from.core s.behind =
    goes_then from.core s.mid s.behind (between_goes from.core s.mid s.passed) (goes_less (IsOther (number_held from.indexer.place)) Nobody s.mid s.behind (λ n none. absurd none) s.goes_on) in
    record {
      made = s.made;
      to = indexer_at s.after s.behind;
      left = s.stands;
      step = record { mid = s.mid; passed = s.passed; luck = s.luck; outcome = s.outcome; did = s.did; answer = s.answer; recorded = s.asked; goes_on = on };
      own = s.own;
      goes_on = on;
      stands = s.gate;
    }

-- ---- what a step of the machine says

-- what it says of the store, by its counts before the step and behind it, and of the log, by its count then
abbrev pub OutcomeWithin : ℕ → ℕ → Option IndexerOutcome → ℕ → ℕ → Type 0
OutcomeWithin low log_low None high log_high = ⊤
OutcomeWithin low log_low (Some Checkpoint) high log_high = ⊤
OutcomeWithin low log_low (Some (Read count)) high log_high = ⊤
OutcomeWithin low log_low (Some (Staged number)) high log_high = ⊤
OutcomeWithin low log_low (Some (Uploaded number)) high log_high = ⊤
OutcomeWithin low log_low (Some (Published number)) high log_high = ⊤
OutcomeWithin low log_low (Some CaughtUp) high log_high = ⊤
OutcomeWithin low log_low (Some (Stale partition current from)) high log_high = ⊤
OutcomeWithin low log_low (Some (Lost number refusal)) high log_high = ⊤
OutcomeWithin low log_low (Some (Refused refusal)) high log_high = ⊤
OutcomeWithin low log_low (Some (SourceFault before after)) high log_high = (before ≡ log_low) × Rose before after × (after ≡ log_high)
OutcomeWithin low log_low (Some (Faulted fault)) high log_high = FaultWithin low fault high

and_right : (a b : Bool) → (a && b) ≡ true → b ≡ true
and_right true b e = e
and_right false b e = cc

-- a call of the log failed only where it raised the count, or the count stands at its end
log_rose : (call : LogCall) (count : ℕ) → log_may_fail call count ≡ true → Rose count (risen count call.rises)
log_rose call count e = by (or_cases (nat_lt count (risen count call.rises)) (count == last_count) (and_right call.fails _ e))
  where
    by : (nat_lt count (risen count call.rises) ≡ true) ⊎ ((count == last_count) ≡ true) → Rose count (risen count call.rises)
    by (inl rose) = let less = ltb-true count (risen count call.rises) rose in omega (arith, less)
    by (inr end) = let same = eqb-true count last_count end in omega (arith, same)

-- a step that began behind this count of the store, of an indexer whose log's count was this
record Says (low log_low : ℕ) (assignment : Option (List (List ℕ))) (step : Stepped) : Type 0 where
  says : OutcomeWithin low log_low step.outcome step.core.store_faults step.indexer.log_faults
  counts : Past log_low step.indexer.log_faults
  assigned : step.indexer.assignment ≡ assignment

module _ (low : ℕ) (indexer : Indexer) where
  abbrev ItSays : Stepped → Type 0
  ItSays step = Says low indexer.log_faults indexer.assignment step

  counted : Past indexer.log_faults indexer.log_faults
  counted = omega arith

  counted_more : (call : LogCall) → Past indexer.log_faults (log_called call indexer).log_faults
  counted_more call = omega arith

  trouble_says : (trouble : Trouble) (core : Core) → TroubleWithin low trouble core.store_faults → ItSays (indexing.stepped (indexing.trouble_outcome trouble) idle indexer core)
  trouble_says (faulted fault) core t = record { says = t; counts = counted; assigned = refl }
  trouble_says no_memory core t = record { says = tt; counts = counted; assigned = refl }

  -- behind a call of the log
  trouble_called : (call : LogCall) (trouble : Trouble) (core : Core) → TroubleWithin low trouble core.store_faults → ItSays (indexing.stepped (indexing.trouble_outcome trouble) idle (log_called call indexer) core)
  trouble_called call (faulted fault) core t = record { says = t; counts = counted_more call; assigned = refl }
  trouble_called call no_memory core t = record { says = tt; counts = counted_more call; assigned = refl }

  checkpoints_say : (r : Result ⊤ Trouble) (log : Log) (core : Core) → Caused TroubleWithin low (gives r core) → ItSays (checkpoints_by r log indexer core)
  checkpoints_say (Ok done) log core g = record { says = tt; counts = counted; assigned = refl }
  checkpoints_say (Err trouble) log core g = trouble_says trouble core g.says

  checkpoints_called : (call : LogCall) (r : Result ⊤ Trouble) (log : Log) (core : Core) → Caused TroubleWithin low (gives r core) → ItSays (checkpoints_by r log (log_called call indexer) core)
  checkpoints_called call (Ok done) log core g = record { says = tt; counts = counted_more call; assigned = refl }
  checkpoints_called call (Err trouble) log core g = trouble_called call trouble core g.says

  stage_says : (r : Result ⊤ Unmade) (batch : Batch) (core : Core) → Caused UnmadeWithin low (gives r core) → ItSays (stage_by r batch indexer core)
  stage_says (Ok done) batch core g = record { says = tt; counts = counted; assigned = refl }
  stage_says (Err (refused refusal)) batch core g = record { says = tt; counts = counted; assigned = refl }
  stage_says (Err (troubled trouble)) batch core g = trouble_says trouble core g.says

  upload_says : (r : Result ⊤ Trouble) (held : IndexerHeld) (core : Core) → Caused TroubleWithin low (gives r core) → ItSays (upload_by r held indexer core)
  upload_says (Ok done) held core g = record { says = tt; counts = counted; assigned = refl }
  upload_says (Err trouble) held core g = trouble_says trouble core g.says

  stale_says : (number : ℕ) (delta : StaleDelta) (core : Core) → ItSays (indexing.stepped (Some (indexing.stale_or_lost number delta)) idle indexer core)
  stale_says number (deltas.Stale partition current from) core = record { says = tt; counts = counted; assigned = refl }
  stale_says number (deltas.BackwardDelta partition) core = record { says = tt; counts = counted; assigned = refl }
  stale_says number (deltas.DoubledPartition partition) core = record { says = tt; counts = counted; assigned = refl }

  refused_says : (number : ℕ) (refusal : Refusal) (core : Core) → ItSays (indexing.stepped (Some (publish_refused number refusal)) idle indexer core)
  refused_says number (Delta fault) core = stale_says number fault core
  refused_says number (MomentBack given greatest) core = record { says = tt; counts = counted; assigned = refl }
  refused_says number NotCreated core = record { says = tt; counts = counted; assigned = refl }
  refused_says number AlreadyCreated core = record { says = tt; counts = counted; assigned = refl }
  refused_says number (BadConfig error) core = record { says = tt; counts = counted; assigned = refl }
  refused_says number (NotNext given next) core = record { says = tt; counts = counted; assigned = refl }
  refused_says number (State refusal) core = record { says = tt; counts = counted; assigned = refl }
  refused_says number (BadTask error) core = record { says = tt; counts = counted; assigned = refl }
  refused_says number (UptoAhead upto last) core = record { says = tt; counts = counted; assigned = refl }
  refused_says number (TooManyTasks count) core = record { says = tt; counts = counted; assigned = refl }
  refused_says number (TooManyRows count) core = record { says = tt; counts = counted; assigned = refl }
  refused_says number (TooManySpans count) core = record { says = tt; counts = counted; assigned = refl }

  publish_says : (r : Result ⊤ Unmade) (held : IndexerHeld) (core : Core) → Caused UnmadeWithin low (gives r core) → ItSays (publish_by r held indexer core)
  publish_says (Ok done) held core g = record { says = tt; counts = counted; assigned = refl }
  publish_says (Err (refused refusal)) held core g = refused_says held.number refusal core
  publish_says (Err (troubled trouble)) held core g = trouble_says trouble core g.says

  read_says : (b : Bool) (luck : indexing.IndexerLuck) (log : Log) (batch : Batch) (mark : Mark) (rest : List Mark) (core : Core) → log_may_fail luck.log indexer.log_faults ≡ b →
      ItSays (read_by b luck log batch mark rest indexer core)
  read_says true luck log batch mark rest core may = record { says = (refl, log_rose luck.log indexer.log_faults may, refl); counts = counted_more luck.log; assigned = refl }
  read_says false luck log batch mark rest core may = record { says = tt; counts = counted_more luck.log; assigned = refl }

  given_says : (r : Result ⊤ Trouble) (luck : indexing.IndexerLuck) (log : Log) (batch : Batch) (mark : Mark) (rest : List Mark) (core : Core) → Caused TroubleWithin low (gives r core) →
      ItSays (read_given luck log batch mark rest indexer r core)
  given_says (Err trouble) luck log batch mark rest core g = trouble_says trouble core g.says
  given_says (Ok done) luck log batch mark rest core g = read_says (log_may_fail luck.log indexer.log_faults) luck log batch mark rest core refl

  choice_says : (b : Bool) (x y : Stepped) → ItSays x → ItSays y → ItSays (if b then x else y)
  choice_says true x y p q = p
  choice_says false x y p q = q

  short_says : (b : Bool) (step : Stepped) → ItSays step → ItSays (indexing.or_short b step)
  short_says true step s = record { says = tt; counts = s.counts; assigned = s.assigned }
  short_says false step s = s

module _ (luck : indexing.IndexerLuck) (log : Log) (core : Core) (indexer : Indexer) where
  abbrev low : ℕ
  low = core.store_faults

  nothing_said : (outcome : Option IndexerOutcome) → OutcomeWithin low indexer.log_faults outcome low indexer.log_faults → ItSays low indexer (indexing.stepped outcome idle indexer core)
  nothing_said outcome w = record { says = w; counts = counted low indexer; assigned = refl }

  take_says : ItSays low indexer (take_checkpoints luck log indexer core)
  take_says = let given = looked luck.world core in checkpoints_say low indexer given.answer log given.core (as_given low TroubleWithin given (looked_caused luck.world core))

  take_called : ItSays low indexer (take_checkpoints luck log (log_called luck.log indexer) core)
  take_called = let given = looked luck.world core in checkpoints_called low indexer luck.log given.answer log given.core (as_given low TroubleWithin given (looked_caused luck.world core))

  idle_says : (b : Bool) (names : Option (List (List ℕ))) → log_may_fail luck.log indexer.log_faults ≡ b → ItSays low indexer (idle_by b names luck log indexer core)
  idle_says true None may = record { says = (refl, log_rose luck.log indexer.log_faults may, refl); counts = counted_more low indexer luck.log; assigned = refl }
  idle_says false None may = take_called
  idle_says true (Some names) may = take_says
  idle_says false (Some names) may = take_says

  unless_says : (b : Bool) → ItSays low indexer (indexing.idle_unless b luck log indexer core)
  unless_says true = record { says = tt; counts = counted_more low indexer luck.log; assigned = refl }
  unless_says false = idle_says (log_may_fail luck.log indexer.log_faults) indexer.assignment refl

  step_read_says : (batch : Batch) (queue : List Mark) → ItSays low indexer (step_read luck log batch queue indexer core)
  step_read_says batch [] = nothing_said (Some CaughtUp) tt
  step_read_says batch (mark ∷ rest) =
      let given = asked luck.world core in given_says low indexer given.answer luck log batch mark rest given.core (as_given low TroubleWithin given (asked_caused luck.world core))

  step_stage_says : (batch : Batch) → ItSays low indexer (step_stage luck batch indexer core)
  step_stage_says batch =
      let given = appended luck.world (stage_act batch.parts (batch_facts batch)) core in
      stage_says low indexer given.answer batch given.core (as_given low UnmadeWithin given (appended_caused luck.world (stage_act batch.parts (batch_facts batch)) core))

  batch_says : (batch : Batch) → ItSays low indexer (step_batch luck log batch indexer core)
  batch_says batch =
      choice_says low indexer batch.closed _ _ (choice_says low indexer (batch.count == 0) _ _ (nothing_said (Some CaughtUp) tt) (step_stage_says batch)) (step_read_says batch batch.queue)

  place_says : (place : IndexerPlace) → ItSays low indexer (step_place place luck log indexer core)
  place_says idle = unless_says luck.log.short
  place_says (reading batch) = batch_says batch
  place_says (staged held) =
      let given = file_made luck.world.first (split_key held.number) (file_of held.config held.documents) core in
      upload_says low indexer given.answer held given.core (as_given low TroubleWithin given (file_caused luck.world.first (split_key held.number) (file_of held.config held.documents) core))
  place_says (uploaded held) =
      let given = appended luck.world (λ c. Publish held.number) core in
      publish_says low indexer given.answer held given.core (as_given low UnmadeWithin given (appended_caused luck.world (λ c. Publish held.number) core))

  indexer_says : ItSays low indexer (step_indexer luck log indexer core)
  indexer_says = short_says low indexer luck.short (step_place indexer.place luck log indexer core) (place_says indexer.place)

-- ---- which answer an end is of

fault_answer : (told : Told) (error : WorldError) → end_of told ≡ Some (ends.Fault error) → told ≡ Ok (said.Fault error)
fault_answer (Ok said.Checkpoint) error e = absurd cc
fault_answer (Ok (said.Read count)) error e = absurd cc
fault_answer (Ok (said.Staged number)) error e = absurd cc
fault_answer (Ok (said.Uploaded number)) error e = absurd cc
fault_answer (Ok (said.Published number)) error e = absurd cc
fault_answer (Ok said.CaughtUp) error e = absurd cc
fault_answer (Ok (said.Stale partition current from)) error e = absurd cc
fault_answer (Ok (said.Lost number refusal)) error e = absurd cc
fault_answer (Ok (said.Refused refusal)) error e = absurd cc
fault_answer (Ok (said.Fault other)) error e = let same : other ≡ error = cc in ap (λ x. Ok (said.Fault x)) same
fault_answer (Ok (said.SourceFault before after)) error e = absurd cc
fault_answer (Err short) error e = absurd cc

source_answer : (told : Told) (before now : ℕ) → end_of told ≡ Some (ends.SourceFault before now) → told ≡ Ok (said.SourceFault before now)
source_answer (Ok said.Checkpoint) before now e = absurd cc
source_answer (Ok (said.Read count)) before now e = absurd cc
source_answer (Ok (said.Staged number)) before now e = absurd cc
source_answer (Ok (said.Uploaded number)) before now e = absurd cc
source_answer (Ok (said.Published number)) before now e = absurd cc
source_answer (Ok said.CaughtUp) before now e = absurd cc
source_answer (Ok (said.Stale partition current from)) before now e = absurd cc
source_answer (Ok (said.Lost number refusal)) before now e = absurd cc
source_answer (Ok (said.Refused refusal)) before now e = absurd cc
source_answer (Ok (said.Fault other)) before now e = absurd cc
source_answer (Ok (said.SourceFault b n)) before now e = let first : b ≡ before = cc in let second : n ≡ now = cc in (λ i. Ok (said.SourceFault (first i) (second i)))
source_answer (Err short) before now e = absurd cc

caught_answer : (told : Told) → end_of told ≡ Some ends.CaughtUp → told ≡ Ok said.CaughtUp
caught_answer (Ok said.Checkpoint) e = absurd cc
caught_answer (Ok (said.Read count)) e = absurd cc
caught_answer (Ok (said.Staged number)) e = absurd cc
caught_answer (Ok (said.Uploaded number)) e = absurd cc
caught_answer (Ok (said.Published number)) e = absurd cc
caught_answer (Ok said.CaughtUp) e = refl
caught_answer (Ok (said.Stale partition current from)) e = absurd cc
caught_answer (Ok (said.Lost number refusal)) e = absurd cc
caught_answer (Ok (said.Refused refusal)) e = absurd cc
caught_answer (Ok (said.Fault other)) e = absurd cc
caught_answer (Ok (said.SourceFault before after)) e = absurd cc
caught_answer (Err short) e = absurd cc

same_fault : (x y : Fault) → faulted x ≡ faulted y → x ≡ y
same_fault x y e = cc

answer_fault : (before now : ℕ) (outcome : Option IndexerOutcome) → Answers (Ok (said.Fault (errors.StoreFault before now))) outcome → outcome ≡ Some (Faulted (store_fault before now))
answer_fault before now None a = absurd a
answer_fault before now (Some outcome) a = ap (λ o. Some o) (a.1 ∙ ap (λ f. Faulted f) (same_fault a.0 (store_fault before now) a.2))

answer_source : (before now : ℕ) (outcome : Option IndexerOutcome) → Answers (Ok (said.SourceFault before now)) outcome → outcome ≡ Some (SourceFault before now)
answer_source before now None a = absurd a
answer_source before now (Some outcome) a = ap (λ o. Some o) a

answer_caught : (outcome : Option IndexerOutcome) → Answers (Ok said.CaughtUp) outcome → outcome ≡ Some CaughtUp
answer_caught None a = absurd a
answer_caught (Some outcome) a = ap (λ o. Some o) a

-- ---- steps

module _ (Between : Core → Core → Type 0) (log : Log) (between_goes : (core mid : Core) → Between core mid → GoesFor Nobody core mid) where
  -- what the machine says of a step
  step_says : (from : IndexerAt) (step : StepMade Told) (to : IndexerAt) (s : IndexerStep Between log from step to) →
      Says s.mid.store_faults from.indexer.log_faults from.indexer.assignment (record { outcome = s.outcome; indexer = to.indexer; core = to.core })
  step_says from step to s =
      let P : Stepped → Type 0 = λ stepped. Says s.mid.store_faults from.indexer.log_faults from.indexer.assignment stepped in
      subst P s.did (indexer_says s.luck log s.mid from.indexer)

  step_cause : (before now : ℕ) (from : IndexerAt) (step : StepMade Told) (to : IndexerAt) → IndexerStep Between log from step to → end_of step.result ≡ Some (ends.Fault (errors.StoreFault before now)) →
      PastCause before now from.core to.core
  step_cause before now from step to s e =
      let told_is = fault_answer step.result (errors.StoreFault before now) e in
      let outcome_is = answer_fault before now s.outcome (subst (λ told. Answers told s.outcome) told_is s.answer) in
      let P : Option IndexerOutcome → Type 0 = λ o. OutcomeWithin s.mid.store_faults from.indexer.log_faults o to.core.store_faults to.indexer.log_faults in
      let c : FaultWithin s.mid.store_faults (store_fault before now) to.core.store_faults = subst P outcome_is (step_says from step to s).says in
      let up = (between_goes from.core s.mid s.passed).faults in
      let past = c.0 in
      (omega (arith, up, past), c.1, c.2)

  -- the log's count, behind some steps
  counts_past : (low : ℕ) (from to : IndexerAt) (steps : List (StepMade Told)) → AreSteps (IndexerStep Between log) from steps to → Past low from.indexer.log_faults → Past low to.indexer.log_faults
  counts_past low from to [] are past = subst (λ (at : IndexerAt). Past low at.indexer.log_faults) (sym are) past
  counts_past low from to (step ∷ more) are past =
      let on = (step_says from step are.0 are.1).counts in
      counts_past low are.0 to more are.2 (omega (arith, past, on))

  module _ {L : Type 0} (tells : L → Option Log) (count : L → ℕ) (turns : ℕ) (reader : Reader L) (indexer : Indexer) (core : Core) (made : List CallMade) (after : Core) where
    abbrev Working : IndexerEnd → Type 0
    Working end = Works (IndexerStep Between log) core_there end_of ends.Turns (Holds tells count log reader) turns end (indexer_at indexer core) made after

    by_error : (error : WorldError) → Working (ends.Fault error) → core.store_faults ≤ last_count → IsCaused error core after
    by_error (errors.Memory e) w within = tt
    by_error (errors.Refused refusal) w within = tt
    by_error (errors.StoreFault before now) w within =
        end_cause (IndexerStep Between log) core_there end_of (Holds tells count log reader) (λ a x b s. s.goes_on) ends.Turns turns (ends.Fault (errors.StoreFault before now)) (indexer_at indexer core) made after w before now
        (λ e. cc) (λ a x b s e. step_cause before now a x b s e) within
    by_error (errors.Missing key) w within = tt
    by_error (errors.Corrupt key) w within = tt
    by_error (errors.Foreign key) w within = tt
    by_error errors.Full w within = tt
    by_error (errors.Expired planned_at reached) w within = tt
    by_error errors.NoIndex w within = tt
    by_error errors.IndexExists w within = tt
    by_error (errors.BadConfig bad) w within = tt

    end_caused : (end : IndexerEnd) → Working end → core.store_faults ≤ last_count → IsEndCaused end core after
    end_caused ends.CaughtUp w within = tt
    end_caused (ends.Refused refusal) w within = tt
    end_caused (ends.Fault error) w within = by_error error w within
    end_caused (ends.SourceFault before now) w within = tt
    end_caused ends.Turns w within = tt
    end_caused ends.Memory w within = tt

    source_of : (before now : ℕ) (w : Working (ends.SourceFault before now)) → indexer.log_faults ≤ last_count → IsSourceCaused (ends.SourceFault before now) indexer.log_faults w.last.indexer.log_faults
    source_of before now w within = by w.ended
      where
        by : EndsBy (λ (step : StepMade Told). end_of step.result) ends.Turns turns w.steps (ends.SourceFault before now) → IsSourceCaused (ends.SourceFault before now) indexer.log_faults w.last.indexer.log_faults
        by (inr out) = absurd (let e = out.0 in cc)
        by (inl last) =
            let P : List (StepMade Told) → Type 0 = λ steps. AreSteps (IndexerStep Between log) (indexer_at indexer core) steps w.last in
            let split = last_step (IndexerStep Between log) (indexer_at indexer core) w.last last.1.front last.1.last (subst P last.1.are w.are) in
            let told_is = source_answer last.1.last.result before now last.1.ends in
            let outcome_is = answer_source before now split.2.outcome (subst (λ told. Answers told split.2.outcome) told_is split.2.answer) in
            let Q : Option IndexerOutcome → Type 0 = λ o. OutcomeWithin split.2.mid.store_faults split.0.indexer.log_faults o w.last.core.store_faults w.last.indexer.log_faults in
            let c : (before ≡ split.0.indexer.log_faults) × Rose before now × (now ≡ w.last.indexer.log_faults) = subst Q outcome_is (step_says split.0 last.1.last w.last split.2).says in
            let past = counts_past indexer.log_faults (indexer_at indexer core) split.0 last.1.front split.1 (omega arith) in
            let same = c.0 in
            (omega (arith, past, same, within), c.1, c.2)

    source_caused : (end : IndexerEnd) (w : Working end) → indexer.log_faults ≤ last_count → IsSourceCaused end indexer.log_faults w.last.indexer.log_faults
    source_caused ends.CaughtUp w within = tt
    source_caused (ends.Refused refusal) w within = tt
    source_caused (ends.Fault error) w within = tt
    source_caused (ends.SourceFault before now) w within = source_of before now w within
    source_caused ends.Turns w within = tt
    source_caused ends.Memory w within = tt

  -- ---- what it saw

  module _ (names : List (List ℕ)) where
    -- One of these calls asked for the checkpoints, and what is read is watched from these on.
    record SawMarks (calls : List CallMade) (place : IndexerPlace) : Type 0 where
      front : List CallMade
      seen : CallMade
      more : List CallMade
      are : calls ≡ front ++ seen ∷ more
      ask : seen.ask ≡ of_checkpoints
      watched : PlaceWatched log (marks_at (checkpoints_of (history seen.history)) names) place

    -- where it reads, it saw some
    abbrev Watches : List CallMade → IndexerPlace → Type 0
    Watches calls idle = Unit {0}
    Watches calls (reading batch) = SawMarks calls (reading batch)
    Watches calls (staged held) = Unit {0}
    Watches calls (uploaded held) = Unit {0}

    by_place : (calls : List CallMade) (place : IndexerPlace) → SawMarks calls place → Watches calls place
    by_place calls idle s = tt
    by_place calls (reading batch) s = s
    by_place calls (staged held) s = tt
    by_place calls (uploaded held) s = tt

    saw_more : (calls more : List CallMade) (place next : IndexerPlace) (s : SawMarks calls place) → PlaceWatched log (marks_at (checkpoints_of (history s.seen.history)) names) next → SawMarks (calls ++ more) next
    saw_more calls more place next s w =
        record {
          front = s.front;
          seen = s.seen;
          more = s.more ++ more;
          are = ap (λ l. l ++ more) s.are ∙ append_assoc s.front (s.seen ∷ s.more) more;
          ask = s.ask;
          watched = w;
        }

    -- behind a step: what it saw, and that it has caught up only there
    record StepSees (calls : List CallMade) (told : Told) (place : IndexerPlace) : Type 0 where
      sees : Watches calls place
      caught_up : end_of told ≡ Some ends.CaughtUp → SawEnds log names calls

    caught_none : (told : Told) (outcome : Option IndexerOutcome) (calls : List CallMade) → Answers told outcome → IsBehind outcome → end_of told ≡ Some ends.CaughtUp → SawEnds log names calls
    caught_none told outcome calls answer behind e = absurd (behind (answer_caught outcome (subst (λ t. Answers t outcome) (caught_answer told e) answer)))

    none_read : (calls : List CallMade) (place : IndexerPlace) → ReadsNone place → Watches calls place
    none_read calls idle none = tt
    none_read calls (reading batch) none = absurd none
    none_read calls (staged held) none = tt
    none_read calls (uploaded held) none = tt

    begun_sees : (calls : List CallMade) (made : List CallMade) (mid : Core) (step : Stepped) → Begins log names step → IsRecorded of_checkpoints mid step.core (IsCallFree idle step.outcome) made →
        (place : IndexerPlace) → step.indexer.place ≡ place → Watches (calls ++ made) place
    begun_sees calls made mid step b recorded idle is = tt
    begun_sees calls made mid step b recorded (staged held) is = tt
    begun_sees calls made mid step b recorded (uploaded held) is = tt
    begun_sees calls made mid step b recorded (reading batch) is =
        let P : IndexerPlace → Type 0 = λ place. HasBegun log names step.outcome place step.core in
        let begun : (step.outcome ≡ Some Checkpoint) × Watched log (marks_at (checkpoints_of (history step.core.history)) names) batch = subst P is b.place in
        let made_is : made ≡ made_of of_checkpoints step.core ∷ [] = once recorded begun.0 in
        record { front = calls; seen = made_of of_checkpoints step.core; more = []; are = ap (λ l. calls ++ l) made_is; ask = refl; watched = begun.1 }
      where
        once : IsRecorded of_checkpoints mid step.core (IsCallFree idle step.outcome) made → step.outcome ≡ Some Checkpoint → made ≡ made_of of_checkpoints step.core ∷ []
        once (inl one) e = one
        once (inr none) e = let Q : Option IndexerOutcome → Type 0 = λ o. IsCallFree idle o in absurd (subst Q e none.2)

    step_sees : (calls : List CallMade) (from : IndexerAt) (step : StepMade Told) (to : IndexerAt) → IndexerStep Between log from step to → partitions_for from.indexer.assignment log ≡ names →
        (place : IndexerPlace) → from.indexer.place ≡ place → Watches calls place → StepSees (calls ++ step.made) step.result to.indexer.place
    unfolding saw_more
    step_sees calls from step to s same idle is w =
        let stepped : Stepped = record { outcome = s.outcome; indexer = to.indexer; core = to.core } in
        let P : Stepped → Type 0 = λ st. Begins log names st in
        let b = subst P s.did (idle_step log names s.luck s.mid from.indexer is same) in
        let R : IndexerPlace → Type 0 = λ pl. IsRecorded (ask_of pl) s.mid to.core (IsCallFree pl s.outcome) step.made in
        record { sees = begun_sees calls step.made s.mid stepped b (subst R is s.recorded) to.indexer.place refl; caught_up = caught_none step.result s.outcome (calls ++ step.made) s.answer b.is_behind }
    step_sees calls from step to s same (reading batch) is w =
        let marks = marks_at (checkpoints_of (history w.seen.history)) names in
        let P : Stepped → Type 0 = λ st. GoesOn log marks st in
        let g = subst P s.did (reading_step log marks s.luck s.mid from.indexer batch is w.watched) in
        let more = saw_more calls step.made (reading batch) to.indexer.place w g.place in
        record {
          sees = by_place (calls ++ step.made) to.indexer.place more;
          caught_up = λ e.
              let caught = answer_caught s.outcome (subst (λ t. Answers t s.outcome) (caught_answer step.result e) s.answer) in
              record { front = more.front; seen = more.seen; more = more.more; are = more.are; ask = more.ask; at_ends = ends_of log w.seen.history names (g.at_ends caught) };
        }
    step_sees calls from step to s same (staged held) is w =
        let P : Stepped → Type 0 = λ st. Leaves st in
        let l = subst P s.did (staged_step log s.luck s.mid from.indexer held is) in
        record { sees = none_read (calls ++ step.made) to.indexer.place l.place; caught_up = caught_none step.result s.outcome (calls ++ step.made) s.answer l.is_behind }
    step_sees calls from step to s same (uploaded held) is w =
        let P : Stepped → Type 0 = λ st. Leaves st in
        let l = subst P s.did (uploaded_step log s.luck s.mid from.indexer held is) in
        record { sees = none_read (calls ++ step.made) to.indexer.place l.place; caught_up = caught_none step.result s.outcome (calls ++ step.made) s.answer l.is_behind }

    same_names : (from : IndexerAt) (step : StepMade Told) (to : IndexerAt) → IndexerStep Between log from step to → partitions_for from.indexer.assignment log ≡ names → partitions_for to.indexer.assignment log ≡ names
    same_names from step to s same = ap (λ a. partitions_for a log) (step_says from step to s).assigned ∙ same

    steps_see : (calls : List CallMade) (from to : IndexerAt) (steps : List (StepMade Told)) → AreSteps (IndexerStep Between log) from steps to → partitions_for from.indexer.assignment log ≡ names →
        Watches calls from.indexer.place → (Watches (calls ++ calls_of steps) to.indexer.place) × (partitions_for to.indexer.assignment log ≡ names)
    steps_see calls from to [] are same w =
        let P : IndexerAt → Type 0 = λ at. (Watches (calls ++ []) at.indexer.place) × (partitions_for at.indexer.assignment log ≡ names) in
        let Q : List CallMade → Type 0 = λ l. Watches l from.indexer.place in
        subst P (sym are) (subst Q (sym (append-nil calls)) w, same)
    steps_see calls from to (step ∷ more) are same w =
        let one = step_sees calls from step are.0 are.1 same from.indexer.place refl w in
        let rest = steps_see (calls ++ step.made) are.0 to more are.2 (same_names from step are.0 are.1 same) one.sees in
        let Q : List CallMade → Type 0 = λ l. Watches l to.indexer.place in
        (subst Q (append_assoc calls step.made (calls_of more)) rest.0, rest.1)

  module _ {L : Type 0} (tells : L → Option Log) (count : L → ℕ) (turns : ℕ) (reader : Reader L) (indexer : Indexer) (core : Core) (made : List CallMade) (after : Core) where
    idle_watches : (calls : List CallMade) (place : IndexerPlace) → IsIdle place → Watches (partitions_for indexer.assignment log) calls place
    idle_watches calls idle i = tt
    idle_watches calls (reading batch) i = absurd i
    idle_watches calls (staged held) i = tt
    idle_watches calls (uploaded held) i = tt

    caught_up : (end : IndexerEnd) (w : Works (IndexerStep Between log) core_there end_of ends.Turns (Holds tells count log reader) turns end (indexer_at indexer core) made after) → end ≡ ends.CaughtUp → IsIdle indexer.place →
        SawEnds log (partitions_for indexer.assignment log) made
    caught_up end w is idled = by w.ended
      where
        names : List (List ℕ)
        names = partitions_for indexer.assignment log

        by : EndsBy (λ (step : StepMade Told). end_of step.result) ends.Turns turns w.steps end → SawEnds log (partitions_for indexer.assignment log) made
        by (inr out) = absurd (let e = sym is ∙ out.0 in cc)
        by (inl last) =
            let P : List (StepMade Told) → Type 0 = λ steps. AreSteps (IndexerStep Between log) (indexer_at indexer core) steps w.last in
            let split = last_step (IndexerStep Between log) (indexer_at indexer core) w.last last.1.front last.1.last (subst P last.1.are w.are) in
            let before = steps_see (partitions_for indexer.assignment log) [] (indexer_at indexer core) split.0 last.1.front split.1 refl (idle_watches [] indexer.place idled) in
            let step = step_sees (partitions_for indexer.assignment log) (calls_of last.1.front) split.0 last.1.last w.last split.2 before.1 split.0.indexer.place refl before.0 in
            let saw = step.caught_up (last.1.ends ∙ ap (λ e. Some e) is) in
            let all = w.calls ∙ (ap calls_of last.1.are ∙ calls_more last.1.front last.1.last) in
            let Q : List CallMade → Type 0 = λ calls. SawEnds log (partitions_for indexer.assignment log) calls in
            subst Q (sym all) saw

    pub did_of : (end : IndexerEnd) → Works (IndexerStep Between log) core_there end_of ends.Turns (Holds tells count log reader) turns end (indexer_at indexer core) made after →
        IndexerDid tells count Between log turns end reader indexer core made after
    did_of end w =
        record {
          works = w;
          cause = λ within. end_caused tells count turns reader indexer core made after end w within;
          source = λ within. source_caused tells count turns reader indexer core made after end w within;
          caught_up = λ is idled. caught_up end w is idled;
        }

  pub ran_did : {L W : Type 0} (tells : L → Option Log) (count : L → ℕ) (Stands : W → Core → Log → Type 0) (Adds : W → List CallMade → W → Type 0) (turns : ℕ) (end : IndexerEnd) (reader : Reader L) (indexer : Indexer)
      (core : Core) (old new : W) →
      Ran Stands Adds (λ made after. Works (IndexerStep Between log) core_there end_of ends.Turns (Holds tells count log reader) turns end (indexer_at indexer core) made after) core log old new →
      Ran Stands Adds (λ made after. IndexerDid tells count Between log turns end reader indexer core made after) core log old new
  ran_did tells count Stands Adds turns end reader indexer core old new r =
      ran_as Stands Adds (λ made after. Works (IndexerStep Between log) core_there end_of ends.Turns (Holds tells count log reader) turns end (indexer_at indexer core) made after)
      (λ made after. IndexerDid tells count Between log turns end reader indexer core made after) core log old new (λ made after w. did_of tells count turns reader indexer core made after end w) r

  -- the index may go on
  later_end : (end : IndexerEnd) (core after later : Core) → GoesFor Nobody after later → IsEndCaused end core after → IsEndCaused end core later
  later_end ends.CaughtUp core after later on c = tt
  later_end (ends.Refused refusal) core after later on c = tt
  later_end (ends.Fault error) core after later on c = caused_later error core after later on c
  later_end (ends.SourceFault before now) core after later on c = tt
  later_end ends.Turns core after later on c = tt
  later_end ends.Memory core after later on c = tt

  pub did_later : {L : Type 0} (tells : L → Option Log) (count : L → ℕ) (turns : ℕ) (end : IndexerEnd) (reader : Reader L) (indexer : Indexer) (core : Core) (made : List CallMade) (after later : Core) →
      GoesFor Nobody after later → IndexerDid tells count Between log turns end reader indexer core made after → IndexerDid tells count Between log turns end reader indexer core made later
  did_later tells count turns end reader indexer core made after later on d =
      let w = d.works in
      record {
        works = record { steps = w.steps; last = w.last; are = w.are; left = w.left; calls = w.calls; goes_on = goes_then w.last.core after later w.goes_on on; ended = w.ended };
        cause = λ within. later_end end core after later on (d.cause within);
        source = d.source;
        caught_up = d.caught_up;
      }
