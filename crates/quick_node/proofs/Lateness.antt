-- A step of a merger or a delete worker comes too late only where the deletion grace of the index had passed behind its plan, whatever lands and fails.
use Rattle.std.proofs.Common.{◌≡◌, ℕ, ◌≤◌, Bool, true, false, List, [], ◌∷◌, refl, subst, arith}
use Rattle.std.proofs.lemmas.Bool.{leb-true}
use Rattle.std.specs.Prelude.{Option, Some, None, Result, Ok, Err, ⊤, if◌then◌else◌, is_some, length, nat_le}
use Rattle.meta_journal.specs.Places.{split_key}
use Rattle.meta_journal.specs.declared.entry.Act.{Act}
use Rattle.meta_journal.specs.declared.entry.Act.TheVariants.{Raise, Replace}
use Rattle.meta_journal.specs.declared.entry.Entry.{Entry}
use Rattle.meta_store.specs.declared.refusal.Refusal.{Refusal}
use Rattle.source_log.specs.Log.{Log}
use Rattle.split_states.specs.declared.rows.Row.{Row}
use Rattle.index_world.specs.Calls.{Effect, done_at_once, done_late, done_never, Fate, Call, store_fault, is_foreign, is_full, is_expired, Grace, Trouble, faulted, no_memory, Unmade, refused, troubled, Gives, Made, made, exists, failed, adopted_made, and_then_by, appended, asked_and_looked, asked_clock, asking, begun, create_at_end, entry_of, fetched, file_by, file_got, file_made, first_unless, full_answer, get_at_end, got_file, last_create, last_made, last_unless, may_append, may_fail, or_full, or_short, settled, transact, troubled_by, unless_over, upload_made}
use Rattle.index_world.specs.Calls as calls
use Rattle.index_world.specs.Core.{Core, file_at}
use Rattle.index_world.specs.Gate.{raise_call, replace_call, stage_act, stage_call}
use Rattle.index_world.specs.Index.{max_entries}
use Rattle.upkeep_run.specs.Outcomes.{UpkeepOutcome}
use Rattle.upkeep_run.specs.Places.{WorkerHeld, WorkerPlace, Work, fetching, held_facts, held_file, idle, staged, uploaded}
use Rattle.upkeep_run.specs.Steps.{WorkerLuck, Stepped, config_in, drops_none, fetch_by, first_number, grace_in, held_of, or_short as or_unsaid, plan_by, plan_with, raise_by, replace_by, rows_in, stage_by, step_close, step_place, step_raise, step_stage, step_work, step_worker, trouble_outcome, upload_by, work_in}
use Rattle.upkeep_run.specs.declared.work.Aim.{Aim}
use Rattle.upkeep_run.specs.declared.work.Aim.TheVariants.{Deleting, Merging}
use Rattle.call_laws.proofs.CallTells.{IfErr, IsStoreTrouble, asked_and_looked_own, got_own, settle_own}
use Rattle.node_run.proofs.WorkerMoves.{planned_same}
use Rattle.quick_node.specs.Expires.{WorkIsOver}

-- ---- fetches

-- a fetch is too late only where the moment until which it may come has passed
abbrev pub IsLate : Grace → Trouble → Type 0
IsLate grace (faulted (store_fault before after)) = ⊤
IsLate grace (faulted (is_foreign key)) = ⊤
IsLate grace (faulted is_full) = ⊤
IsLate grace (faulted (is_expired planned_at now)) = (planned_at ≡ grace.planned_at) × (grace.until ≤ now)
IsLate grace no_memory = ⊤

module _ (grace : Grace) where
  got_late : (b : Bool) (before : ℕ) (core : Core) → IfErr (IsLate grace) (got_file b before core).answer
  got_late true before core = tt
  got_late false before core = tt

  file_late : (call : Call) (core : Core) → IfErr (IsLate grace) (file_got call core).answer
  file_late call core = by call.short
    where
      by : (b : Bool) → IfErr (IsLate grace) (or_short b no_memory call core (got_file (may_fail call core.store_faults) core.store_faults (begun call core))).answer
      by true = tt
      by false = got_late (may_fail call core.store_faults) core.store_faults (begun call core)

  pub fetched_late : (fate : Fate) (core : Core) → IfErr (IsLate grace) (fetched grace fate core).answer
  fetched_late fate core = by fate.unasked
    where
      unless : (b : Bool) → nat_le grace.until (asked_clock core).moment ≡ b → IfErr (IsLate grace) (unless_over b grace.planned_at (asked_clock core) (file_got fate.first (asked_clock core))).answer
      unless true e = (refl, leb-true grace.until (asked_clock core).moment e)
      unless false e = file_late fate.first (asked_clock core)

      by : (b : Bool) → IfErr (IsLate grace) (asking b no_memory core (λ c. unless_over (nat_le grace.until c.moment) grace.planned_at c (file_got fate.first c))).answer
      by true = tt
      by false = unless (nat_le grace.until (asked_clock core).moment) refl

-- ---- calls that are never too late

abbrev pub IsOnTime : Trouble → Type 0
IsOnTime (faulted (store_fault before after)) = ⊤
IsOnTime (faulted (is_foreign key)) = ⊤
IsOnTime (faulted is_full) = ⊤
IsOnTime (faulted (is_expired planned_at now)) = ⊥
IsOnTime no_memory = ⊤

abbrev pub MadeOnTime : Unmade → Type 0
MadeOnTime (refused refusal) = ⊤
MadeOnTime (troubled trouble) = IsOnTime trouble

store_on_time : (trouble : Trouble) → IsStoreTrouble trouble → IsOnTime trouble
store_on_time (faulted (store_fault before after)) h = tt
store_on_time (faulted (is_foreign key)) h = tt
store_on_time (faulted is_full) h = tt
store_on_time (faulted (is_expired planned_at now)) h = h
store_on_time no_memory h = tt

abbrev pub OnTime : Gives Unmade ⊤ → Type 0
OnTime given = IfErr MadeOnTime given.answer

last_made_timely : (count : ℕ) (entry : Entry) (m : Made) (core : Core) → OnTime (last_made count entry m core)
last_made_timely count entry made core = tt
last_made_timely count entry (exists other) core = tt
last_made_timely count entry failed core = tt

full_timely : (b : Bool) (call : Call) (count : ℕ) (act : Act) (core : Core) → OnTime (last_unless (full_answer b) call count act core)
full_timely true call count act core = tt
full_timely false call count act core = let making = create_at_end call (entry_of act core) core in last_made_timely count (entry_of act core) making.answer making.core

answer_timely : (r : Result (Unit {0}) Refusal) (call : Call) (count : ℕ) (act : Act) (core : Core) → OnTime (last_unless (or_full r core) call count act core)
answer_timely (Err refusal) call count act core = tt
answer_timely (Ok done) call count act core = full_timely (nat_le max_entries (length core.history)) call count act core

last_timely : (call : Call) (count : ℕ) (act : Act) (core : Core) → OnTime (last_create call count act core)
last_timely call count act core = by call.short
  where
    by : (b : Bool) → OnTime (or_short b (troubled no_memory) call core (last_unless (may_append act core) call count act core))
    by true = tt
    by false = answer_timely (calls.answer_behind core.history (entry_of act core)) call count act core

then_timely : (r : Result ⊤ Trouble) (core : Core) (act : Core → Act) (call : Call) (count : ℕ) → IfErr IsStoreTrouble r →
    OnTime (and_then_by (troubled_by r core).answer (troubled_by r core).core (λ c. last_create call count (act c) c))
then_timely (Ok done) core act call count h = last_timely call count (act core) core
then_timely (Err trouble) core act call count h = store_on_time trouble h

module _ (act : Core → Act) where
  adopted_timely : (get again : Call) (count : ℕ) (entry : Entry) (m : Made) (core : Core) → OnTime (adopted_made get again count act entry m core)
  adopted_timely get again count entry made core = tt
  adopted_timely get again count entry (exists other) core =
      let given = get_at_end get other count core in
      then_timely given.answer given.core act again count (got_own (may_fail get core.store_faults) get count other (begun get core))
  adopted_timely get again count entry failed core = tt

  module _ (first second third : Call) where
    first_full_timely : (b : Bool) (core : Core) → OnTime (first_unless (full_answer b) first second third act core)
    first_full_timely true core = tt
    first_full_timely false core =
        let making = create_at_end first (entry_of (act core) core) core in adopted_timely second third core.store_faults (entry_of (act core) core) making.answer making.core

    first_timely : (r : Result (Unit {0}) Refusal) (core : Core) → OnTime (first_unless (or_full r core) first second third act core)
    first_timely (Err refusal) core = tt
    first_timely (Ok done) core = first_full_timely (nat_le max_entries (length core.history)) core

    transact_timely : (b : Bool) (core : Core) → OnTime (transact b first second third act core)
    transact_timely true core = let given = settled first second core in then_timely given.answer given.core act third core.store_faults (settle_own core.unsure first second core)
    transact_timely false core = by first.short
      where
        by : (b : Bool) → OnTime (or_short b (troubled no_memory) first core (first_unless (may_append (act core) core) first second third act core))
        by true = tt
        by false = first_timely (calls.answer_behind core.history (entry_of (act core) core)) core

  pub appended_timely : (fate : Fate) (core : Core) → OnTime (appended fate act core)
  appended_timely fate core = by fate.unasked
    where
      by : (b : Bool) → OnTime (asking b (troubled no_memory) core (λ c. transact c.unsure fate.first fate.second fate.third act c))
      by true = tt
      by false = transact_timely fate.first fate.second fate.third core.unsure (asked_clock core)

file_by_timely : (b : Bool) (c : Effect) (stands : Bool) (count : ℕ) (key bytes : List ℕ) (core : Core) → IfErr IsOnTime (file_by b c stands count key bytes core).answer
file_by_timely true done_at_once false count key bytes core = tt
file_by_timely true done_at_once true count key bytes core = tt
file_by_timely true done_late stands count key bytes core = tt
file_by_timely true done_never stands count key bytes core = tt
file_by_timely false c true count key bytes core = tt
file_by_timely false c false count key bytes core = tt

file_timely : (call : Call) (key bytes : List ℕ) (core : Core) → IfErr IsOnTime (file_made call key bytes core).answer
file_timely call key bytes core = by call.short
  where
    by : (b : Bool) →
        IfErr IsOnTime (or_short b no_memory call core (file_by (may_fail call core.store_faults) call.effect (is_some (file_at (begun call core).files key)) core.store_faults key bytes (begun call core))).answer
    by true = tt
    by false = file_by_timely (may_fail call core.store_faults) call.effect (is_some (file_at (begun call core).files key)) core.store_faults key bytes (begun call core)

-- ---- a worker's step

-- what is planned is fetched for this grace
abbrev pub WorkerKeeps : ℕ → WorkerPlace → Type 0
WorkerKeeps grace idle = ⊤
WorkerKeeps grace (fetching work) = work.config.deletion_grace ≡ grace
WorkerKeeps grace (staged held) = ⊤
WorkerKeeps grace (uploaded held) = ⊤

abbrev pub WorkOver : ℕ → Option UpkeepOutcome → Type 0
WorkOver grace None = ⊤
WorkOver grace (Some outcome) = WorkIsOver grace outcome

pub record StepOnTime (grace : ℕ) (step : Stepped) : Type 0 where
  pub place : WorkerKeeps grace step.place
  pub said : WorkOver grace step.outcome

module _ (grace : ℕ) where
  trouble_over : (trouble : Trouble) → IsOnTime trouble → WorkOver grace (trouble_outcome trouble)
  trouble_over (faulted (store_fault before after)) h = tt
  trouble_over (faulted (is_foreign key)) h = tt
  trouble_over (faulted is_full) h = tt
  trouble_over (faulted (is_expired planned_at now)) h = absurd h
  trouble_over no_memory h = tt

  late_over : (work : Work) (trouble : Trouble) → work.config.deletion_grace ≡ grace → IsLate (grace_in work) trouble → WorkOver grace (trouble_outcome trouble)
  late_over work (faulted (store_fault before after)) k h = tt
  late_over work (faulted (is_foreign key)) k h = tt
  late_over work (faulted is_full) k h = tt
  late_over work (faulted (is_expired planned_at now)) k h = let same = h.0 in let le = h.1 in omega (arith, k, same, le)
  late_over work no_memory k h = tt

  plan_keeps : (aim : Aim) (r : Result ⊤ Trouble) (log : Log) (core : Core) → IfErr IsStoreTrouble r → (config_in core).deletion_grace ≡ grace → StepOnTime grace (plan_by aim r log core)
  plan_keeps aim (Ok done) log core h same = by (rows_in aim core)
    where
      by : (list : List Row) → StepOnTime grace (plan_with list (work_in aim log core) core)
      by [] = record { place = tt; said = tt }
      by (row ∷ list) = record { place = same; said = tt }
  plan_keeps aim (Err trouble) log core h same = record { place = tt; said = trouble_over trouble (store_on_time trouble h) }

  fetch_keeps : (r : Result ⊤ Trouble) (work : Work) (number : ℕ) (more : List Row) (core : Core) → work.config.deletion_grace ≡ grace → IfErr (IsLate (grace_in work)) r → StepOnTime grace (fetch_by r work number more core)
  fetch_keeps (Ok done) work number more core k h = record { place = k; said = tt }
  fetch_keeps (Err trouble) work number more core k h = record { place = tt; said = late_over work trouble k h }

  stage_keeps : (r : Result ⊤ Unmade) (held : ℕ → WorkerHeld) (core : Core) → IfErr MadeOnTime r → StepOnTime grace (stage_by r held core)
  stage_keeps (Ok done) held core h = record { place = tt; said = tt }
  stage_keeps (Err (refused refusal)) held core h = record { place = tt; said = tt }
  stage_keeps (Err (troubled trouble)) held core h = record { place = tt; said = trouble_over trouble h }

  raise_keeps : (r : Result ⊤ Unmade) (number : ℕ) (core : Core) → IfErr MadeOnTime r → StepOnTime grace (raise_by r number core)
  raise_keeps (Ok done) number core h = record { place = tt; said = tt }
  raise_keeps (Err (refused refusal)) number core h = record { place = tt; said = tt }
  raise_keeps (Err (troubled trouble)) number core h = record { place = tt; said = trouble_over trouble h }

  upload_keeps : (r : Result ⊤ Trouble) (held : WorkerHeld) (core : Core) → IfErr IsOnTime r → StepOnTime grace (upload_by r held core)
  upload_keeps (Ok done) held core h = record { place = tt; said = tt }
  upload_keeps (Err trouble) held core h = record { place = tt; said = trouble_over trouble h }

  replace_keeps : (r : Result ⊤ Unmade) (number : ℕ) (core : Core) → IfErr MadeOnTime r → StepOnTime grace (replace_by r number core)
  replace_keeps (Ok done) number core h = record { place = tt; said = tt }
  replace_keeps (Err (refused refusal)) number core h = record { place = tt; said = tt }
  replace_keeps (Err (troubled trouble)) number core h = record { place = tt; said = trouble_over trouble h }

  module _ (luck : WorkerLuck) (log : Log) (core : Core) where
    staging_keeps : (held : ℕ → WorkerHeld) → StepOnTime grace (step_stage luck held core)
    staging_keeps held = let given = stage_call [] (held_facts (held 0)) luck.world core in stage_keeps given.answer held given.core (appended_timely (stage_act [] (held_facts (held 0))) luck.world core)

    raising_keeps : (number upto : ℕ) → StepOnTime grace (step_raise luck number upto core)
    raising_keeps number upto = let given = raise_call number upto luck.world core in raise_keeps given.answer number given.core (appended_timely (λ c. Raise number upto) luck.world core)

    choice_keeps : (b : Bool) (x y : Stepped) → StepOnTime grace x → StepOnTime grace y → StepOnTime grace (if b then x else y)
    choice_keeps true x y k l = k
    choice_keeps false x y k l = l

    close_keeps : (aim : Aim) (work : Work) → StepOnTime grace (step_close aim luck work core)
    close_keeps Merging work = staging_keeps (held_of Merging work core)
    close_keeps Deleting work =
        choice_keeps (drops_none work core) (step_raise luck (first_number work.rows) work.upto core) (step_stage luck (held_of Deleting work core) core) (raising_keeps (first_number work.rows) work.upto)
        (staging_keeps (held_of Deleting work core))

    work_keeps : (aim : Aim) (work : Work) (unfetched : List Row) → work.config.deletion_grace ≡ grace → StepOnTime grace (step_work aim luck work unfetched core)
    work_keeps aim work [] k = close_keeps aim work
    work_keeps aim work (row ∷ more) k = let given = fetched (grace_in work) luck.world core in fetch_keeps given.answer work row.number more given.core k (fetched_late (grace_in work) luck.world core)

    place_keeps : (aim : Aim) (place : WorkerPlace) → WorkerKeeps grace place → (config_in (step_place aim place luck log core).core).deletion_grace ≡ grace → StepOnTime grace (step_place aim place luck log core)
    place_keeps aim idle k same =
        let given = asked_and_looked luck.world core in
        plan_keeps aim given.answer log given.core (asked_and_looked_own luck.world core) (subst (λ (c : Core). (config_in c).deletion_grace ≡ grace) (planned_same aim given.answer log given.core) same)
    place_keeps aim (fetching work) k same = work_keeps aim work work.unfetched k
    place_keeps aim (staged held) k same =
        let given = upload_made luck.world held.number (held_file held) core in upload_keeps given.answer held given.core (file_timely luck.world.first (split_key held.number) (held_file held) core)
    place_keeps aim (uploaded held) k same =
        let given = replace_call held.number held.old held.upto luck.world core in replace_keeps given.answer held.number given.core (appended_timely (λ c. Replace held.number held.old held.upto) luck.world core)

    short_keeps : (b : Bool) (step : Stepped) → StepOnTime grace step → StepOnTime grace (or_unsaid b step)
    short_keeps true step k = record { place = tt; said = tt }
    short_keeps false step k = k

    short_core : (b : Bool) (step : Stepped) → (or_unsaid b step).core ≡ step.core
    short_core true step = refl
    short_core false step = refl

    pub worker_keeps : (aim : Aim) (place : WorkerPlace) → WorkerKeeps grace place → (config_in (step_worker aim luck log place core).core).deletion_grace ≡ grace → StepOnTime grace (step_worker aim luck log place core)
    worker_keeps aim place k same =
        let step = step_place aim place luck log core in
        short_keeps luck.short step (place_keeps aim place k (subst (λ (c : Core). (config_in c).deletion_grace ≡ grace) (short_core luck.short step) same))
