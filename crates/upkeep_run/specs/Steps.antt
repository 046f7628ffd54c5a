-- One step of a merger or a delete worker, given the fate of its call: one machine with an aim.
use Rattle.std.specs.Prelude.{ℕ, ◌==◌, Bool, true, false, List, [], ◌∷◌, length, map, if◌then◌else◌, Option, Some, None, Result, Ok, Err, ⊤}
use Rattle.index_config.specs.declared.config.IndexConfig.{IndexConfig}
use Rattle.meta_store.specs.History.{history, last_number, last_opstamp}
use Rattle.meta_store.specs.Ledgers.{ledger}
use Rattle.meta_store.specs.Planning.{rows_for}
use Rattle.meta_store.specs.Readings.{config_of}
use Rattle.meta_store.specs.Rows as rows_of
use Rattle.meta_store.specs.declared.planning.Choice.{Choice}
use Rattle.meta_store.specs.declared.planning.Choice.TheVariants as choices
use Rattle.source_log.specs.Log.{Log}
use Rattle.split_bundle.specs.declared.placed.Placed.{Placed}
use Rattle.split_states.specs.declared.rows.Row.{Row}
use Rattle.index_world.specs.Calls.{Fate, calm_fate, Gives, Grace, Trouble, Unmade, asked_and_looked, faulted, fetched, no_memory, refused, troubled, upload_made}
use Rattle.index_world.specs.Config.{reads}
use Rattle.index_world.specs.Configuration.{config_or, configuration}
use Rattle.index_world.specs.Core.{Core}
use Rattle.index_world.specs.Gate.{raise_call, replace_call, stage_call}
use Rattle.index_world.specs.Replacing.{joined, left_in}
use Rattle.index_world.specs.Seen.{contents}
use Rattle.upkeep_run.specs.Outcomes.{UpkeepOutcome}
use Rattle.upkeep_run.specs.Outcomes as said
use Rattle.upkeep_run.specs.declared.work.Aim.{Aim}
use Rattle.upkeep_run.specs.declared.work.Aim.TheVariants.{Deleting, Merging}
use Rattle.upkeep_run.specs.Places.{WorkerHeld, WorkerPlace, Work, fetching, held_facts, held_file, idle, marks_of, rejected_of, row_numbers, staged, until_of, uploaded}

-- what its rows are planned for
abbrev pub choice_of : Aim → Choice
choice_of Merging = choices.Merge
choice_of Deleting = choices.Deletes

-- the fate of one step: its call of the world, and whether it finds no memory behind it
pub record WorkerLuck : Type 0 where
  pub world : Fate
  pub short : Bool

-- What a step answers, and where it is and the core behind it. Without memory there is no outcome.
pub record Stepped : Type 0 where
  pub outcome : Option UpkeepOutcome
  pub place : WorkerPlace
  pub core : Core

abbrev pub stepped : Option UpkeepOutcome → WorkerPlace → Core → Stepped
stepped outcome place core = record { outcome = outcome; place = place; core = core }

-- ---- why a call gave nothing

abbrev pub trouble_outcome : Trouble → Option UpkeepOutcome
trouble_outcome (faulted fault) = Some (said.Faulted fault)
trouble_outcome no_memory = None

-- a Stage is refused where a limit stands
abbrev pub stage_outcome : Unmade → Option UpkeepOutcome
stage_outcome (refused refusal) = Some (said.Refused refusal)
stage_outcome (troubled trouble) = trouble_outcome trouble

-- a Replace or a Raise that is refused is lost, with this number
abbrev pub lost_outcome : ℕ → Unmade → Option UpkeepOutcome
lost_outcome number (refused refusal) = Some (said.Lost number refusal)
lost_outcome number (troubled trouble) = trouble_outcome trouble

-- ---- idle: rows are planned

abbrev pub config_in : Core → IndexConfig
config_in core = config_or (configuration core.history)

abbrev pub rows_in : Aim → Core → List Row
rows_in aim core = rows_for (config_of reads (history core.history)) (choice_of aim) core.moment (last_opstamp (history core.history)) (rows_of.rows (history core.history))

-- what the file of a row holds that is published now
abbrev pub contents_in : Log → Core → Row → List Placed
contents_in log core row = contents (config_in core) (ledger reads (history core.history)).tasks row log

abbrev pub work_in : Aim → Log → Core → Work
work_in aim log core =
    record {
      aim = aim;
      config = config_in core;
      moment = core.moment;
      upto = last_opstamp (history core.history);
      tasks = (ledger reads (history core.history)).tasks;
      rows = rows_in aim core;
      contents = map (contents_in log core) (rows_in aim core);
      unfetched = rows_in aim core;
    }

abbrev pub plan_with : List Row → Work → Core → Stepped
plan_with [] work core = stepped (Some said.Nothing) idle core
plan_with (row ∷ rows) work core = stepped (Some (said.Planned (length (row ∷ rows)))) (fetching work) core

abbrev pub plan_by : Aim → Result ⊤ Trouble → Log → Core → Stepped
plan_by aim (Ok done) log core = plan_with (rows_in aim core) (work_in aim log core) core
plan_by aim (Err trouble) log core = stepped (trouble_outcome trouble) idle core

abbrev pub plan_given : Aim → Log → Gives Trouble ⊤ → Stepped
plan_given aim log given = plan_by aim given.answer log given.core

abbrev pub step_plan : Aim → WorkerLuck → Log → Core → Stepped
step_plan aim luck log core = plan_given aim log (asked_and_looked luck.world core)

-- ---- the whole file of one row is fetched

abbrev pub grace_in : Work → Grace
grace_in work = record { planned_at = work.moment; until = until_of work }

abbrev pub fetch_by : Result ⊤ Trouble → Work → (number : ℕ) → (more : List Row) → Core → Stepped
fetch_by (Ok done) work number more core = stepped (Some (said.Fetched number)) (fetching (record work { unfetched = more })) core
fetch_by (Err trouble) work number more core = stepped (trouble_outcome trouble) idle core

abbrev pub fetch_given : Work → (number : ℕ) → (more : List Row) → Gives Trouble ⊤ → Stepped
fetch_given work number more given = fetch_by given.answer work number more given.core

abbrev pub step_fetch : WorkerLuck → Work → (number : ℕ) → (more : List Row) → Core → Stepped
step_fetch luck work number more core = fetch_given work number more (fetched (grace_in work) luck.world core)

-- ---- all are fetched: a replacement is staged, or the row is raised

-- the documents of all planned rows, one list behind the other
abbrev pub documents_of : Work → List Placed
documents_of work = joined work.contents

-- without those that tasks up to the plan's last one cover
abbrev pub left_of : Work → Core → List Placed
left_of work core = left_in work.config (ledger reads (history core.history)).tasks work.upto (joined (map marks_of work.rows)) (documents_of work)

-- A merge leaves all documents, and is applied up to no task.
abbrev pub held_of : Aim → Work → Core → (number : ℕ) → WorkerHeld
held_of Merging work core number =
    record { config = work.config; number = number; old = row_numbers work.rows; upto = 0; documents = documents_of work; rejected = rejected_of work.rows }
held_of Deleting work core number =
    record { config = work.config; number = number; old = row_numbers work.rows; upto = work.upto; documents = left_of work core; rejected = rejected_of work.rows }

abbrev pub stage_by : Result ⊤ Unmade → (held : ℕ → WorkerHeld) → Core → Stepped
stage_by (Ok done) held core = stepped (Some (said.Staged (last_number (history core.history)))) (staged (held (last_number (history core.history)))) core
stage_by (Err unmade) held core = stepped (stage_outcome unmade) idle core

abbrev pub stage_given : (held : ℕ → WorkerHeld) → Gives Unmade ⊤ → Stepped
stage_given held given = stage_by given.answer held given.core

-- the facts say nothing of the number
abbrev pub step_stage : WorkerLuck → (held : ℕ → WorkerHeld) → Core → Stepped
step_stage luck held core = stage_given held (stage_call [] (held_facts (held 0)) luck.world core)

abbrev pub raise_by : Result ⊤ Unmade → (number : ℕ) → Core → Stepped
raise_by (Ok done) number core = stepped (Some (said.Raised number)) idle core
raise_by (Err unmade) number core = stepped (lost_outcome number unmade) idle core

abbrev pub raise_given : (number : ℕ) → Gives Unmade ⊤ → Stepped
raise_given number given = raise_by given.answer number given.core

abbrev pub step_raise : WorkerLuck → (number upto : ℕ) → Core → Stepped
step_raise luck number upto core = raise_given number (raise_call number upto luck.world core)

-- the number of the first row; plans without rows are not worked on
abbrev pub first_number : List Row → ℕ
first_number [] = 0
first_number (row ∷ rows) = row.number

-- whether nothing of what was planned is covered
abbrev pub drops_none : Work → Core → Bool
drops_none work core = length (left_of work core) == length (documents_of work)

abbrev pub step_close : Aim → WorkerLuck → Work → Core → Stepped
step_close Merging luck work core = step_stage luck (held_of Merging work core) core
step_close Deleting luck work core = if drops_none work core then step_raise luck (first_number work.rows) work.upto core else step_stage luck (held_of Deleting work core) core

abbrev pub step_work : Aim → WorkerLuck → Work → List Row → Core → Stepped
step_work aim luck work [] core = step_close aim luck work core
step_work aim luck work (row ∷ more) core = step_fetch luck work row.number more core

-- ---- staged: its file is made

abbrev pub upload_by : Result ⊤ Trouble → WorkerHeld → Core → Stepped
upload_by (Ok done) held core = stepped (Some (said.Uploaded held.number)) (uploaded held) core
upload_by (Err trouble) held core = stepped (trouble_outcome trouble) idle core

abbrev pub upload_given : WorkerHeld → Gives Trouble ⊤ → Stepped
upload_given held given = upload_by given.answer held given.core

abbrev pub step_upload : WorkerLuck → WorkerHeld → Core → Stepped
step_upload luck held core = upload_given held (upload_made luck.world held.number (held_file held) core)

-- ---- uploaded: the planned rows are replaced

abbrev pub replace_by : Result ⊤ Unmade → (number : ℕ) → Core → Stepped
replace_by (Ok done) number core = stepped (Some (said.Replaced number)) idle core
replace_by (Err unmade) number core = stepped (lost_outcome number unmade) idle core

abbrev pub replace_given : (number : ℕ) → Gives Unmade ⊤ → Stepped
replace_given number given = replace_by given.answer number given.core

abbrev pub step_replace : WorkerLuck → WorkerHeld → Core → Stepped
step_replace luck held core = replace_given held.number (replace_call held.number held.old held.upto luck.world core)

-- ---- a step

abbrev pub step_place : Aim → WorkerPlace → WorkerLuck → Log → Core → Stepped
step_place aim idle luck log core = step_plan aim luck log core
step_place aim (fetching work) luck log core = step_work aim luck work work.unfetched core
step_place aim (staged held) luck log core = step_upload luck held core
step_place aim (uploaded held) luck log core = step_replace luck held core

-- without memory what was held is dropped
abbrev pub or_short : Bool → Stepped → Stepped
or_short true step = stepped None idle step.core
or_short false step = step

abbrev pub step_worker : Aim → WorkerLuck → Log → WorkerPlace → Core → Stepped
step_worker aim luck log place core = or_short luck.short (step_place aim place luck log core)

-- nothing lands, nothing fails, and memory is there
abbrev pub calm_luck : WorkerLuck
calm_luck = record { world = calm_fate; short = false }
