-- What a merger or a delete worker holds between its steps.
use Rattle.std.specs.Prelude.{◌≡◌, ◌≢◌, ℕ, ◌+◌, ◌≤◌, Bool, true, false, List, [], length, map, sum_by, Option, Some, None}
use Rattle.std.specs.List.{AllZip}
use Rattle.std.specs.Option.{IfSome}
use Rattle.delete_tasks.specs.Removed.{covered_by}
use Rattle.delete_tasks.specs.Removes.{DeleteTask}
use Rattle.doc_value.specs.Documents.{IsDynamic}
use Rattle.index_config.specs.declared.config.IndexConfig.{IndexConfig}
use Rattle.merge_policy.specs.Choice.{FitsSplit}
use Rattle.meta_store.specs.History.{history, last_opstamp}
use Rattle.meta_store.specs.Laws.{NumberedFrom}
use Rattle.meta_store.specs.Ledgers.{ledger}
use Rattle.meta_store.specs.Left.{HasMarks, mark_of}
use Rattle.source_checkpoint.specs.declared.delta.Part.{Part}
use Rattle.source_log.specs.Log.{Log}
use Rattle.split_bundle.specs.declared.placed.Placed.{Placed}
use Rattle.split_states.specs.Answers.{AreApart}
use Rattle.split_states.specs.declared.facts.RowFacts.{RowFacts}
use Rattle.split_states.specs.declared.rows.Row.{Row}
use Rattle.index_world.specs.Config.{reads}
use Rattle.index_world.specs.Core.{Core, HasStagedIn, IsConfigured, IsPlannedIn, IsUnusedIn, IsUploadedIn}
use Rattle.index_world.specs.Index.{ranges_of}
use Rattle.index_world.specs.Replacing.{AreFetchedIn, IsMadeOf, WerePlanned, joined}
use Rattle.index_world.specs.Seen.{meaning, rejected_in}
use Rattle.index_world.specs.SplitFile.{AreSplit, facts_of, file_of}
use Rattle.upkeep_run.specs.Dropping.{AreAsked}
use Rattle.upkeep_run.specs.declared.work.Aim.{Aim}
use Rattle.upkeep_run.specs.declared.work.Aim.TheVariants.{Deleting, Merging}

-- Rows that were planned, and what each of their files holds, in the order of the plan: what for, under which configuration, at which moment,
-- and behind which task, of all that stood. And the rows whose files are still to be fetched.
pub record Work : Type 0 where
  pub aim : Aim
  pub config : IndexConfig
  pub moment : ℕ
  pub upto : ℕ
  pub tasks : List DeleteTask
  pub rows : List Row
  pub contents : List (List Placed)
  pub unfetched : List Row

-- the documents of a replacement of rows, under its staged number: without those that tasks up to one cover
pub record WorkerHeld : Type 0 where
  pub config : IndexConfig
  pub number : ℕ
  pub old : List ℕ
  pub upto : ℕ
  pub documents : List Placed
  pub rejected : ℕ

pub data WorkerPlace : Type 0 where
  idle : WorkerPlace
  fetching : Work → WorkerPlace
  staged : WorkerHeld → WorkerPlace
  uploaded : WorkerHeld → WorkerPlace

abbrev pub is_idle : WorkerPlace → Bool
is_idle idle = true
is_idle (fetching work) = false
is_idle (staged held) = false
is_idle (uploaded held) = false

-- the number that it holds, if it holds one
abbrev pub number_held : WorkerPlace → Option ℕ
number_held idle = None
number_held (fetching work) = None
number_held (staged held) = Some held.number
number_held (uploaded held) = Some held.number

-- ---- planned rows

abbrev pub row_numbers : List Row → List ℕ
row_numbers rows = map (λ row. row.number) rows

-- until when their files are fetched
abbrev pub until_of : Work → ℕ
until_of work = work.moment + work.config.deletion_grace

-- a row's spans, as a replacement has to know them: their ranges, and behind which task each was taken in
abbrev pub marks_of : Row → List (Part × ℕ)
marks_of row = map mark_of row.spans

-- how many records of their ranges are no documents, by what they say themselves
abbrev pub rejected_of : List Row → ℕ
rejected_of rows = sum_by (λ row. row.facts.rejected) rows

-- WHAT IS KNOWN OF A PLANNED ROW: its file stands until the plan's grace is over, and what was fetched of it is its file as long as the row
-- isn't given up; the row's spans and its facts are those that were seen.
pub record IsRowInHand (config : IndexConfig) (until : ℕ) (log : Log) (core : Core) (row : Row) (documents : List Placed) : Type 0 where
  pub planned : IsPlannedIn core until row.number (file_of config documents)
  pub found : IsUploadedIn core row.number (file_of config documents)
  pub marks : HasMarks core.history row.number (marks_of row)
  pub facts : row.facts ≡ facts_of config documents (rejected_in config log (ranges_of row))
  pub split : AreSplit config documents

-- deletes are of one row at most
abbrev pub IsOneOfDeletes : Aim → List Row → Type 0
IsOneOfDeletes Merging rows = Unit {0}
IsOneOfDeletes Deleting rows = length rows ≤ 1

-- what is known of all of them: they are few, and together no more than a split can hold
pub record IsWork (log : Log) (core : Core) (work : Work) : Type 0 where
  pub configured : IsConfigured work.config core
  pub each : AllZip (IsRowInHand work.config (until_of work) log core) work.rows work.contents
  pub fits : FitsSplit work.rows
  pub few : length work.rows ≤ 100
  pub known : work.upto ≤ last_opstamp (history core.history)
  -- the tasks that stood are numbered, each can be asked, and up to the last one they cover what all tasks do
  pub numbered : NumberedFrom 1 work.tasks
  pub asked : IfSome work.config.schema.dynamic (IsDynamic work.config.schema.fields) → AreAsked work.config.schema work.tasks
  pub covers : (x : Placed) (n : ℕ) → covered_by ((meaning work.config).matches x) work.tasks n work.upto ≡ covered_by ((meaning work.config).matches x) (ledger reads (history core.history)).tasks n work.upto

-- what a plan's rows are: some, each once, and one of deletes
pub record IsPlannedFor (aim : Aim) (work : Work) : Type 0 where
  pub some : work.rows ≢ []
  pub apart : AreApart (row_numbers work.rows)
  pub one : IsOneOfDeletes aim work.rows
  pub for_it : work.aim ≡ aim

-- ---- a replacement

abbrev pub held_file : WorkerHeld → List ℕ
held_file held = file_of held.config held.documents

abbrev pub held_facts : WorkerHeld → RowFacts
held_facts held = facts_of held.config held.documents held.rejected

-- its file was made of the files that were fetched of the planned rows
pub record IsHeldMade (log : Log) (core : Core) (held : WorkerHeld) : Type 0 where
  pub some : held.old ≢ []
  pub apart : AreApart held.old
  pub files : List (List ℕ)
  pub marks : List (List (Part × ℕ))
  pub fetched : AreFetchedIn core held.old files
  pub planned : WerePlanned core.history held.old marks
  pub known : held.upto ≤ last_opstamp (history core.history)
  pub made : IsMadeOf held.config log (ledger reads (history core.history)).tasks held.upto (joined marks) files (held_facts held) (held_file held)

pub record IsStagedHeld (log : Log) (core : Core) (held : WorkerHeld) : Type 0 where
  pub configured : IsConfigured held.config core
  pub unused : IsUnusedIn core held.number
  pub staged : HasStagedIn core held.number [] (held_facts held)
  pub made : IsHeldMade log core held

pub record IsUploadedHeld (log : Log) (core : Core) (held : WorkerHeld) : Type 0 where
  pub configured : IsConfigured held.config core
  pub uploaded : IsUploadedIn core held.number (held_file held)
  pub staged : HasStagedIn core held.number [] (held_facts held)
  pub made : IsHeldMade log core held
