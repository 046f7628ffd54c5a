-- What the calls of a gate to a world say.
use Rattle.std.specs.Prelude.{◌≡◌, ◌+◌, ◌-◌, ◌^◌, ◌<◌, true, ℕ, List, [], length, map, min, Option, Some, Result, Ok, Err, IfOk, ⊤}
use Rattle.std.specs.declared.alloc.AllocError.{AllocError}
use Rattle.delete_tasks.specs.Removes.{DeleteTask}
use Rattle.index_config.specs.declared.config.IndexConfig.{IndexConfig}
use Rattle.object_store.specs.Store.{State, IsPieceOf}
use Rattle.meta_journal.specs.Places.{split_key}
use Rattle.meta_journal.specs.Spelling.{AreAll, IsText}
use Rattle.meta_journal.specs.declared.entry.Act.{Act}
use Rattle.meta_journal.specs.declared.entry.Act.TheVariants.{Stage, Publish, Replace, Raise, Task}
use Rattle.meta_store.specs.History.{history, last_number, last_opstamp}
use Rattle.meta_store.specs.Rows.{rows}
use Rattle.meta_store.specs.State.{checkpoints_of}
use Rattle.object_store.specs.declared.store.Piece.{Piece}
use Rattle.source_checkpoint.specs.declared.delta.Part.{Part}
use Rattle.source_log.specs.Log.{Log}
use Rattle.split_states.specs.declared.facts.RowFacts.{RowFacts}
use Rattle.index_world.specs.Config.{reads}
use Rattle.meta_store.specs.Planning.{rows_for, planned_as}
use Rattle.meta_store.specs.Ledgers.{ledger}
use Rattle.meta_store.specs.Readings.{config_of}
use Rattle.meta_store.specs.declared.planning.Choice.{Choice}
use Rattle.index_world.specs.declared.tokens.DeleteAsk.{DeleteAsk}
use Rattle.index_world.specs.declared.tokens.Marks.{Marks}
use Rattle.index_world.specs.declared.tokens.Plan.{Plan}
use Rattle.index_world.specs.declared.tokens.Receipt.{Receipt}
use Rattle.index_world.specs.declared.tokens.Staged.{Staged}
use Rattle.index_world.specs.declared.tokens.Uploaded.{Uploaded}
use Rattle.index_world.specs.declared.world_error.WorldError.{WorldError}
use Rattle.index_world.specs.declared.world_error.WorldError.TheVariants as errors
use Rattle.index_world.specs.Core.{Core, file_at, journal_of, IsConfigured, IsUnusedIn, IsUploadedIn, HasStagedIn}
use Rattle.index_world.specs.Index.{has_staged, IsMade}
use Rattle.index_world.specs.PlanTasks.{plan_tasks, tasks_upto}
use Rattle.index_world.specs.Calls.{Fate, Grace, Gives, gives, Trouble, faulted, no_memory, store_fault, is_foreign, is_full, is_expired, Unmade, refused, troubled, Unfetched, absent, hindered, appended}
use Rattle.index_world.specs.CallsMade.{Ask, CallMade, IsRecorded, IsShort}
use Rattle.index_world.specs.World.{IsWorld, IsTimely, GoesOn}

-- ---- what an error is in the words of the core

-- over a sound index no key is missing, no entry is corrupt, and the journal has an entry
abbrev pub IsTrouble : WorldError → Trouble → Type 0
IsTrouble (errors.Memory e) trouble = trouble ≡ no_memory
IsTrouble (errors.Refused refusal) trouble = ⊥
IsTrouble (errors.StoreFault before after) trouble = trouble ≡ faulted (store_fault before after)
IsTrouble (errors.Missing key) trouble = ⊥
IsTrouble (errors.Corrupt key) trouble = ⊥
IsTrouble (errors.Foreign key) trouble = trouble ≡ faulted (is_foreign key)
IsTrouble errors.Full trouble = trouble ≡ faulted is_full
IsTrouble (errors.Expired planned_at reached) trouble = trouble ≡ faulted (is_expired planned_at reached)
IsTrouble errors.NoIndex trouble = ⊥
IsTrouble errors.IndexExists trouble = ⊥
IsTrouble (errors.BadConfig bad) trouble = ⊥

abbrev pub IsUnmade : WorldError → Unmade → Type 0
IsUnmade error (refused refusal) = error ≡ errors.Refused refusal
IsUnmade error (troubled trouble) = IsTrouble error trouble

-- an answer of the code is this answer of the core
abbrev pub Says : {E A : Type 0} → (WorldError → E → Type 0) → (A → Core → Type 0) → Result A WorldError → Result ⊤ E → Core → Type 0
Says is holds (Ok a) (Ok done) after = holds a after
Says is holds (Ok a) (Err e) after = ⊥
Says is holds (Err error) (Ok done) after = ⊥
Says is holds (Err error) (Err e) after = is error e

-- A call did this to the core that its world stands for: with some fate it is the core's own, what it answered holds of the core
-- behind it, and the world stands for that.
pub record Acts {W E A : Type 0} (Stands : W → Core → Log → Type 0) (one : Option ℕ) (call : Fate → Core → Gives E ⊤)
    (is : WorldError → E → Type 0) (holds : A → Core → Type 0) (result : Result A WorldError) (core : Core) (log : Log) (new : W) : Type 0 where
  pub fate : Fate
  pub answer : Result ⊤ E
  pub after : Core
  pub did : call fate core ≡ gives answer after
  pub says : Says is holds result answer after
  pub goes_on : GoesOn one core after
  pub stands : Stands new after log

-- The same of a call whose core's answer says more than that it was done: what the code answered holds of that and of the core behind.
abbrev pub SaysWith : {E A B : Type 0} → (WorldError → E → Type 0) → (A → B → Core → Type 0) → Result A WorldError → Result B E → Core → Type 0
SaysWith is holds (Ok a) (Ok b) after = holds a b after
SaysWith is holds (Ok a) (Err e) after = ⊥
SaysWith is holds (Err error) (Ok b) after = ⊥
SaysWith is holds (Err error) (Err e) after = is error e

pub record ActsWith {W E A B : Type 0} (Stands : W → Core → Log → Type 0) (one : Option ℕ) (call : Fate → Core → Gives E B)
    (is : WorldError → E → Type 0) (holds : A → B → Core → Type 0) (result : Result A WorldError) (core : Core) (log : Log) (new : W) : Type 0 where
  pub fate : Fate
  pub answer : Result B E
  pub after : Core
  pub did : call fate core ≡ gives answer after
  pub says : SaysWith is holds result answer after
  pub goes_on : GoesOn one core after
  pub stands : Stands new after log

-- what the code gave is what the core did
abbrev pub IsGiven : {A : Type 0} → A → A → Core → Type 0
IsGiven given answer after = given ≡ answer

-- A call of a gate came to its turn behind what other actors did, `Between`, which left unused what the caller owns. There it did this
-- to the core, and the gate recorded it as its own.
pub record Does {W E A : Type 0} (Stands : W → Core → Log → Type 0) (Between : Core → Core → Type 0) (Owns : W → ℕ → Type 0) (Adds : W → List CallMade → W → Type 0) (one : Option ℕ) (ask : Ask) (call : Fate → Core → Gives E ⊤)
    (is : WorldError → E → Type 0) (holds : A → Core → Type 0) (result : Result A WorldError) (core : Core) (log : Log) (old new : W) : Type 0 where
  pub mid : Core
  pub passed : Between core mid
  pub owned : (number : ℕ) → Owns old number → IsUnusedIn core number → IsUnusedIn mid number
  pub acts : Acts Stands one call is holds result mid log new
  pub made : List CallMade
  pub own : Adds old made new
  pub once : IsRecorded ask mid acts.after (IsShort result) made

pub record DoesWith {W E A B : Type 0} (Stands : W → Core → Log → Type 0) (Between : Core → Core → Type 0) (Owns : W → ℕ → Type 0) (Adds : W → List CallMade → W → Type 0) (one : Option ℕ) (ask : Ask) (call : Fate → Core → Gives E B)
    (is : WorldError → E → Type 0) (holds : A → B → Core → Type 0) (result : Result A WorldError) (core : Core) (log : Log) (old new : W) : Type 0 where
  pub mid : Core
  pub passed : Between core mid
  pub owned : (number : ℕ) → Owns old number → IsUnusedIn core number → IsUnusedIn mid number
  pub acts : ActsWith Stands one call is holds result mid log new
  pub made : List CallMade
  pub own : Adds old made new
  pub once : IsRecorded ask mid acts.after (IsShort result) made

-- what stands behind a gate: a store that is an index, with this core
pub record IsSoundCore (core : Core) (log : Log) : Type 0 where
  pub kept : State
  pub world : IsWorld kept core log
  pub timely : IsTimely core
  pub opened : 0 < length core.history

-- no other actor came between
abbrev pub NoneBetween : Core → Core → Type 0
NoneBetween core mid = mid ≡ core

-- ---- what each call is, and what holds of its answer

pub record AreMarks (marks : Marks) (core : Core) : Type 0 where
  pub checkpoints : marks.checkpoints.items ≡ checkpoints_of (history core.history)
  pub opstamp : marks.opstamp ≡ last_opstamp (history core.history)
  pub revision : marks.revision ≡ length core.history

abbrev pub IsMoment : ℕ → Core → Type 0
IsMoment moment core = moment ≡ core.moment

-- the Stage of a state: the number behind the greatest
abbrev pub stage_act : List Part → RowFacts → Core → Act
stage_act delta facts core = Stage (last_number (history core.history) + 1) delta facts

abbrev pub stage_call : List Part → RowFacts → Fate → Core → Gives Unmade ⊤
stage_call delta facts fate core = appended fate (stage_act delta facts) core

-- a staged number in hand, and what it was staged with
pub record IsStagedIn (delta : List Part) (facts : RowFacts) (core : Core) (number : ℕ) : Type 0 where
  pub unused : IsUnusedIn core number
  pub staged : HasStagedIn core number delta facts

-- the number is above each that was staged before
pub record WasStaged (before : Core) (delta : List Part) (facts : RowFacts) (staged : Staged) (core : Core) : Type 0 where
  pub number : staged.number ≡ last_number (history core.history)
  pub apart : (n : ℕ) → has_staged (journal_of before) n ≡ true → n < staged.number
  pub opstamp : staged.opstamp ≡ last_opstamp (history core.history)
  pub in_hand : IsStagedIn delta facts core staged.number

pub record WasUploaded (number : ℕ) (bytes : List ℕ) (given : Uploaded) (core : Core) : Type 0 where
  pub same : given.number ≡ number
  pub in_hand : IsUploadedIn core number bytes

abbrev pub publish_call : ℕ → Fate → Core → Gives Unmade ⊤
publish_call number fate core = appended fate (λ c. Publish number) core

-- an uploaded number in hand, whose file was made from the log under the index's configuration
pub record IsPublishable (log : Log) (core : Core) (number : ℕ) : Type 0 where
  pub config : IndexConfig
  pub configured : IsConfigured config core
  pub delta : List Part
  pub facts : RowFacts
  pub bytes : List ℕ
  pub staged : HasStagedIn core number delta facts
  pub made : IsMade config log delta facts bytes
  pub uploaded : IsUploadedIn core number bytes

-- a plan's rows are fetched as long as no file that was marked behind it may be gone
abbrev pub grace_of : IndexConfig → Plan → Grace
grace_of config plan = record { planned_at = plan.moment; until = plan.moment + config.deletion_grace }

abbrev pub IsRevision : ℕ → Core → Type 0
IsRevision revision core = revision ≡ length core.history

-- the rows of these numbers are replaced by one, applied up to a task
abbrev pub replace_call : ℕ → List ℕ → (upto : ℕ) → Fate → Core → Gives Unmade ⊤
replace_call new old upto fate core = appended fate (λ c. Replace new old upto) core

-- a row is applied up to a task
abbrev pub raise_call : ℕ → (upto : ℕ) → Fate → Core → Gives Unmade ⊤
raise_call number upto fate core = appended fate (λ c. Raise number upto) core

-- the Task of a state: the opstamp behind the last
abbrev pub task_act : DeleteAsk → Core → Act
task_act ask core = Task (last_opstamp (history core.history) + 1) ask.text ask.fields ask.times

-- its texts are UTF-8, as the journal spells them
pub record CanAddTask (ask : DeleteAsk) : Type 0 where
  pub text : IsText ask.text
  pub fields : AreAll IsText ask.fields

abbrev pub task_call : DeleteAsk → Fate → Core → Gives Unmade ⊤
task_call ask fate core = appended fate (task_act ask) core

-- the opstamp of the task, and how many entries were taken in with it
pub record IsReceipt (receipt : Receipt) (core : Core) : Type 0 where
  pub opstamp : receipt.opstamp ≡ last_opstamp (history core.history)
  pub revision : receipt.revision ≡ length core.history

pub record IsPlan (choice : Choice) (plan : Plan) (core : Core) : Type 0 where
  pub revision : plan.revision ≡ length core.history
  pub moment : plan.moment ≡ core.moment
  pub upto : plan.upto ≡ last_opstamp (history core.history)
  pub rows : plan.rows ≡ map (planned_as choice) (rows_for (config_of reads (history core.history)) choice core.moment (last_opstamp (history core.history)) (rows (history core.history)))
  -- those that were added up to here
  pub tasks : plan.tasks ≡ plan_tasks choice plan.upto plan.rows (ledger reads (history core.history)).tasks

-- these are the tasks of the history up to an opstamp
abbrev pub AreTasksUpto : (upto : ℕ) → List DeleteTask → Core → Type 0
AreTasksUpto upto tasks core = tasks ≡ tasks_upto upto (ledger reads (history core.history)).tasks

-- A call of a gate for tasks came to its turn behind what other actors did, `Between`, which left unused what the caller owns. There it changed
-- nothing: the gate stands for the core that it found, whose tasks it gave, and no call is recorded.
pub record Looked {W : Type 0} (Stands : W → Core → Log → Type 0) (Between : Core → Core → Type 0) (Owns : W → ℕ → Type 0) (Adds : W → List CallMade → W → Type 0) (upto : ℕ)
    (result : Result (List DeleteTask) AllocError) (core : Core) (log : Log) (old new : W) : Type 0 where
  pub mid : Core
  pub passed : Between core mid
  pub owned : (number : ℕ) → Owns old number → IsUnusedIn core number → IsUnusedIn mid number
  pub stands : Stands new mid log
  pub own : Adds old [] new
  pub tasks : IfOk result (λ tasks. AreTasksUpto upto tasks mid)

-- these are so many bytes of the number's file from a place on, and its size
abbrev pub IsPieceGiven : (number from len : ℕ) → Piece → Core → Type 0
IsPieceGiven number from len piece core = (bytes : List ℕ) × (file_at core.files (split_key number) ≡ Some bytes) × IsPieceOf bytes from len piece

-- a fetch meets no file, or what any call may
abbrev pub IsUnfetched : WorldError → Unfetched → Type 0
IsUnfetched error (absent key) = error ≡ errors.Missing key
IsUnfetched error (hindered trouble) = IsTrouble error trouble

-- a count of fetched bytes stands still at its type's end
abbrev pub last_bytes : ℕ
last_bytes = 2 ^ 128 - 1

-- how many bytes were fetched, behind a fetch: those that it gave are added
abbrev pub fetched_more : Result Piece WorldError → ℕ → ℕ
fetched_more (Ok piece) count = min (count + length piece.bytes) last_bytes
fetched_more (Err error) count = count
