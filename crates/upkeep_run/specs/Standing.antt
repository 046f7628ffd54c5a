-- What a worker of the code stands for, and what its step says.
use Rattle.std.specs.Prelude.{◌≡◌, ℕ, ◌+◌, ◌≤◌, true, List, [], ◌∷◌, length, map, take, drop, decimal, codes, Option, Some, None, Result, Ok, Err, ⊤}
use Rattle.std.specs.declared.alloc.AllocError.{AllocError}
use Rattle.meta_store.specs.History.{history}
use Rattle.meta_store.specs.Ledgers.{ledger}
use Rattle.meta_store.specs.Planning.{worked_row}
use Rattle.source_log.specs.Log.{Log}
use Rattle.index_world.specs.Calls.{Fault, faulted}
use Rattle.index_world.specs.CallsMade.{CallMade, IsRecorded, of_raise, of_stage}
use Rattle.index_world.specs.Config.{reads}
use Rattle.index_world.specs.Core.{Core, IsUnusedIn, journal_of}
use Rattle.index_world.specs.Gate.{Does, IsRevision, IsTrouble, IsUnmade, WasStaged, raise_call, stage_call}
use Rattle.index_world.specs.Index.{has_staged}
use Rattle.index_world.specs.PlanTasks.{plan_tasks}
use Rattle.index_world.specs.Replacing.{joined, left_in, numbers_of}
use Rattle.index_world.specs.Saying.{error_words, refusal_words}
use Rattle.index_world.specs.SplitFile.{file_of}
use Rattle.index_world.specs.World.{GoesOn}
use Rattle.index_world.specs.declared.tokens.Plan.{Plan}
use Rattle.index_world.specs.declared.tokens.Staged.{Staged}
use Rattle.index_world.specs.declared.world_error.WorldError.{WorldError}
use Rattle.split_build.specs.declared.builder.BuiltSplit.{BuiltSplit}
use Rattle.split_bundle.specs.declared.placed.Placed.{Placed}
use Rattle.split_merge.specs.Keeping.{kept}
use Rattle.split_merge.specs.Keeping.{joined as all_of}
use Rattle.upkeep_run.specs.Asking.{ask_of}
use Rattle.upkeep_run.specs.Ending.{Told, facts_said, raised_said, unstaged_said, upto_of}
use Rattle.upkeep_run.specs.Judging.{AreSplits}
use Rattle.upkeep_run.specs.Outcomes.{UpkeepOutcome, Faulted}
use Rattle.upkeep_run.specs.Outcomes as outcomes
use Rattle.upkeep_run.specs.Places.{WorkerHeld, IsStagedHeld, IsPlannedFor, IsUploadedHeld, IsWork, WorkerPlace, Work, fetching, held_file, idle, marks_of, number_held, staged, uploaded}
use Rattle.upkeep_run.specs.Steps.{WorkerLuck, choice_of, step_worker}
use Rattle.upkeep_run.specs.declared.work.Aim.{Aim}
use Rattle.upkeep_run.specs.declared.outcome.UpkeepOutcome.{UpkeepOutcome as Said}
use Rattle.upkeep_run.specs.declared.outcome.UpkeepOutcome.TheVariants as said
use Rattle.upkeep_run.specs.declared.work.WorkerPlace.{WorkerPlace as HeldPlace}
use Rattle.upkeep_run.specs.declared.work.WorkerPlace.TheVariants as places
use Rattle.upkeep_run.specs.declared.work.Work.{Work as HeldWork}

-- ---- outcomes

-- an outcome of the code is this outcome
abbrev pub IsSaid : Said → UpkeepOutcome → Type 0
IsSaid said.Nothing outcome = outcome ≡ outcomes.Nothing
IsSaid (said.Planned count) outcome = outcome ≡ outcomes.Planned count
IsSaid (said.Fetched number) outcome = outcome ≡ outcomes.Fetched number
IsSaid (said.Staged number) outcome = outcome ≡ outcomes.Staged number
IsSaid (said.Uploaded number) outcome = outcome ≡ outcomes.Uploaded number
IsSaid (said.Replaced number) outcome = outcome ≡ outcomes.Replaced number
IsSaid (said.Raised number) outcome = outcome ≡ outcomes.Raised number
IsSaid (said.Lost number refusal) outcome = outcome ≡ outcomes.Lost number refusal
IsSaid (said.Refused refusal) outcome = outcome ≡ outcomes.Refused refusal
IsSaid (said.Fault error) outcome = (fault : Fault) × (outcome ≡ Faulted fault) × IsTrouble error (faulted fault)

-- the words of an outcome of the code
abbrev pub said_words : Said → List (List ℕ)
said_words said.Nothing = codes "nothing" ∷ []
said_words (said.Planned count) = codes "planned" ∷ decimal count ∷ []
said_words (said.Fetched number) = codes "fetched" ∷ decimal number ∷ []
said_words (said.Staged number) = codes "staged" ∷ decimal number ∷ []
said_words (said.Uploaded number) = codes "uploaded" ∷ decimal number ∷ []
said_words (said.Replaced number) = codes "replaced" ∷ decimal number ∷ []
said_words (said.Raised number) = codes "raised" ∷ decimal number ∷ []
said_words (said.Lost number refusal) = codes "lost" ∷ decimal number ∷ refusal_words refusal
said_words (said.Refused refusal) = codes "refused" ∷ refusal_words refusal
said_words (said.Fault error) = error_words error

-- an outcome was given, or there was no memory for it
abbrev pub Answers : Result Said AllocError → Option UpkeepOutcome → Type 0
Answers (Ok given) (Some outcome) = IsSaid given outcome
Answers (Ok given) None = ⊥
Answers (Err refused) (Some outcome) = ⊥
Answers (Err refused) None = ⊤

-- ---- what a worker holds

-- the plan's rows are these, with the tasks that it takes along, and of the first of them the files were fetched
pub record WorkStands (held : HeldWork) (work : Work) : Type 0 where
  pub rows : held.plan.rows ≡ map worked_row work.rows
  pub moment : held.plan.moment ≡ work.moment
  pub upto : held.plan.upto ≡ work.upto
  pub tasks : held.plan.tasks ≡ plan_tasks (choice_of work.aim) held.plan.upto held.plan.rows work.tasks
  pub within : held.next ≤ length work.rows
  pub files : held.files ≡ map (file_of work.config) (take held.next work.contents)
  pub unfetched : work.unfetched ≡ drop held.next work.rows

-- a replacement of the plan's rows
pub record PlanHolds (aim : Aim) (plan : Plan) (held : WorkerHeld) : Type 0 where
  pub old : numbers_of plan.rows ≡ held.old
  pub upto : upto_of aim plan ≡ held.upto

-- what is held is what the place says, made of planned rows and in hand
abbrev pub PlaceStands : Aim → Log → Core → HeldPlace → WorkerPlace → Type 0
PlaceStands aim log core places.Idle place = place ≡ idle
PlaceStands aim log core (places.Fetching held) place = (work : Work) × (place ≡ fetching work) × WorkStands held work × IsWork log core work × IsPlannedFor aim work
PlaceStands aim log core (places.Staged plan token bytes) place =
    (held : WorkerHeld) × (place ≡ staged held) × PlanHolds aim plan held × (token.number ≡ held.number) × (bytes ≡ held_file held) × IsStagedHeld log core held
PlaceStands aim log core (places.Uploaded plan token) place =
    (held : WorkerHeld) × (place ≡ uploaded held) × PlanHolds aim plan held × (token.number ≡ held.number) × IsUploadedHeld log core held

-- a staged number that it holds is its own at the gate
abbrev pub HoldsOwn : {W : Type 0} → (W → ℕ → Type 0) → W → HeldPlace → Type 0
HoldsOwn Owns gate places.Idle = Unit {0}
HoldsOwn Owns gate (places.Fetching work) = Unit {0}
HoldsOwn Owns gate (places.Staged plan token bytes) = Owns gate token.number
HoldsOwn Owns gate (places.Uploaded plan token) = Unit {0}

-- it holds no staged number whose file is still to be made
abbrev pub HoldsNone : HeldPlace → Type 0
HoldsNone places.Idle = Unit {0}
HoldsNone (places.Fetching work) = Unit {0}
HoldsNone (places.Staged plan token bytes) = ⊥
HoldsNone (places.Uploaded plan token) = Unit {0}

-- ---- a step

-- A step is the machine's with some luck, behind what other actors did before its call of the world, which left unused what the caller
-- owns. The gate recorded the call as its own.
pub record StepsAs {W : Type 0} (Stands : W → Core → Log → Type 0) (Between : Core → Core → Type 0) (Owns : W → ℕ → Type 0) (Adds : W → List CallMade → W → Type 0)
    (aim : Aim) (result : Result Said AllocError) (place : WorkerPlace) (core : Core) (log : Log) (kept : HeldPlace) (old new : W) : Type 0 where
  pub mid : Core
  pub passed : Between core mid
  pub owned : (number : ℕ) → Owns old number → IsUnusedIn core number → IsUnusedIn mid number
  pub luck : WorkerLuck
  pub outcome : Option UpkeepOutcome
  pub after : WorkerPlace
  pub behind : Core
  pub did : step_worker aim luck log place mid ≡ record { outcome = outcome; place = after; core = behind }
  pub answer : Answers result outcome
  pub stands : PlaceStands aim log behind kept after
  pub gate : Stands new behind log
  pub goes_on : GoesOn (number_held place) mid behind
  pub made : List CallMade
  pub own : Adds old made new
  -- the call of its place once, as what it left, or none, where it found no memory
  pub asked : IsRecorded (ask_of aim place mid) mid behind (outcome ≡ None) made
  -- a number that it holds from now on was not staged before, or is the one that it held
  pub apart : (n : ℕ) → has_staged (journal_of core) n ≡ true → number_held after ≡ Some n → number_held place ≡ Some n

-- ---- what tasks drop

-- Places of planned rows' documents, one list behind the other: whatever documents their files stand for, those that are kept are what
-- tasks up to the plan's last one leave, and so many fewer.
pub record LeavesOf (core : Core) (work : Work) (places : List ℕ) : Type 0 where
  pub left : (lists : List (List Placed)) → AreSplits work.config.schema (map (file_of work.config) work.contents) lists →
      kept places (all_of lists) ≡ left_in work.config (ledger reads (history core.history)).tasks work.upto (joined (map marks_of work.rows)) (joined lists)
  pub count : (lists : List (List Placed)) → AreSplits work.config.schema (map (file_of work.config) work.contents) lists → length (kept places (all_of lists)) + length places ≡ length (joined lists)

-- a row was raised, or not
pub record Raises {W : Type 0} (Stands : W → Core → Log → Type 0) (Between : Core → Core → Type 0) (Owns : W → ℕ → Type 0) (Adds : W → List CallMade → W → Type 0)
    (number upto : ℕ) (result : Told) (core : Core) (log : Log) (old new : W) : Type 0 where
  pub answer : Result ℕ WorldError
  pub does : Does Stands Between Owns Adds None (of_raise number upto) (raise_call number upto) IsUnmade IsRevision answer core log old new
  pub tells : result ≡ raised_said number answer

-- ---- a split is staged

-- what a call answered is told, and what was made of a plan's rows is held where it was staged
abbrev pub StagedTold : Plan → BuiltSplit → Result Staged WorldError → Told → HeldPlace → Type 0
StagedTold plan split (Ok token) result kept = (result ≡ Ok (said.Staged token.number)) × (kept ≡ places.Staged plan token split.bytes)
StagedTold plan split (Err error) result kept = (result ≡ unstaged_said error) × (kept ≡ places.Idle)

-- A split of a plan's rows, without parts of a log, was staged with its facts, or not.
pub record Stages {W : Type 0} (Stands : W → Core → Log → Type 0) (Between : Core → Core → Type 0) (Owns : W → ℕ → Type 0) (Adds : W → List CallMade → W → Type 0)
    (plan : Plan) (split : BuiltSplit) (result : Told) (core : Core) (log : Log) (kept : HeldPlace) (old new : W) : Type 0 where
  pub answer : Result Staged WorldError
  pub does : Does Stands Between Owns Adds None (of_stage [] (facts_said plan.rows split)) (stage_call [] (facts_said plan.rows split)) IsUnmade (WasStaged core [] (facts_said plan.rows split)) answer core log old new
  pub tells : StagedTold plan split answer result kept
