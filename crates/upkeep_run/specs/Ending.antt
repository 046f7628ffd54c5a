-- How a step ends, whatever its gate tells: what its call answered is told as itself.
use Rattle.std.specs.Prelude.{◌≡◌, ◌⊎◌, ℕ, ◌+◌, ◌-◌, ◌^◌, min, Bool, true, false, List, [], ◌∷◌, ◌++◌, length, sum_by, Option, Some, None, Result, Ok, Err, slice_get}
use Rattle.std.specs.declared.alloc.AllocError.{AllocError}
use Rattle.doc_sets.specs.declared.leaf_error.LeafError.{LeafError}
use Rattle.doc_sets.specs.declared.leaf_error.LeafError.TheVariants as leaf
use Rattle.index_config.specs.declared.config.IndexConfig.{IndexConfig}
use Rattle.meta_journal.specs.Places.{split_key}
use Rattle.meta_store.specs.declared.planning.PlanRow.{PlanRow}
use Rattle.meta_store.specs.declared.planning.RowWork.{RowWork}
use Rattle.object_store.specs.Store.{State, WhereTold}
use Rattle.object_store.specs.declared.store.Piece.{Piece}
use Rattle.split_build.specs.declared.builder.BuiltSplit.{BuiltSplit}
use Rattle.split_merge.specs.declared.merge_error.MergeError.{MergeError}
use Rattle.split_merge.specs.declared.merge_error.MergeError.TheVariants.{Build, Memory, Split}
use Rattle.split_states.specs.declared.facts.RowFacts.{RowFacts}
use Rattle.index_world.specs.Answering.{Answered, fetch_answered, plan_answered, raise_answered, replace_answered, stage_answered, upload_answered}
use Rattle.index_world.specs.Asked.{Behind, FetchesFile, IsFetch, IsUpload, UploadsFile}
use Rattle.index_world.specs.Replacing.{numbers_of}
use Rattle.index_world.specs.SplitFile.{most}
use Rattle.index_world.specs.PlanTasks.{spans_of}
use Rattle.index_world.specs.declared.tokens.Plan.{Plan}
use Rattle.index_world.specs.declared.tokens.Staged.{Staged}
use Rattle.index_world.specs.declared.tokens.Uploaded.{Uploaded}
use Rattle.index_world.specs.declared.world_error.WorldError.{WorldError}
use Rattle.index_world.specs.declared.world_error.WorldError.TheVariants as errors
use Rattle.upkeep_run.specs.Asking.{whole}
use Rattle.upkeep_run.specs.Dropping.{DropsOf, IsUnasked}
use Rattle.upkeep_run.specs.Judging.{IsJudged, MergesFiles}
use Rattle.upkeep_run.specs.Steps.{choice_of}
use Rattle.upkeep_run.specs.declared.work.Aim.{Aim}
use Rattle.upkeep_run.specs.declared.work.Aim.TheVariants.{Deleting, Merging}
use Rattle.upkeep_run.specs.declared.outcome.UpkeepOutcome.{UpkeepOutcome as Said}
use Rattle.upkeep_run.specs.declared.outcome.UpkeepOutcome.TheVariants as said
use Rattle.upkeep_run.specs.declared.work.WorkerPlace.{WorkerPlace as HeldPlace}
use Rattle.upkeep_run.specs.declared.work.WorkerPlace.TheVariants as places
use Rattle.upkeep_run.specs.declared.work.Work.{Work as HeldWork}

-- what a step of the code gives
abbrev pub Told : Type 0
Told = Result Said AllocError

-- ---- where a call gave nothing

-- its error is told as it is; want of memory is the step's own answer
abbrev pub fault_said : WorldError → Told
fault_said (errors.Memory refused) = Err refused
fault_said error = Ok (said.Fault error)

-- a Stage is refused where a limit stands
abbrev pub unstaged_said : WorldError → Told
unstaged_said (errors.Refused refusal) = Ok (said.Refused refusal)
unstaged_said error = fault_said error

-- a Replace or a Raise that is refused is lost, with this number
abbrev pub lost_said : ℕ → WorldError → Told
lost_said number (errors.Refused refusal) = Ok (said.Lost number refusal)
lost_said number error = fault_said error

-- the file of a number is not what its row says
abbrev pub corrupt_said : ℕ → Told
corrupt_said number = Ok (said.Fault (errors.Corrupt (split_key number)))

abbrev pub number_in : Option PlanRow → ℕ
number_in None = 0
number_in (Some row) = row.number

-- the number of the row at a place of a plan
abbrev pub number_at : List PlanRow → (place : ℕ) → ℕ
number_at rows place = number_in (slice_get rows place)

-- A file that is no split is told by its row. Where the documents of all together are no split, the first row is told.
abbrev pub unmerged_said : List PlanRow → MergeError → Told
unmerged_said rows (Memory refused) = Err refused
unmerged_said rows (Split place e) = corrupt_said (number_at rows place)
unmerged_said rows (Build e) = corrupt_said (number_at rows 0)

-- ---- an outcome and where the worker is behind it, by what the gate answered

-- a plan without rows is nothing to do
abbrev pub plan_said : List PlanRow → Said
plan_said [] = said.Nothing
plan_said (row ∷ rows) = said.Planned (length (row ∷ rows))

abbrev pub plan_place : List PlanRow → Plan → HeldPlace
plan_place [] plan = places.Idle
plan_place (row ∷ rows) plan = places.Fetching (record { plan = plan; next = 0; files = [] })

abbrev pub TellsPlan : Result Plan WorldError → Said → HeldPlace → Type 0
TellsPlan (Ok plan) outcome place = (outcome ≡ plan_said plan.rows) × (place ≡ plan_place plan.rows plan)
TellsPlan (Err error) outcome place = (fault_said error ≡ Ok outcome) × (place ≡ places.Idle)

-- one file more was fetched; a count of them stands still at its type's end
abbrev pub with_file : List ℕ → HeldWork → HeldWork
with_file bytes work = record { plan = work.plan; next = min (work.next + 1) (2 ^ 32 - 1); files = work.files ++ bytes ∷ [] }

-- it is judged at once
abbrev pub TellsJudged : PlanRow → HeldWork → (bytes : List ℕ) → (taken : Bool) → Said → HeldPlace → Type 0
TellsJudged row work bytes true outcome place = (outcome ≡ said.Fetched row.number) × (place ≡ places.Fetching (with_file bytes work))
TellsJudged row work bytes false outcome place = (corrupt_said row.number ≡ Ok outcome) × (place ≡ places.Idle)

abbrev pub JudgesFile : PlanRow → HeldWork → (bytes : List ℕ) → Said → HeldPlace → Type 0
JudgesFile row work bytes outcome place = (taken : Bool) × IsJudged bytes row taken × TellsJudged row work bytes taken outcome place

abbrev pub TellsFetched : PlanRow → HeldWork → Result Piece WorldError → Said → HeldPlace → Type 0
TellsFetched row work (Ok piece) outcome place = JudgesFile row work piece.bytes outcome place
TellsFetched row work (Err error) outcome place = (fault_said error ≡ Ok outcome) × (place ≡ places.Idle)

-- the facts of a replacement: so many records of all ranges are no documents
abbrev pub rejected_by : Option RowWork → ℕ
rejected_by None = 0
rejected_by (Some work) = work.rejected

abbrev pub rejected_said : List PlanRow → ℕ
rejected_said rows = min (sum_by (λ row. rejected_by row.work) rows) most

abbrev pub facts_said : List PlanRow → BuiltSplit → RowFacts
facts_said rows built = record built.facts { rejected = rejected_said rows }

abbrev pub TellsStaged : Plan → BuiltSplit → Result Staged WorldError → Said → HeldPlace → Type 0
TellsStaged plan built (Ok token) outcome place = (outcome ≡ said.Staged token.number) × (place ≡ places.Staged plan token built.bytes)
TellsStaged plan built (Err error) outcome place = (unstaged_said error ≡ Ok outcome) × (place ≡ places.Idle)

abbrev pub TellsUploaded : Plan → Result Uploaded WorldError → Said → HeldPlace → Type 0
TellsUploaded plan (Ok token) outcome place = (outcome ≡ said.Uploaded token.number) × (place ≡ places.Uploaded plan token)
TellsUploaded plan (Err error) outcome place = (fault_said error ≡ Ok outcome) × (place ≡ places.Idle)

abbrev pub replaced_said : ℕ → Result ℕ WorldError → Told
replaced_said number (Ok revision) = Ok (said.Replaced number)
replaced_said number (Err error) = lost_said number error

-- ---- by where the step began, and what its call of the gate `Gave`

abbrev pub EndsPlan : Aim → (Answered → Type 0) → Said → HeldPlace → Type 0
EndsPlan aim Gave outcome place = (answer : Result Plan WorldError) × Gave (plan_answered (choice_of aim) answer) × TellsPlan answer outcome place

-- The gate was asked for the whole file of the row, which it gave or not.
abbrev pub EndsFetch : PlanRow → (Answered → Type 0) → HeldWork → (old new : Option State) → Said → HeldPlace → Type 0
EndsFetch row Gave work old new outcome place =
    (answer : Result Piece WorldError) × IsFetch (split_key row.number) work.plan.moment answer × WhereTold old new (Behind (FetchesFile (split_key row.number) 0 whole answer))
    × Gave (fetch_answered row.number work.plan.moment 0 whole answer) × TellsFetched row work answer outcome place

-- the gate was asked to stage a split, without parts of a log, with its facts
abbrev pub EndsStage : (Answered → Type 0) → Plan → BuiltSplit → Said → HeldPlace → Type 0
EndsStage Gave plan built outcome place = (answer : Result Staged WorldError) × Gave (stage_answered [] (facts_said plan.rows built) answer) × TellsStaged plan built answer outcome place

-- The files, without the documents at the places that are dropped, gave no split, and nothing was asked; or the gate was asked to stage
-- what they gave.
abbrev pub EndsLeft : (dropped : List ℕ) → (Answered → Type 0) → IndexConfig → HeldWork → Said → HeldPlace → Type 0
EndsLeft dropped Gave config work outcome place =
    ((error : MergeError) × MergesFiles config.schema dropped work.files (Err error) × (unmerged_said work.plan.rows error ≡ Ok outcome) × (place ≡ places.Idle))
    ⊎ ((built : BuiltSplit) × MergesFiles config.schema dropped work.files (Ok built) × EndsStage Gave work.plan built outcome place)

abbrev pub EndsMerge : (Answered → Type 0) → IndexConfig → HeldWork → Said → HeldPlace → Type 0
EndsMerge Gave config work = EndsLeft [] Gave config work

abbrev pub EndsAt : Option PlanRow → (Answered → Type 0) → IndexConfig → HeldWork → (old new : Option State) → Said → HeldPlace → Type 0
EndsAt None Gave config work old new = EndsMerge Gave config work
EndsAt (Some row) Gave config work old new = EndsFetch row Gave work old new

-- The gate was asked to make the file, which it did or did not where its store tells.
abbrev pub EndsUpload : (Answered → Type 0) → Plan → (number : ℕ) (bytes : List ℕ) (old new : Option State) → Said → HeldPlace → Type 0
EndsUpload Gave plan number bytes old new outcome place =
    (answer : Result Uploaded WorldError) × IsUpload (split_key number) number answer × WhereTold old new (Behind (UploadsFile (split_key number) bytes answer))
    × Gave (upload_answered number bytes answer) × TellsUploaded plan answer outcome place

-- up to which task a replacement of a plan's rows is applied
abbrev pub upto_of : Aim → Plan → ℕ
upto_of Merging plan = 0
upto_of Deleting plan = plan.upto

abbrev pub EndsReplace : (upto : ℕ) → (Answered → Type 0) → Plan → (number : ℕ) → Said → HeldPlace → Type 0
EndsReplace upto Gave plan number outcome place =
    (answer : Result ℕ WorldError) × Gave (replace_answered number (numbers_of plan.rows) upto answer) × (replaced_said number answer ≡ Ok outcome) × (place ≡ places.Idle)

-- ---- a step

-- without memory the worker is idle
abbrev pub Ends : (Said → HeldPlace → Type 0) → Told → HeldPlace → Type 0
Ends Says (Ok outcome) place = Says outcome place
Ends Says (Err refused) place = place ≡ places.Idle

-- of a merger
abbrev pub EndsFrom : HeldPlace → (Answered → Type 0) → IndexConfig → (old new : Option State) → Said → HeldPlace → Type 0
EndsFrom places.Idle Gave config old new = EndsPlan Merging Gave
EndsFrom (places.Fetching work) Gave config old new = EndsAt (slice_get work.plan.rows work.next) Gave config work old new
EndsFrom (places.Staged plan token bytes) Gave config old new = EndsUpload Gave plan token.number bytes old new
EndsFrom (places.Uploaded plan token) Gave config old new = EndsReplace 0 Gave plan token.number

-- ---- of a delete worker

abbrev pub raised_said : ℕ → Result ℕ WorldError → Told
raised_said number (Ok revision) = Ok (said.Raised number)
raised_said number (Err error) = lost_said number error

-- nothing is dropped: the gate was asked to apply the first row up to the plan's last task
abbrev pub EndsRaise : (Answered → Type 0) → Plan → (number : ℕ) → Said → HeldPlace → Type 0
EndsRaise Gave plan number outcome place =
    (answer : Result ℕ WorldError) × Gave (raise_answered number plan.upto answer) × (raised_said number answer ≡ Ok outcome) × (place ≡ places.Idle)

-- tasks that can't be asked of a file are told by its row
abbrev pub unasked_said : (number : ℕ) → LeafError → Told
unasked_said number (leaf.Memory refused) = Err refused
unasked_said number (leaf.Missing at) = corrupt_said number
unasked_said number (leaf.Corrupt section) = corrupt_said number

-- what these places are dropped of is raised or made anew
abbrev pub EndsDropped : (dropped : List ℕ) → PlanRow → (Answered → Type 0) → IndexConfig → HeldWork → Said → HeldPlace → Type 0
EndsDropped [] row Gave config work = EndsRaise Gave work.plan row.number
EndsDropped (place ∷ places) row Gave config work = EndsLeft (place ∷ places) Gave config work

-- The plan's tasks could not be asked of the row's file, and nothing was asked of the gate; or what they drop of it, by the row's spans up to
-- the plan's last task, is dropped.
abbrev pub EndsDrop : PlanRow → (bytes : List ℕ) → (Answered → Type 0) → IndexConfig → HeldWork → Said → HeldPlace → Type 0
EndsDrop row bytes Gave config work outcome place =
    ((error : LeafError) × IsUnasked config.schema work.plan.tasks bytes × (unasked_said row.number error ≡ Ok outcome) × (place ≡ places.Idle))
    ⊎ ((dropped : List ℕ) × DropsOf config.schema (spans_of row.work) work.plan.tasks work.plan.upto bytes dropped
    × EndsDropped dropped row Gave config work outcome place)

-- of the plan's first row; a plan without a row is nothing to do
abbrev pub EndsClose : Option PlanRow → Option (List ℕ) → (Answered → Type 0) → IndexConfig → HeldWork → Said → HeldPlace → Type 0
EndsClose None file Gave config work outcome place = (outcome ≡ said.Nothing) × (place ≡ places.Idle)
EndsClose (Some row) None Gave config work outcome place = (outcome ≡ said.Nothing) × (place ≡ places.Idle)
EndsClose (Some row) (Some bytes) Gave config work outcome place = EndsDrop row bytes Gave config work outcome place

abbrev pub EndsDeleteAt : Option PlanRow → (Answered → Type 0) → IndexConfig → HeldWork → (old new : Option State) → Said → HeldPlace → Type 0
EndsDeleteAt None Gave config work old new = EndsClose (slice_get work.plan.rows 0) (slice_get work.files 0) Gave config work
EndsDeleteAt (Some row) Gave config work old new = EndsFetch row Gave work old new

abbrev pub EndsDeleteFrom : HeldPlace → (Answered → Type 0) → IndexConfig → (old new : Option State) → Said → HeldPlace → Type 0
EndsDeleteFrom places.Idle Gave config old new = EndsPlan Deleting Gave
EndsDeleteFrom (places.Fetching work) Gave config old new = EndsDeleteAt (slice_get work.plan.rows work.next) Gave config work old new
EndsDeleteFrom (places.Staged plan token bytes) Gave config old new = EndsUpload Gave plan token.number bytes old new
EndsDeleteFrom (places.Uploaded plan token) Gave config old new = EndsReplace plan.upto Gave plan token.number

abbrev pub EndsDelete : {W : Type 0} → (told : W → Option State) → (configured : W → IndexConfig) → (Answers : W → Answered → W → Type 0) → (before : HeldPlace) → Told → (place : HeldPlace) → (old new : W) → Type 0
EndsDelete told configured Answers before result place old new =
    Ends (EndsDeleteFrom before (λ call. Answers old call new) (configured old) (told old) (told new)) result place

-- ---- a step of a merger

-- A step through a gate ended so: by an answer that its call gave.
abbrev pub EndsStep : {W : Type 0} → (told : W → Option State) → (configured : W → IndexConfig) → (Answers : W → Answered → W → Type 0) → (before : HeldPlace) → Told → (place : HeldPlace) → (old new : W) → Type 0
EndsStep told configured Answers before result place old new = Ends (EndsFrom before (λ call. Answers old call new) (configured old) (told old) (told new)) result place
