-- How a step ends, whatever its log and its gate tell: what its calls answered is told as itself.
use Rattle.std.specs.Prelude.{◌≡◌, ◌⊎◌, ℕ, ◌+◌, min, List, [], Option, Some, None, Result, Ok, Err, MatchBool}
use Rattle.std.specs.declared.alloc.AllocError.{AllocError}
use Rattle.byte_fields.specs.Causes.{Rose, last_count}
use Rattle.index_config.specs.declared.config.IndexConfig.{IndexConfig}
use Rattle.meta_journal.specs.Places.{split_key}
use Rattle.meta_store.specs.declared.refusal.Refusal.{Refusal}
use Rattle.meta_store.specs.declared.refusal.Refusal.TheVariants.{Delta}
use Rattle.object_store.specs.Store.{State, WhereTold}
use Rattle.source_checkpoint.specs.declared.delta.StaleDelta.TheVariants as deltas
use Rattle.source_log.specs.Log.{Log, names_of}
use Rattle.index_world.specs.Answering.{Answered, marks_answered, moment_answered, stage_answered, upload_answered, publish_answered}
use Rattle.index_world.specs.Asked.{Behind, IsUpload, UploadsFile}
use Rattle.index_world.specs.declared.tokens.Marks.{Marks}
use Rattle.index_world.specs.declared.tokens.Staged.{Staged}
use Rattle.index_world.specs.declared.tokens.Uploaded.{Uploaded}
use Rattle.index_world.specs.declared.world_error.WorldError.{WorldError}
use Rattle.index_world.specs.declared.world_error.WorldError.TheVariants as errors
use Rattle.split_states.specs.declared.facts.RowFacts.{RowFacts}
use Rattle.indexing_run.specs.declared.batch.Batch.{Batch as HeldBatch}
use Rattle.indexing_run.specs.declared.indexer.Indexer.{Indexer as Reader}
use Rattle.indexing_run.specs.declared.indexer.IndexerPlace.{IndexerPlace as HeldPlace}
use Rattle.indexing_run.specs.declared.indexer.IndexerPlace.TheVariants as places
use Rattle.indexing_run.specs.declared.outcome.IndexerOutcome.{IndexerOutcome as Said}
use Rattle.indexing_run.specs.declared.outcome.IndexerOutcome.TheVariants as said
use Rattle.split_bundle.specs.declared.placed.Placed.{Placed}
use Rattle.split_form.specs.Form.{file_of}
use Rattle.indexing_run.specs.Gathering.{HasDocuments}
use Rattle.indexing_run.specs.Standing.{BatchStands, left_of}
use Rattle.indexing_run.specs.Steps.{fresh_batch, marks_at}

-- ---- where a call of the gate gave nothing

-- its error is told as it is; want of memory is the step's own answer
abbrev pub fault_said : WorldError → Result Said AllocError
fault_said (errors.Memory refused) = Err refused
fault_said error = Ok (said.Fault error)

abbrev pub unstaged_said : WorldError → Result Said AllocError
unstaged_said (errors.Refused refusal) = Ok (said.Refused refusal)
unstaged_said error = fault_said error

-- a refused Publish: the delta's own stale part, or else the row is lost
abbrev pub refused_said : ℕ → Refusal → Said
refused_said number (Delta (deltas.Stale partition current from)) = said.Stale partition current from
refused_said number refusal = said.Lost number refusal

abbrev pub unpublished_said : ℕ → WorldError → Result Said AllocError
unpublished_said number (errors.Refused refusal) = Ok (refused_said number refusal)
unpublished_said number error = fault_said error

-- ---- an outcome and where the indexer is behind it, by what the gate answered

-- an idle one begins a batch behind the checkpoints
abbrev pub TellsMarks : (names : List (List ℕ)) → IndexConfig → Result Marks WorldError → Said → HeldPlace → Type 0
TellsMarks names config (Ok marks) outcome place =
    (outcome ≡ said.Checkpoint) × ((batch : HeldBatch) × (place ≡ places.Reading batch) × BatchStands batch (fresh_batch config (marks_at marks.checkpoints.items names)))
TellsMarks names config (Err error) outcome place = (fault_said error ≡ Ok outcome) × (place ≡ places.Idle)

-- a batch becomes a staged number and the file of its documents
abbrev pub TellsStaged : HeldBatch → Result Staged WorldError → Said → HeldPlace → Type 0
TellsStaged batch (Ok staged) outcome place =
    (outcome ≡ said.Staged staged.number)
    × ((bytes : List ℕ) × (place ≡ places.Staged staged bytes) × ((documents : List Placed) → HasDocuments batch.documents documents → bytes ≡ file_of batch.documents.mapping.schema documents))
TellsStaged batch (Err error) outcome place = (unstaged_said error ≡ Ok outcome) × (place ≡ places.Idle)

abbrev pub TellsUploaded : Result Uploaded WorldError → Said → HeldPlace → Type 0
TellsUploaded (Ok uploaded) outcome place = (outcome ≡ said.Uploaded uploaded.number) × (place ≡ places.Uploaded uploaded)
TellsUploaded (Err error) outcome place = (fault_said error ≡ Ok outcome) × (place ≡ places.Idle)

abbrev pub published_said : ℕ → Result ℕ WorldError → Result Said AllocError
published_said number (Ok revision) = Ok (said.Published number)
published_said number (Err error) = unpublished_said number error

-- ---- by where the step began, what its call of the gate `Gave`, and the counts of faults of its log before and now

-- what is assigned, or what a log that tells has
abbrev pub AreNames : Option (List (List ℕ)) → Option Log → List (List ℕ) → Type 0
AreNames (Some assigned) told names = names ≡ assigned
AreNames None told names = (log : Log) → told ≡ Some log → names ≡ names_of log

-- The log gave no names, or the gate was asked for the checkpoints, which it answered so.
abbrev pub EndsIdle : (Answered → Type 0) → (before now : ℕ) → Option Log → Option (List (List ℕ)) → IndexConfig → Said → HeldPlace → Type 0
EndsIdle Gave before now told assignment config outcome place =
    (Rose before now × (assignment ≡ None) × (outcome ≡ said.SourceFault before now) × (place ≡ places.Idle))
    ⊎ ((names : List (List ℕ)) × AreNames assignment told names × ((answer : Result Marks WorldError) × Gave (marks_answered answer) × TellsMarks names config answer outcome place))

-- The gate gave a moment. Nothing is left to be read; the log failed, and the batch stays; or so many records were taken.
abbrev pub EndsReading : (before now : ℕ) → HeldBatch → Said → HeldPlace → Type 0
EndsReading before now batch outcome place =
    ((left_of batch.queue ≡ []) × (outcome ≡ said.CaughtUp) × (place ≡ places.Idle))
    ⊎ (Rose before now × (outcome ≡ said.SourceFault before now) × (place ≡ places.Reading batch))
    ⊎ ((count : ℕ) × (later : HeldBatch) × (outcome ≡ said.Read count) × (place ≡ places.Reading later)
    × (later.count ≡ min (batch.count + count) last_count) × (later.documents.mapping ≡ batch.documents.mapping))

-- The gate was asked for the moment, which it gave or not.
abbrev pub EndsOpen : (Answered → Type 0) → (before now : ℕ) → HeldBatch → Said → HeldPlace → Type 0
EndsOpen Gave before now batch outcome place =
    ((error : WorldError) × Gave (moment_answered (Err error)) × (fault_said error ≡ Ok outcome) × (place ≡ places.Idle))
    ⊎ ((reached : ℕ) × Gave (moment_answered (Ok reached)) × EndsReading before now batch outcome place)

-- A closed batch without a record is dropped, any other is staged with its parts.
abbrev pub EndsClosed : (Answered → Type 0) → HeldBatch → Said → HeldPlace → Type 0
EndsClosed Gave batch outcome place =
    ((batch.count ≡ 0) × (outcome ≡ said.CaughtUp) × (place ≡ places.Idle))
    ⊎ ((batch.count ≡ 0 → ⊥) × ((facts : RowFacts) × (answer : Result Staged WorldError) × Gave (stage_answered batch.parts.items facts answer) × TellsStaged batch answer outcome place))

-- The gate was asked to make the file, which it did or did not where its store tells.
abbrev pub EndsUpload : (Answered → Type 0) → (number : ℕ) (bytes : List ℕ) (old new : Option State) → Said → HeldPlace → Type 0
EndsUpload Gave number bytes old new outcome place =
    (answer : Result Uploaded WorldError) × IsUpload (split_key number) number answer × WhereTold old new (Behind (UploadsFile (split_key number) bytes answer))
    × Gave (upload_answered number bytes answer) × TellsUploaded answer outcome place

abbrev pub EndsPublish : (Answered → Type 0) → (number : ℕ) → Said → HeldPlace → Type 0
EndsPublish Gave number outcome place = (answer : Result ℕ WorldError) × Gave (publish_answered number answer) × (published_said number answer ≡ Ok outcome) × (place ≡ places.Idle)

-- ---- a step

-- without memory the indexer is idle
abbrev pub Ends : (Said → HeldPlace → Type 0) → Result Said AllocError → HeldPlace → Type 0
Ends Says (Ok outcome) place = Says outcome place
Ends Says (Err refused) place = place ≡ places.Idle

abbrev pub EndsBatch : (Answered → Type 0) → (before now : ℕ) → HeldBatch → Said → HeldPlace → Type 0
EndsBatch Gave before now batch outcome place = MatchBool batch.closed (EndsClosed Gave batch outcome place) (EndsOpen Gave before now batch outcome place)

abbrev pub EndsFrom : HeldPlace → (Answered → Type 0) → (before now : ℕ) → Option Log → Option (List (List ℕ)) → IndexConfig → (old new : Option State) → Said → HeldPlace → Type 0
EndsFrom places.Idle Gave before now told assignment config old new = EndsIdle Gave before now told assignment config
EndsFrom (places.Reading batch) Gave before now told assignment config old new = EndsBatch Gave before now batch
EndsFrom (places.Staged staged bytes) Gave before now told assignment config old new = EndsUpload Gave staged.number bytes old new
EndsFrom (places.Uploaded uploaded) Gave before now told assignment config old new = EndsPublish Gave uploaded.number

-- A step of a reader of a log through a gate ended so: by an answer that its call of the gate gave. What it reads stays assigned.
pub record EndsStep {L W : Type 0} (tells : L → Option Log) (count : L → ℕ) (told : W → Option State) (configured : W → IndexConfig) (Answers : W → Answered → W → Type 0)
    (before : Reader L) (result : Result Said AllocError) (reader : Reader L) (old new : W) : Type 0 where
  pub assignment : reader.assignment ≡ before.assignment
  pub ends : Ends (EndsFrom before.place (λ call. Answers old call new) (count before.log) (count reader.log) (tells before.log) before.assignment (configured new) (told old) (told new)) result reader.place
