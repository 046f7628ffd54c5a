-- One step of an indexer, given the fate of its calls.
use Rattle.std.specs.Prelude.{ℕ, suc, ◌+◌, ◌-◌, ◌==◌, ◌&&◌, ◌||◌, Bool, true, false, List, [], ◌∷◌, ◌++◌, length, map, min, nat_lt, nat_le, if◌then◌else◌, take, drop, Option, Some, None, Result, Ok, Err, ⊤, bytes_eq}
use Rattle.split_bundle.specs.declared.placed.Placed.{Placed}
use Rattle.meta_store.specs.History.{history, last_number}
use Rattle.meta_store.specs.State.{checkpoints_of}
use Rattle.meta_store.specs.declared.refusal.Refusal.{Refusal}
use Rattle.meta_store.specs.declared.refusal.Refusal.TheVariants.{MomentBack, NotCreated, AlreadyCreated, BadConfig, NotNext, Delta, State, BadTask, UptoAhead, TooManyTasks, TooManyRows, TooManySpans}
use Rattle.source_checkpoint.specs.Checkpoints.{checkpoint_at}
use Rattle.source_checkpoint.specs.declared.delta.Part.{Part}
use Rattle.source_checkpoint.specs.declared.delta.StaleDelta.{StaleDelta}
use Rattle.source_checkpoint.specs.declared.ledger.Checkpoint.{Checkpoint}
use Rattle.source_log.specs.Log.{Log, records_of, names_of}
use Rattle.split_states.specs.declared.facts.RowFacts.{RowFacts}
use Rattle.doc_value.specs.declared.doc.DocField.{DocField}
use Rattle.source_checkpoint.specs.declared.delta.StaleDelta.TheVariants as deltas
use Rattle.index_config.specs.declared.config.IndexConfig.{IndexConfig}
use Rattle.index_world.specs.Accepted.{accepted}
use Rattle.index_world.specs.Calls.{Fate, Trouble, faulted, no_memory, Unmade, refused, troubled, Gives, risen, looked, asked, upload_made}
use Rattle.index_world.specs.Configuration.{configuration, config_or}
use Rattle.index_world.specs.Core.{Core, last_count, journal_of}
use Rattle.index_world.specs.Gate.{stage_call, publish_call}
use Rattle.index_world.specs.SplitFile.{file_of, facts_of}
use Rattle.split_bundle.specs.Documents.{weight, total_weight}
use Rattle.indexing_run.specs.Outcomes.{IndexerOutcome}
use Rattle.indexing_run.specs.Outcomes as said
use Rattle.indexing_run.specs.Places.{Batch, IndexerHeld, IndexerPlace, idle, reading, staged, uploaded, Indexer}

-- The fate of one call of a log: whether it fails, by how much its count rises, and whether there is no memory for the names
-- of an idle indexer's partitions, read or copied.
pub record LogCall : Type 0 where
  pub fails : Bool
  pub rises : ℕ
  pub short : Bool

-- the fate of one step: its call of a log, its call of the world, and whether it finds no memory behind them
pub record IndexerLuck : Type 0 where
  pub log : LogCall
  pub world : Fate
  pub short : Bool

-- What a step answers, and the indexer and the core behind it. Without memory there is no outcome.
pub record Stepped : Type 0 where
  pub outcome : Option IndexerOutcome
  pub indexer : Indexer
  pub core : Core

-- a step that ends with this outcome, the indexer at this place
abbrev pub stepped : Option IndexerOutcome → IndexerPlace → Indexer → Core → Stepped
stepped outcome place indexer core = record { outcome = outcome; indexer = record indexer { place = place }; core = core }

abbrev pub trouble_outcome : Trouble → Option IndexerOutcome
trouble_outcome (faulted fault) = Some (said.Faulted fault)
trouble_outcome no_memory = None

-- ---- idle: the partitions and their checkpoints

-- without an assignment the indexer has all partitions of its log
abbrev pub partitions_for : Option (List (List ℕ)) → Log → List (List ℕ)
partitions_for None log = names_of log
partitions_for (Some names) log = names

abbrev pub marks_at : List Checkpoint → List (List ℕ) → List Checkpoint
marks_at checkpoints names = map (λ name. record { partition = name; at = checkpoint_at checkpoints name }) names

abbrev pub is_empty : {X : Type 0} → List X → Bool
is_empty [] = true
is_empty (x ∷ xs) = false

abbrev pub fresh_batch : IndexConfig → List Checkpoint → Batch
fresh_batch config marks = record { config = config; queue = marks; parts = []; documents = []; count = 0; first_read = None; closed = is_empty marks }

abbrev pub log_may_fail : LogCall → ℕ → Bool
log_may_fail call count = call.fails && (nat_lt count (risen count call.rises) || (count == last_count))

abbrev pub log_called : LogCall → Indexer → Indexer
log_called call indexer = record indexer { log_faults = risen indexer.log_faults call.rises }

abbrev pub checkpoints_by : Result ⊤ Trouble → Log → Indexer → Core → Stepped
checkpoints_by (Ok done) log indexer core =
    stepped (Some said.Checkpoint)
    (reading (fresh_batch (config_or (configuration (journal_of core))) (marks_at (checkpoints_of (history core.history)) (partitions_for indexer.assignment log)))) indexer core
checkpoints_by (Err trouble) log indexer core = stepped (trouble_outcome trouble) idle indexer core

abbrev pub checkpoints_given : Log → Indexer → Gives Trouble ⊤ → Stepped
checkpoints_given log indexer given = checkpoints_by given.answer log indexer given.core

abbrev pub take_checkpoints : IndexerLuck → Log → Indexer → Core → Stepped
take_checkpoints luck log indexer core = checkpoints_given log indexer (looked luck.world core)

-- the names are read from the log where there is no assignment
abbrev pub idle_by : Bool → Option (List (List ℕ)) → IndexerLuck → Log → Indexer → Core → Stepped
idle_by true None luck log indexer core =
    stepped (Some (said.SourceFault indexer.log_faults (risen indexer.log_faults luck.log.rises))) idle (log_called luck.log indexer) core
idle_by false None luck log indexer core = take_checkpoints luck log (log_called luck.log indexer) core
idle_by true (Some names) luck log indexer core = take_checkpoints luck log indexer core
idle_by false (Some names) luck log indexer core = take_checkpoints luck log indexer core

-- without memory for the names nothing more is done
abbrev pub idle_unless : Bool → IndexerLuck → Log → Indexer → Core → Stepped
idle_unless true luck log indexer core = stepped None idle (log_called luck.log indexer) core
idle_unless false luck log indexer core = idle_by (log_may_fail luck.log indexer.log_faults) indexer.assignment luck log indexer core

abbrev pub step_idle : IndexerLuck → Log → Indexer → Core → Stepped
step_idle luck log indexer core = idle_unless luck.log.short luck log indexer core

-- ---- reading

abbrev pub max_batch_weight : ℕ
max_batch_weight = 134217728

-- what was taken of a read: how many records, the batch's documents, their weight, whether it is too heavy for more
pub record Taken : Type 0 where
  pub count : ℕ
  pub documents : List Placed
  pub weight : ℕ
  pub heavy : Bool

-- what was taken so far of a read
abbrev pub taken_so_far : ℕ → List Placed → Taken
taken_so_far count documents =
    record { count = count; documents = documents; weight = total_weight documents; heavy = nat_lt max_batch_weight (total_weight documents) }

abbrev pub with_document : Placed → Taken → Taken
with_document placed taken =
    record {
      count = suc taken.count;
      documents = taken.documents ++ placed ∷ [];
      weight = taken.weight + weight placed;
      heavy = nat_lt max_batch_weight (taken.weight + weight placed);
    }

abbrev pub with_record : List ℕ → ℕ → Option (List DocField) → Taken → Taken
with_record name offset None taken = record taken { count = suc taken.count }
with_record name offset (Some doc) taken = with_document (record { partition = name; offset = offset; doc = doc }) taken

-- the records one after another, up to the one with which the batch is too heavy
abbrev pub taken_from : IndexConfig → List ℕ → ℕ → List (List ℕ) → Taken → Taken
taken_from config name offset [] taken = taken
taken_from config name offset (bytes ∷ more) taken =
    if taken.heavy then taken else taken_from config name (suc offset) more (with_record name offset (accepted config bytes) taken)

abbrev pub extended : List Part → List ℕ → ℕ → ℕ → List Part
extended [] name from to = record { partition = name; from = from; to = to } ∷ []
extended (part ∷ parts) name from to =
    if bytes_eq part.partition name then record part { to = to } ∷ parts else part ∷ extended parts name from to

abbrev pub parts_after : ℕ → List Part → List ℕ → ℕ → List Part
parts_after count parts name from = if count == 0 then parts else extended parts name from (from + count)

abbrev pub first_moment : Option ℕ → ℕ → ℕ
first_moment None now = now
first_moment (Some moment) now = moment

-- a batch is closed where nothing is left to read, or the target of the configuration, the weight or, with a record in it,
-- the time of the configuration is reached
abbrev pub is_closed : IndexConfig → List Checkpoint → ℕ → Bool → ℕ → ℕ → Bool
is_closed config queue count heavy since now =
    is_empty queue || nat_le config.docs_target count || heavy || (nat_lt 0 count && nat_le (since + config.commit_timeout) now)

abbrev pub queue_after : Bool → Checkpoint → ℕ → List Checkpoint → List Checkpoint
queue_after true mark count rest = rest
queue_after false mark count rest = record mark { at = mark.at + count } ∷ rest

abbrev pub max_read : ℕ
max_read = 1000

-- at most so many records a read, and no more than the target leaves
abbrev pub read_limit : Batch → ℕ
read_limit batch = min max_read (batch.config.docs_target - batch.count)

abbrev pub batch_after : Batch → Checkpoint → List Checkpoint → Taken → Bool → ℕ → Batch
batch_after batch mark rest taken at_end now =
    record {
      config = batch.config;
      queue = queue_after at_end mark taken.count rest;
      parts = parts_after taken.count batch.parts mark.partition mark.at;
      documents = taken.documents;
      count = batch.count + taken.count;
      first_read = Some (first_moment batch.first_read now);
      closed = is_closed batch.config (queue_after at_end mark taken.count rest) (batch.count + taken.count) taken.heavy (first_moment batch.first_read now) now;
    }

-- one read of the current partition: what was taken of it, and whether nothing stands behind it
abbrev pub read_with : Taken → Bool → Batch → Checkpoint → List Checkpoint → Indexer → Core → Stepped
read_with taken at_end batch mark rest indexer core =
    stepped (Some (said.Read taken.count)) (reading (batch_after batch mark rest taken at_end core.moment)) indexer core

-- what a read begins with, behind which nothing is taken yet
abbrev pub start_of : Batch → Taken
start_of batch = record { count = 0; documents = batch.documents; weight = total_weight batch.documents; heavy = false }

-- `behind` are the records from the current place on
abbrev pub read_current : Batch → Checkpoint → List Checkpoint → List (List ℕ) → Indexer → Core → Stepped
read_current batch mark rest behind indexer core =
    read_with
    (taken_from batch.config mark.partition mark.at (take (read_limit batch) behind) (start_of batch))
    (nat_le (length behind) (read_limit batch)) batch mark rest indexer core

abbrev pub read_by : Bool → IndexerLuck → Log → Batch → Checkpoint → List Checkpoint → Indexer → Core → Stepped
read_by true luck log batch mark rest indexer core =
    stepped (Some (said.SourceFault indexer.log_faults (risen indexer.log_faults luck.log.rises))) (reading batch) (log_called luck.log indexer) core
read_by false luck log batch mark rest indexer core =
    read_current batch mark rest (drop mark.at (records_of log mark.partition)) (log_called luck.log indexer) core

-- the moment is asked first
abbrev pub read_given : IndexerLuck → Log → Batch → Checkpoint → List Checkpoint → Indexer → Result ⊤ Trouble → Core → Stepped
read_given luck log batch mark rest indexer (Err trouble) core = stepped (trouble_outcome trouble) idle indexer core
read_given luck log batch mark rest indexer (Ok done) core =
    read_by (log_may_fail luck.log indexer.log_faults) luck log batch mark rest indexer core

abbrev pub read_asked : IndexerLuck → Log → Batch → Checkpoint → List Checkpoint → Indexer → Gives Trouble ⊤ → Stepped
read_asked luck log batch mark rest indexer given = read_given luck log batch mark rest indexer given.answer given.core

-- a batch that has nothing to read is closed, so the first case doesn't come
abbrev pub step_read : IndexerLuck → Log → Batch → List Checkpoint → Indexer → Core → Stepped
step_read luck log batch [] indexer core = stepped (Some said.CaughtUp) idle indexer core
step_read luck log batch (mark ∷ rest) indexer core =
    read_asked luck log batch mark rest indexer (asked luck.world core)

-- ---- a closed batch: stage, upload, publish

abbrev pub held_of : Batch → ℕ → IndexerHeld
held_of batch number = record { config = batch.config; number = number; delta = batch.parts; documents = batch.documents }

-- the facts of a batch's split: so many of its records are no documents
abbrev pub batch_facts : Batch → RowFacts
batch_facts batch = facts_of batch.config batch.documents (batch.count - length batch.documents)

abbrev pub stage_outcome : Unmade → Option IndexerOutcome
stage_outcome (refused refusal) = Some (said.Refused refusal)
stage_outcome (troubled trouble) = trouble_outcome trouble

abbrev pub stage_by : Result ⊤ Unmade → Batch → Indexer → Core → Stepped
stage_by (Ok done) batch indexer core =
    stepped (Some (said.Staged (last_number (history core.history)))) (staged (held_of batch (last_number (history core.history)))) indexer core
stage_by (Err unmade) batch indexer core = stepped (stage_outcome unmade) idle indexer core

abbrev pub stage_given : Batch → Indexer → Gives Unmade ⊤ → Stepped
stage_given batch indexer given = stage_by given.answer batch indexer given.core

abbrev pub step_stage : IndexerLuck → Batch → Indexer → Core → Stepped
step_stage luck batch indexer core = stage_given batch indexer (stage_call batch.parts (batch_facts batch) luck.world core)

abbrev pub upload_by : Result ⊤ Trouble → IndexerHeld → Indexer → Core → Stepped
upload_by (Ok done) held indexer core = stepped (Some (said.Uploaded held.number)) (uploaded held) indexer core
upload_by (Err trouble) held indexer core = stepped (trouble_outcome trouble) idle indexer core

abbrev pub upload_given : IndexerHeld → Indexer → Gives Trouble ⊤ → Stepped
upload_given held indexer given = upload_by given.answer held indexer given.core

abbrev pub step_upload : IndexerLuck → IndexerHeld → Indexer → Core → Stepped
step_upload luck held indexer core = upload_given held indexer (upload_made luck.world held.number (file_of held.config held.documents) core)

-- a refused Publish: the delta's own stale part, or else the row is lost
abbrev pub stale_or_lost : ℕ → StaleDelta → IndexerOutcome
stale_or_lost number (deltas.Stale partition current from) = said.Stale partition current from
stale_or_lost number (deltas.BackwardDelta partition) = said.Lost number (Delta (deltas.BackwardDelta partition))
stale_or_lost number (deltas.DoubledPartition partition) = said.Lost number (Delta (deltas.DoubledPartition partition))

abbrev pub publish_refused : ℕ → Refusal → IndexerOutcome
publish_refused number (Delta fault) = stale_or_lost number fault
publish_refused number (MomentBack given greatest) = said.Lost number (MomentBack given greatest)
publish_refused number NotCreated = said.Lost number NotCreated
publish_refused number AlreadyCreated = said.Lost number AlreadyCreated
publish_refused number (BadConfig error) = said.Lost number (BadConfig error)
publish_refused number (NotNext given next) = said.Lost number (NotNext given next)
publish_refused number (State refusal) = said.Lost number (State refusal)
publish_refused number (BadTask error) = said.Lost number (BadTask error)
publish_refused number (UptoAhead upto last) = said.Lost number (UptoAhead upto last)
publish_refused number (TooManyTasks count) = said.Lost number (TooManyTasks count)
publish_refused number (TooManyRows count) = said.Lost number (TooManyRows count)
publish_refused number (TooManySpans count) = said.Lost number (TooManySpans count)

abbrev pub publish_outcome : ℕ → Unmade → Option IndexerOutcome
publish_outcome number (refused refusal) = Some (publish_refused number refusal)
publish_outcome number (troubled trouble) = trouble_outcome trouble

abbrev pub publish_by : Result ⊤ Unmade → IndexerHeld → Indexer → Core → Stepped
publish_by (Ok done) held indexer core = stepped (Some (said.Published held.number)) idle indexer core
publish_by (Err unmade) held indexer core = stepped (publish_outcome held.number unmade) idle indexer core

abbrev pub publish_given : IndexerHeld → Indexer → Gives Unmade ⊤ → Stepped
publish_given held indexer given = publish_by given.answer held indexer given.core

abbrev pub step_publish : IndexerLuck → IndexerHeld → Indexer → Core → Stepped
step_publish luck held indexer core = publish_given held indexer (publish_call held.number luck.world core)

-- ---- a step

abbrev pub step_batch : IndexerLuck → Log → Batch → Indexer → Core → Stepped
step_batch luck log batch indexer core =
    if batch.closed
    then (if batch.count == 0 then stepped (Some said.CaughtUp) idle indexer core else step_stage luck batch indexer core)
    else step_read luck log batch batch.queue indexer core

abbrev pub step_place : IndexerPlace → IndexerLuck → Log → Indexer → Core → Stepped
step_place idle luck log indexer core = step_idle luck log indexer core
step_place (reading batch) luck log indexer core = step_batch luck log batch indexer core
step_place (staged held) luck log indexer core = step_upload luck held indexer core
step_place (uploaded held) luck log indexer core = step_publish luck held indexer core

-- without memory the batch is dropped and the indexer is idle
abbrev pub or_short : Bool → Stepped → Stepped
or_short true step = stepped None idle step.indexer step.core
or_short false step = step

abbrev pub step_indexer : IndexerLuck → Log → Indexer → Core → Stepped
step_indexer luck log indexer core = or_short luck.short (step_place indexer.place luck log indexer core)
