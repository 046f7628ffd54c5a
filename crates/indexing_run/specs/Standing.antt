-- What an indexer of the code stands for, and what its step says.
use Rattle.std.specs.Prelude.{◌≡◌, ℕ, ◌+◌, ◌≤◌, true, List, [], ◌∷◌, length, drop, decimal, codes, Option, Some, None, Result, Ok, Err, ⊤}
use Rattle.source_checkpoint.specs.declared.ledger.Checkpoint.{Checkpoint as Mark}
use Rattle.std.specs.declared.alloc.AllocError.{AllocError}
use Rattle.source_log.specs.Log.{Log, names_of}
use Rattle.byte_fields.specs.Causes.{Rose}
use Rattle.source_log.specs.declared.log.ReadError.{ReadError}
use Rattle.source_log.specs.declared.log.ReadError.TheVariants as errors
use Rattle.source_log.specs.declared.lists.Records.{Records}
use Rattle.index_world.specs.Calls.{Fault, faulted}
use Rattle.index_world.specs.CallsMade.{CallMade, IsRecorded}
use Rattle.index_world.specs.Core.{Core, journal_of, IsConfigured, IsUnusedIn}
use Rattle.index_world.specs.Gate.{IsTrouble}
use Rattle.index_world.specs.Index.{has_staged}
use Rattle.index_world.specs.Saying.{refusal_words, error_words}
use Rattle.index_world.specs.SplitFile.{file_of, max_documents}
use Rattle.split_bundle.specs.Documents.{total_weight}
use Rattle.index_world.specs.World.{GoesOn}
use Rattle.indexing_run.specs.declared.batch.Batch.{Batch as HeldBatch}
use Rattle.indexing_run.specs.declared.batch.NextRead.{NextRead}
use Rattle.indexing_run.specs.declared.indexer.Indexer.{Indexer as Reader}
use Rattle.indexing_run.specs.declared.indexer.IndexerPlace.{IndexerPlace as HeldPlace}
use Rattle.indexing_run.specs.declared.indexer.IndexerPlace.TheVariants as places
use Rattle.indexing_run.specs.declared.queue.Queue.{Queue}
use Rattle.indexing_run.specs.declared.outcome.IndexerOutcome.{IndexerOutcome as Said}
use Rattle.indexing_run.specs.declared.outcome.IndexerOutcome.TheVariants as said
use Rattle.indexing_run.specs.Asking.{ask_of, IsCallFree}
use Rattle.indexing_run.specs.Gathering.{HasDocuments}
use Rattle.indexing_run.specs.Making.{Follows, IsBatch, IsAssigned}
use Rattle.indexing_run.specs.Outcomes.{IndexerOutcome, Checkpoint, Read, Staged, Uploaded, Published, CaughtUp, Stale, Lost, Refused, SourceFault, Faulted}
use Rattle.indexing_run.specs.Places.{Batch, IndexerHeld, IndexerPlace, idle, reading, staged, uploaded, Indexer, IsStagedHeld, IsUploadedHeld, number_held}
use Rattle.indexing_run.specs.Steps.{taken_from, max_batch_weight, start_of, batch_after, IndexerLuck, step_indexer}

-- ---- outcomes

-- an outcome of the code is this outcome
abbrev pub IsSaid : Said → IndexerOutcome → Type 0
IsSaid said.Checkpoint outcome = outcome ≡ Checkpoint
IsSaid (said.Read count) outcome = outcome ≡ Read count
IsSaid (said.Staged number) outcome = outcome ≡ Staged number
IsSaid (said.Uploaded number) outcome = outcome ≡ Uploaded number
IsSaid (said.Published number) outcome = outcome ≡ Published number
IsSaid said.CaughtUp outcome = outcome ≡ CaughtUp
IsSaid (said.Stale partition current from) outcome = outcome ≡ Stale partition current from
IsSaid (said.Lost number refusal) outcome = outcome ≡ Lost number refusal
IsSaid (said.Refused refusal) outcome = outcome ≡ Refused refusal
IsSaid (said.Fault error) outcome = (fault : Fault) × (outcome ≡ Faulted fault) × IsTrouble error (faulted fault)
IsSaid (said.SourceFault before after) outcome = outcome ≡ SourceFault before after

-- the words of an outcome of the code
abbrev pub said_words : Said → List (List ℕ)
said_words said.Checkpoint = codes "checkpoint" ∷ []
said_words (said.Read count) = codes "read" ∷ decimal count ∷ []
said_words (said.Staged number) = codes "staged" ∷ decimal number ∷ []
said_words (said.Uploaded number) = codes "uploaded" ∷ decimal number ∷ []
said_words (said.Published number) = codes "published" ∷ decimal number ∷ []
said_words said.CaughtUp = codes "caughtup" ∷ []
said_words (said.Stale partition current from) = codes "stale" ∷ partition ∷ decimal current ∷ decimal from ∷ []
said_words (said.Lost number refusal) = codes "lost" ∷ decimal number ∷ refusal_words refusal
said_words (said.Refused refusal) = codes "refused" ∷ refusal_words refusal
said_words (said.Fault error) = error_words error
said_words (said.SourceFault before after) = codes "sourcefault" ∷ decimal before ∷ decimal after ∷ []

-- an outcome was given, or there was no memory for it
abbrev pub Answers : Result Said AllocError → Option IndexerOutcome → Type 0
Answers (Ok given) (Some outcome) = IsSaid given outcome
Answers (Ok given) None = ⊥
Answers (Err refused) (Some outcome) = ⊥
Answers (Err refused) None = ⊤

-- ---- what an indexer holds

-- what is left of a queue from its current place on
abbrev pub left_of : Queue → List Mark
left_of queue = drop queue.current queue.marks.items

pub record BatchStands (held : HeldBatch) (batch : Batch) : Type 0 where
  pub config : held.documents.mapping ≡ batch.config
  pub queue : left_of held.queue ≡ batch.queue
  pub parts : held.parts.items ≡ batch.parts
  pub documents : HasDocuments held.documents batch.documents
  pub count : held.count ≡ batch.count
  pub first_read : held.first_read ≡ batch.first_read
  pub closed : held.closed ≡ batch.closed

-- what is read next: from where on, and how many records at most
abbrev pub next_read : List Mark → (room : ℕ) → Option NextRead
next_read [] room = None
next_read (mark ∷ rest) room = Some (record { partition = mark.partition; from = mark.at; room = room })

-- this is read of a batch: records from its first mark on, no more than there is room for
pub record ReadsOn (batch : Batch) (mark : Mark) (rest : List Mark) (records : Records) : Type 0 where
  pub queue : batch.queue ≡ mark ∷ rest
  pub follows : Follows batch.parts mark
  pub calm : total_weight batch.documents ≤ max_batch_weight
  pub room : batch.count + length records.list ≤ batch.config.docs_target
  pub target : batch.config.docs_target ≤ max_documents

-- the batch behind such a read at a moment
abbrev pub batch_read : Batch → Mark → List Mark → Records → ℕ → Batch
batch_read batch mark rest records now =
    batch_after batch mark rest (taken_from batch.config mark.partition mark.at records.list (start_of batch)) records.end now

-- what is held is what the place says, made of the log and in hand
abbrev pub PlaceStands : Log → Core → HeldPlace → IndexerPlace → Type 0
PlaceStands log core places.Idle place = place ≡ idle
PlaceStands log core (places.Reading held) place =
    (batch : Batch) × (place ≡ reading batch) × BatchStands held batch × IsBatch log batch × IsConfigured batch.config core
PlaceStands log core (places.Staged token bytes) place =
    (held : IndexerHeld) × (place ≡ staged held) × (token.number ≡ held.number) × (bytes ≡ file_of held.config held.documents) × IsStagedHeld log core held
PlaceStands log core (places.Uploaded token) place =
    (held : IndexerHeld) × (place ≡ uploaded held) × (token.number ≡ held.number) × IsUploadedHeld log core held

-- a staged number that it holds is its own at the gate
abbrev pub HoldsOwn : {W : Type 0} → (W → ℕ → Type 0) → W → HeldPlace → Type 0
HoldsOwn Owns gate places.Idle = Unit {0}
HoldsOwn Owns gate (places.Reading held) = Unit {0}
HoldsOwn Owns gate (places.Staged token bytes) = Owns gate token.number
HoldsOwn Owns gate (places.Uploaded token) = Unit {0}

-- A reader of a log that tells stands for an indexer, over a core and the log.
pub record IndexerStands {L : Type 0} (tells : L → Option Log) (count : L → ℕ) (reader : Reader L) (indexer : Indexer) (core : Core) (log : Log) : Type 0 where
  pub told : tells reader.log ≡ Some log
  pub log_faults : count reader.log ≡ indexer.log_faults
  pub assignment : reader.assignment ≡ indexer.assignment
  pub assigned : IsAssigned indexer.assignment
  pub place : PlaceStands log core reader.place indexer.place

-- ---- a step

-- the names for an indexer with this assignment were copied, or read of a log whose count was the first number and is the second
abbrev pub NamesGiven : Option (List (List ℕ)) → Result (List (List ℕ)) ReadError → ℕ → ℕ → Log → Type 0
NamesGiven (Some names) (Ok given) before now log = (given ≡ names) × (now ≡ before)
NamesGiven (Some names) (Err (errors.Memory refused)) before now log = now ≡ before
NamesGiven (Some names) (Err errors.Failed) before now log = ⊥
NamesGiven None (Ok given) before now log = (given ≡ names_of log) × (before ≤ now)
NamesGiven None (Err (errors.Memory refused)) before now log = before ≤ now
NamesGiven None (Err errors.Failed) before now log = Rose before now × (before ≤ now)

-- A step is the machine's with some luck, behind what other actors did before its call of the world, which left unused what the caller
-- owns. The gate recorded the call as its own.
pub record StepsAs {L W : Type 0} (tells : L → Option Log) (count : L → ℕ) (Stands : W → Core → Log → Type 0) (Between : Core → Core → Type 0)
    (Owns : W → ℕ → Type 0) (Adds : W → List CallMade → W → Type 0)
    (result : Result Said AllocError) (indexer : Indexer) (core : Core) (log : Log) (reader : Reader L) (old new : W) : Type 0 where
  pub mid : Core
  pub passed : Between core mid
  pub owned : (number : ℕ) → Owns old number → IsUnusedIn core number → IsUnusedIn mid number
  pub luck : IndexerLuck
  pub outcome : Option IndexerOutcome
  pub after : Indexer
  pub behind : Core
  pub did : step_indexer luck log indexer mid ≡ record { outcome = outcome; indexer = after; core = behind }
  pub answer : Answers result outcome
  pub stands : IndexerStands tells count reader after behind log
  pub gate : Stands new behind log
  pub goes_on : GoesOn (number_held indexer.place) mid behind
  pub made : List CallMade
  pub own : Adds old made new
  -- the call of its place once, as what it left, or none, where it is free to make none
  pub asked : IsRecorded (ask_of indexer.place) mid behind (IsCallFree indexer.place outcome) made
  -- a number that it holds from now on was not staged before, or is the one that it held
  pub apart : (n : ℕ) → has_staged (journal_of core) n ≡ true → number_held after.place ≡ Some n → number_held indexer.place ≡ Some n
