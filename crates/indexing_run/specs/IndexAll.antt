-- What an indexer does up to its end.
use Rattle.std.specs.Prelude.{◌≡◌, ◌≤◌, ℕ, List, [], ◌∷◌, ◌++◌, length, Option, Some, None, Result, Ok, Err, ⊤}
use Rattle.std.specs.List.{AllByRecursion}
use Rattle.std.specs.declared.alloc.AllocError.{AllocError}
use Rattle.byte_fields.specs.Causes.{Rose}
use Rattle.index_config.specs.declared.config.IndexConfig.{IndexConfig}
use Rattle.meta_journal.specs.declared.entry.Entry.{Entry}
use Rattle.meta_store.specs.History.{history}
use Rattle.meta_store.specs.State.{checkpoints_of}
use Rattle.object_store.specs.Store.{State}
use Rattle.source_checkpoint.specs.Checkpoints.{checkpoint_at}
use Rattle.source_log.specs.Log.{Log, records_of}
use Rattle.index_world.specs.Answering.{Answered}
use Rattle.index_world.specs.CallsMade.{CallMade, IsRecorded, of_checkpoints}
use Rattle.index_world.specs.Core.{Core, Nobody, last_count}
use Rattle.index_world.specs.World.{GoesFor}
use Rattle.indexing_run.specs.Asking.{IsCallFree, IsIdle, ask_of}
use Rattle.indexing_run.specs.Ending.{EndsStep}
use Rattle.indexing_run.specs.Outcomes.{IndexerOutcome}
use Rattle.indexing_run.specs.Places.{Indexer}
use Rattle.indexing_run.specs.Standing.{Answers, IndexerStands}
use Rattle.indexing_run.specs.Steps.{IndexerLuck, partitions_for, step_indexer}
use Rattle.indexing_run.specs.declared.indexer.Indexer.{Indexer as Reader}
use Rattle.indexing_run.specs.declared.outcome.IndexerOutcome.{IndexerOutcome as Said}
use Rattle.indexing_run.specs.declared.outcome.IndexerOutcome.TheVariants as said
use Rattle.index_world.specs.Ran.{IsCaused, StepMade, Works}
use Rattle.indexing_run.specs.declared.indexing.IndexerEnd.{IndexerEnd}
use Rattle.indexing_run.specs.declared.indexing.IndexerEnd.TheVariants as ends

-- what a step of the code gives
abbrev pub Told : Type 0
Told = Result Said AllocError

-- Whether a step that answered so is the last one, and with which end. What is stale or lost is read anew.
abbrev pub end_of : Told → Option IndexerEnd
end_of (Ok said.Checkpoint) = None
end_of (Ok (said.Read count)) = None
end_of (Ok (said.Staged number)) = None
end_of (Ok (said.Uploaded number)) = None
end_of (Ok (said.Published number)) = None
end_of (Ok said.CaughtUp) = Some ends.CaughtUp
end_of (Ok (said.Stale partition current from)) = None
end_of (Ok (said.Lost number refusal)) = None
end_of (Ok (said.Refused refusal)) = Some (ends.Refused refusal)
end_of (Ok (said.Fault error)) = Some (ends.Fault error)
end_of (Ok (said.SourceFault before after)) = Some (ends.SourceFault before after)
end_of (Err refused) = Some ends.Memory

-- ---- whatever the log and the gate tell

-- an indexer of the code, and its gate
pub record ReaderAt (L W : Type 0) : Type 0 where
  pub reader : Reader L
  pub gate : W

abbrev pub reader_at : {L W : Type 0} → Reader L → W → ReaderAt L W
reader_at reader gate = record { reader = reader; gate = gate }

-- a step through a gate
abbrev pub IndexesOnce : {L W : Type 0} → (tells : L → Option Log) → (count : L → ℕ) → (told : W → Option State) → (configured : W → IndexConfig) → (Answers : W → Answered → W → Type 0) →
    ReaderAt L W → Told → ReaderAt L W → Type 0
IndexesOnce tells count told configured Answers old answer new = EndsStep tells count told configured Answers old.reader answer new.reader old.gate new.gate

-- ---- over a log that tells, and a gate that stands for a core

-- an indexer, and the core where it is
pub record IndexerAt : Type 0 where
  pub indexer : Indexer
  pub core : Core

abbrev pub indexer_at : Indexer → Core → IndexerAt
indexer_at indexer core = record { indexer = indexer; core = core }

abbrev pub core_there : IndexerAt → Core
core_there at = at.core

-- A step is the machine's with some luck, behind what other actors did before its call. It answered what the machine came to, and the gate
-- recorded the call of its place, or none, where it is free to make none.
pub record IndexerStep (Between : Core → Core → Type 0) (log : Log) (from : IndexerAt) (step : StepMade Told) (to : IndexerAt) : Type 0 where
  pub mid : Core
  pub passed : Between from.core mid
  pub luck : IndexerLuck
  pub outcome : Option IndexerOutcome
  pub did : step_indexer luck log from.indexer mid ≡ record { outcome = outcome; indexer = to.indexer; core = to.core }
  pub answer : Answers step.result outcome
  pub recorded : IsRecorded (ask_of from.indexer.place) mid to.core (IsCallFree from.indexer.place outcome) step.made
  pub goes_on : GoesFor Nobody from.core to.core

-- an indexer of the code stands for that
abbrev pub Holds : {L : Type 0} → (tells : L → Option Log) → (count : L → ℕ) → Log → Reader L → IndexerAt → Type 0
Holds tells count log reader at = IndexerStands tells count reader at.indexer at.core log

-- nothing of the log lies behind the checkpoint of one of these partitions
abbrev pub AreAtEnds : Log → (names : List (List ℕ)) → List Entry → Type 0
AreAtEnds log names entries = AllByRecursion (λ name. length (records_of log name) ≤ checkpoint_at (checkpoints_of (history entries)) name) names

-- one of the calls asked for the checkpoints, and found them so
pub record SawEnds (log : Log) (names : List (List ℕ)) (made : List CallMade) : Type 0 where
  pub front : List CallMade
  pub seen : CallMade
  pub more : List CallMade
  pub are : made ≡ front ++ seen ∷ more
  pub ask : seen.ask ≡ of_checkpoints
  pub at_ends : AreAtEnds log names seen.history

-- an end that is a fault of the store has its cause
abbrev pub IsEndCaused : IndexerEnd → (core after : Core) → Type 0
IsEndCaused ends.CaughtUp core after = ⊤
IsEndCaused (ends.Refused refusal) core after = ⊤
IsEndCaused (ends.Fault error) core after = IsCaused error core after
IsEndCaused (ends.SourceFault before now) core after = ⊤
IsEndCaused ends.Turns core after = ⊤
IsEndCaused ends.Memory core after = ⊤

-- a fault of the log: its count rose to what it is, or stands at its end
abbrev pub IsSourceCaused : IndexerEnd → (first last : ℕ) → Type 0
IsSourceCaused ends.CaughtUp first last = ⊤
IsSourceCaused (ends.Refused refusal) first last = ⊤
IsSourceCaused (ends.Fault error) first last = ⊤
IsSourceCaused (ends.SourceFault before now) first last = (first ≤ before) × Rose before now × (now ≡ last)
IsSourceCaused ends.Turns first last = ⊤
IsSourceCaused ends.Memory first last = ⊤

-- WHAT AN INDEXER DID over a log from a place and a core on, in so many turns at most: its steps up to this end, whose calls these are. The
-- indexer of the code stands for what the last one left. One that was idle has caught up only where it saw that its partitions' checkpoints
-- are their ends.
pub record IndexerDid {L : Type 0} (tells : L → Option Log) (count : L → ℕ) (Between : Core → Core → Type 0) (log : Log) (turns : ℕ) (end : IndexerEnd) (reader : Reader L)
    (indexer : Indexer) (core : Core) (made : List CallMade) (after : Core) : Type 0 where
  pub works : Works (IndexerStep Between log) core_there end_of ends.Turns (Holds tells count log reader) turns end (indexer_at indexer core) made after
  pub cause : core.store_faults ≤ last_count → IsEndCaused end core after
  pub source : indexer.log_faults ≤ last_count → IsSourceCaused end indexer.log_faults works.last.indexer.log_faults
  pub caught_up : end ≡ ends.CaughtUp → IsIdle indexer.place → SawEnds log (partitions_for indexer.assignment log) made
