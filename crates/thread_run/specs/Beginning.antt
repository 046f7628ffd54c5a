-- The indexers with which a run begins.
use Rattle.std.specs.Prelude.{◌≡◌, ◌≤◌, ℕ, suc, List, [], ◌∷◌, Option, Some, ⊤}
use Rattle.byte_fields.specs.Causes.{Rose, last_count}
use Rattle.source_log.specs.Log.{Log, names_of}
use Rattle.indexing_run.specs.Making.{IsAssigned}
use Rattle.indexing_run.specs.declared.indexer.Indexer.{Indexer as Reader}
use Rattle.indexing_run.specs.declared.indexer.IndexerPlace.TheVariants as places
use Rattle.run_plan.specs.Every.{every}
use Rattle.thread_run.specs.declared.beginning.Begun.{Begun}
use Rattle.thread_run.specs.declared.beginning.Begun.TheVariants as begun

module _ {L : Type 0} (told : L → Option Log) (count : L → ℕ) (since : L → L → Type 0) where
  -- a later state of a log, which tells what the log told, and whose count of faults is no lower
  pub record IsKept (first last : L) : Type 0 where
    pub later : since first last
    pub counts : count first ≤ count last
    pub tells : (log : Log) → told first ≡ Some log → told last ≡ Some log

  -- It is idle, its count of faults is one, and where its log tells, its partitions, which differ, are every so many of the log's, the first of them behind as many as its place says.
  pub record IsReadyFor (among place : ℕ) (first : L) (reader : Reader L) : Type 0 where
    pub kept : IsKept first reader.log
    pub idle : reader.place ≡ places.Idle
    pub counted : count reader.log ≤ last_count
    pub names : (log : Log) → told first ≡ Some log → reader.assignment ≡ Some (every among place (names_of log))
    pub assigned : (log : Log) → told first ≡ Some log → IsAssigned reader.assignment

  -- its log failed, and these are its counts of faults before and behind
  pub record IsUnread (first last : L) (before after : ℕ) : Type 0 where
    pub kept : IsKept first last
    pub before_is : before ≡ count first
    pub after_is : after ≡ count last
    pub rose : Rose before after

  -- one of so many indexers was begun, at this place among them
  abbrev pub IsBegun : (among place : ℕ) → L → Begun L → Type 0
  IsBegun among place log (begun.Ready reader) = IsReadyFor among place log reader
  IsBegun among place log (begun.Failed last before after) = IsUnread log last before after
  IsBegun among place log (begun.Short last) = IsKept log last

  -- one for each log, from this place on
  abbrev pub AreBegun : (among place : ℕ) → List L → List (Begun L) → Type 0
  AreBegun among place [] [] = ⊤
  AreBegun among place [] (one ∷ all) = ⊥
  AreBegun among place (log ∷ logs) [] = ⊥
  AreBegun among place (log ∷ logs) (one ∷ all) = IsBegun among place log one × AreBegun among (suc place) logs all
