-- A node: what one life of the program holds, and what each line of a schedule says and is answered.
use Rattle.std.specs.Prelude.{ℕ, Bool, List}
use Rattle.source_log.specs.Log.{Log}
use Rattle.index_world.specs.Calls.{Fault}
use Rattle.index_world.specs.Core.{Core}
use Rattle.indexing_run.specs.Outcomes.{IndexerOutcome}
use Rattle.indexing_run.specs.Places.{Indexer}
use Rattle.root_search.specs.Steps.{Client}
use Rattle.split_collector.specs.Outcomes.{Outcome as CollectorOutcome}
use Rattle.upkeep_run.specs.Outcomes.{UpkeepOutcome}
use Rattle.upkeep_run.specs.Places.{WorkerPlace as Worker}
use Rattle.upkeep_run.specs.declared.work.Aim.{Aim}
use Rattle.root_search.specs.declared.outcome.SearchStep.{SearchStep}

pub record Node : Type 0 where
  pub log : Log
  pub core : Core
  pub down : Bool
  pub indexers : List Indexer
  pub merger : Worker
  pub deleter : Worker
  pub clients : List Client

pub data Line : Type 0 where
  At : (moment : ℕ) → Line
  Assign : (indexer : ℕ) → (partitions : List (List ℕ)) → Line
  StepIndexer : (indexer : ℕ) → Line
  RestartIndexer : (indexer : ℕ) → Line
  RestartClient : (client : List ℕ) → Line
  StepMerger : Line
  RestartMerger : Line
  StepDeleter : Line
  RestartDeleter : Line
  StepCollector : Line
  RestartCollector : Line
  RestartNode : Line
  Open : (client : List ℕ) → (text : List ℕ) → Line
  StepClient : (client : List ℕ) → Line

-- why a node isn't started again
pub data NodeFault : Type 0 where
  world_fault : Fault → NodeFault
  no_index : NodeFault

pub data Outcome : Type 0 where
  at_said : (moment : ℕ) → Outcome
  assigned : (indexer : ℕ) → (count : ℕ) → Outcome
  indexer_busy : (indexer : ℕ) → Outcome
  indexer_said : (indexer : ℕ) → IndexerOutcome → Outcome
  indexer_down : (indexer : ℕ) → Outcome
  indexer_restarted : (indexer : ℕ) → Outcome
  client_restarted : (name : List ℕ) → Outcome
  worker_said : Aim → UpkeepOutcome → Outcome
  worker_down : Aim → Outcome
  worker_restarted : Aim → Outcome
  collector_said : CollectorOutcome → Outcome
  collector_down : Outcome
  collector_restarted : Outcome
  node_restarted : (revision : ℕ) → Outcome
  node_failed : NodeFault → Outcome
  request_opened : (name : List ℕ) → Outcome
  request_busy : (name : List ℕ) → Outcome
  client_said : (name : List ℕ) → SearchStep → Outcome
  client_down : (name : List ℕ) → Outcome
