-- Steps over a world that is lent to them, so that nobody acts between their calls.
use Rattle.std.specs.Prelude.{◌≡◌, ℕ, true, Option, Some, None, Result}
use Rattle.std.specs.declared.alloc.AllocError.{AllocError}
use Rattle.source_log.specs.Log.{Log}
use Rattle.index_world.specs.Core.{Core, journal_of}
use Rattle.index_world.specs.Index.{has_staged}
use Rattle.index_world.specs.World.{Keeping, WorldStands, GoesOn}
use Rattle.indexing_run.specs.Outcomes.{IndexerOutcome}
use Rattle.indexing_run.specs.Places.{Indexer, number_held}
use Rattle.indexing_run.specs.Standing.{Answers, IndexerStands}
use Rattle.indexing_run.specs.Steps.{IndexerLuck as IndexingLuck, step_indexer}
use Rattle.indexing_run.specs.declared.indexer.Indexer.{Indexer as Reader}
use Rattle.indexing_run.specs.declared.outcome.IndexerOutcome.{IndexerOutcome as Said}
use Rattle.root_search.specs.Searching.{SearcherStands, IsAnswer, searched_as}
use Rattle.root_search.specs.Steps.{Client, ClientLuck, step_client}
use Rattle.root_search.specs.declared.outcome.SearchStep.{SearchStep}
use Rattle.root_search.specs.declared.searcher.Searcher.{Searcher}
use Rattle.split_collector.specs.Outcomes.{Outcome as CollectorOutcome}
use Rattle.split_collector.specs.Standing as collects
use Rattle.split_collector.specs.Steps.{CollectorLuck as CollectingLuck, step_collector}
use Rattle.split_collector.specs.declared.outcome.CollectorOutcome.{CollectorOutcome as Collected}
use Rattle.upkeep_run.specs.Outcomes.{UpkeepOutcome}
use Rattle.upkeep_run.specs.Places.{WorkerPlace as Worker}
use Rattle.upkeep_run.specs.Places as workers
use Rattle.upkeep_run.specs.Standing as works
use Rattle.upkeep_run.specs.Steps.{WorkerLuck as WorkingLuck, step_worker}
use Rattle.upkeep_run.specs.declared.outcome.UpkeepOutcome.{UpkeepOutcome as Worked}
use Rattle.upkeep_run.specs.declared.work.Aim.{Aim}
use Rattle.upkeep_run.specs.declared.work.WorkerPlace.{WorkerPlace as WorkerPlace}

-- it is the client's step with some luck, and what it leaves stands for what that leaves
pub record SearchesAlone (result : Result SearchStep AllocError) (new : Searcher) (world : Keeping) (client : Client) (core : Core) (log : Log) : Type 0 where
  pub luck : ClientLuck
  pub outcome : Option SearchStep
  pub later : Client
  pub after : Core
  pub did : step_client luck log client core ≡ searched_as outcome later after
  pub says : IsAnswer result outcome
  pub searcher : SearcherStands new later after log
  pub world_stands : WorldStands world after log
  pub goes_on : GoesOn None core after

-- it is the collector's step with some luck
pub record CollectsAlone (result : Result Collected AllocError) (world : Keeping) (core : Core) (log : Log) : Type 0 where
  pub luck : CollectingLuck
  pub outcome : Option CollectorOutcome
  pub after : Core
  pub did : step_collector luck core ≡ record { outcome = outcome; core = after }
  pub says : collects.Answers result outcome
  pub world_stands : WorldStands world after log
  pub goes_on : GoesOn None core after

-- it is the worker's step with some luck, and what it holds then stands for where that leaves it
pub record WorksAlone (aim : Aim) (result : Result Worked AllocError) (worker : Worker) (core : Core) (log : Log) (kept : WorkerPlace) (world : Keeping) : Type 0 where
  pub luck : WorkingLuck
  pub outcome : Option UpkeepOutcome
  pub after : Worker
  pub behind : Core
  pub did : step_worker aim luck log worker core ≡ record { outcome = outcome; place = after; core = behind }
  pub answer : works.Answers result outcome
  pub stands : works.PlaceStands aim log behind kept after
  pub world_stands : WorldStands world behind log
  pub goes_on : GoesOn (workers.number_held worker) core behind
  -- a number that it holds from now on was not staged before, or is the one that it held
  pub apart : (n : ℕ) → has_staged (journal_of core) n ≡ true → workers.number_held after ≡ Some n → workers.number_held worker ≡ Some n

-- it is the indexer's step with some luck, and what it leaves stands for what that leaves
pub record StepsAlone {L : Type 0} (tells : L → Option Log) (count : L → ℕ) (result : Result Said AllocError) (indexer : Indexer) (core : Core) (log : Log) (reader : Reader L) (world : Keeping) : Type 0 where
  pub luck : IndexingLuck
  pub outcome : Option IndexerOutcome
  pub after : Indexer
  pub behind : Core
  pub did : step_indexer luck log indexer core ≡ record { outcome = outcome; indexer = after; core = behind }
  pub answer : Answers result outcome
  pub stands : IndexerStands tells count reader after behind log
  pub world_stands : WorldStands world behind log
  pub goes_on : GoesOn (number_held indexer.place) core behind
  -- a number that it holds from now on was not staged before, or is the one that it held
  pub apart : (n : ℕ) → has_staged (journal_of core) n ≡ true → number_held after.place ≡ Some n → number_held indexer.place ≡ Some n
