-- A core with which nothing is under way, and what a schedule is told of its readers.
use Rattle.std.specs.Prelude.{◌≡◌, ℕ, ◌<◌, false, List, [], map, None}
use Rattle.index_world.specs.Core.{Core, last_count}
use Rattle.indexing_run.specs.Places.{Indexer}
use Rattle.node_run.specs.Node.{Line, At, Assign, StepIndexer, RestartIndexer, RestartClient, StepMerger, RestartMerger, StepDeleter, RestartDeleter, StepCollector, RestartCollector, RestartNode, Open, StepClient}

-- nothing is late, stands unread or is unsure, and the count doesn't stand at its end
pub record IsStill (core : Core) : Type 0 where
  pub late : core.late ≡ []
  pub standing : core.standing ≡ None
  pub unsure : core.unsure ≡ false
  pub below : core.store_faults < last_count

-- the counts of the readers' faults
abbrev pub log_counts : List Indexer → List ℕ
log_counts indexers = map (λ indexer. indexer.log_faults) indexers

-- the line's indexer is one of so many
abbrev pub IsOfThese : ℕ → Line → Type 0
IsOfThese count (At moment) = Unit {0}
IsOfThese count (Assign indexer partitions) = indexer < count
IsOfThese count (StepIndexer indexer) = indexer < count
IsOfThese count (RestartIndexer indexer) = indexer < count
IsOfThese count (RestartClient client) = Unit {0}
IsOfThese count StepMerger = Unit {0}
IsOfThese count RestartMerger = Unit {0}
IsOfThese count StepDeleter = Unit {0}
IsOfThese count RestartDeleter = Unit {0}
IsOfThese count StepCollector = Unit {0}
IsOfThese count RestartCollector = Unit {0}
IsOfThese count RestartNode = Unit {0}
IsOfThese count (Open client text) = Unit {0}
IsOfThese count (StepClient client) = Unit {0}
