-- What a restart does to an indexer's and a client's part of a node.
use Rattle.std.specs.Prelude.{◌≡◌, ℕ, Option}
use Rattle.source_log.specs.Log.{Log}
use Rattle.index_world.specs.Core.{Core}
use Rattle.indexing_run.specs.Places.{Indexer}
use Rattle.indexing_run.specs.Standing.{IndexerStands}
use Rattle.indexing_run.specs.declared.indexer.Indexer.{Indexer as Reader}
use Rattle.root_search.specs.Searching.{SearcherStands}
use Rattle.root_search.specs.Steps.{Client, without_request}
use Rattle.root_search.specs.declared.searcher.Searcher.{Searcher}
use Rattle.node_run.specs.Turns.{made_idle}

-- its log stays, and it is idle, whatever the world is then
pub record Restarted {L : Type 0} (told : L → Option Log) (count : L → ℕ) (old new : Reader L) : Type 0 where
  pub log : new.log ≡ old.log
  pub stands : (indexer : Indexer) (core after : Core) (read : Log) → IndexerStands told count old indexer core read →
      IndexerStands told count new (made_idle indexer) after read

-- its request is dropped, whatever the world is then
pub record Dropped (old new : Searcher) : Type 0 where
  pub stands : (client : Client) (core after : Core) (log : Log) → SearcherStands old client core log →
      SearcherStands new (without_request client) after log
