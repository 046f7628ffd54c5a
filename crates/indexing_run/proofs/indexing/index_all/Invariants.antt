use Rattle.source_log.specs.Log.{Log}
use Rattle.index_world.specs.Core.{Core}
use Rattle.indexing_run.specs.Places.{Indexer}
use Rattle.indexing_run.specs.Standing.{HoldsOwn, IndexerStands}
use Rattle.index_world.proofs.Ran.{Going, SoFar}
use Rattle.indexing_run.specs.IndexAll.{Holds, IndexerStep, IndexesOnce, core_there, end_of, indexer_at, reader_at}
use Rattle.indexing_run.proofs.indexing.index_all.Given as goal

abbrev pub invariant-loop : goal.invariant-loop
invariant-loop g l =
    g.L.SourceLog.since l.fn.indexer.log l.indexer.log × g.G.Gate.since l.fn.gate l.gate × HoldsOwn g.G.Gate.Owns l.gate l.indexer.place
    × Going (IndexesOnce g.L.SourceLog.told g.L.SourceLog.fault_count g.G.Gate.told g.G.Gate.configured g.G.Gate.Answers) end_of l.counter (reader_at l.fn.indexer l.fn.gate) (reader_at l.indexer l.gate)
    × ((actor : Indexer) (core : Core) (read : Log) → IndexerStands g.L.SourceLog.told g.L.SourceLog.fault_count l.fn.indexer actor core read → g.G.Gate.Stands l.fn.gate core read →
    SoFar g.G.Gate.Stands g.G.Gate.Adds (IndexerStep g.G.Gate.Between read) core_there end_of (Holds g.L.SourceLog.told g.L.SourceLog.fault_count read l.indexer) l.counter (indexer_at actor core) read l.fn.gate l.gate)
