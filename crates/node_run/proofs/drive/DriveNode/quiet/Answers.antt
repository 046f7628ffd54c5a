use Rattle.node_run.proofs.Parts.{quiet_along}
use Rattle.node_run.proofs.drive.DriveNode.quiet.Goals as goal

pub returns-in-Assign : goal.returns-in-Assign
returns-in-Assign g c = λ firsts node p.
    quiet_along {S = g.row.S.Denot} g.L.SourceLog.told g.L.SourceLog.fault_count g.L.SourceLog.since firsts node c.args.line.now _ c.quiet_indexer.new.self c.in-Assign.is (c.quiet_indexer.ensures firsts node p)

pub returns-in-Indexer : goal.returns-in-Indexer
returns-in-Indexer g c = λ firsts node p.
    quiet_along {S = g.row.S.Denot} g.L.SourceLog.told g.L.SourceLog.fault_count g.L.SourceLog.since firsts node c.args.line.now _ c.quiet_indexer-in-Indexer.new.self c.in-Indexer.is (c.quiet_indexer-in-Indexer.ensures firsts node p)

pub returns-in-RestartIndexer : goal.returns-in-RestartIndexer
returns-in-RestartIndexer g c = λ firsts node p.
    quiet_along {S = g.row.S.Denot} g.L.SourceLog.told g.L.SourceLog.fault_count g.L.SourceLog.since firsts node c.args.line.now _ c.quiet_indexer-in-RestartIndexer.new.self c.in-RestartIndexer.is (c.quiet_indexer-in-RestartIndexer.ensures firsts node p)

pub returns-in-RestartClient : goal.returns-in-RestartClient
returns-in-RestartClient g c = λ firsts node p.
    quiet_along {S = g.row.S.Denot} g.L.SourceLog.told g.L.SourceLog.fault_count g.L.SourceLog.since firsts node c.args.line.now _ c.quiet_client.new.self c.in-RestartClient.is (c.quiet_client.ensures firsts node p)

pub returns-in-Merger : goal.returns-in-Merger
returns-in-Merger g c = λ firsts node p.
    quiet_along {S = g.row.S.Denot} g.L.SourceLog.told g.L.SourceLog.fault_count g.L.SourceLog.since firsts node c.args.line.now _ c.quiet_merger.new.self c.in-Merger.is (c.quiet_merger.ensures firsts node p)

pub returns-in-RestartMerger : goal.returns-in-RestartMerger
returns-in-RestartMerger g c = λ firsts node p.
    quiet_along {S = g.row.S.Denot} g.L.SourceLog.told g.L.SourceLog.fault_count g.L.SourceLog.since firsts node c.args.line.now _ c.quiet_merger-in-RestartMerger.new.self c.in-RestartMerger.is (c.quiet_merger-in-RestartMerger.ensures firsts node p)

pub returns-in-Deleter : goal.returns-in-Deleter
returns-in-Deleter g c = λ firsts node p.
    quiet_along {S = g.row.S.Denot} g.L.SourceLog.told g.L.SourceLog.fault_count g.L.SourceLog.since firsts node c.args.line.now _ c.quiet_deleter.new.self c.in-Deleter.is (c.quiet_deleter.ensures firsts node p)

pub returns-in-RestartDeleter : goal.returns-in-RestartDeleter
returns-in-RestartDeleter g c = λ firsts node p.
    quiet_along {S = g.row.S.Denot} g.L.SourceLog.told g.L.SourceLog.fault_count g.L.SourceLog.since firsts node c.args.line.now _ c.quiet_deleter-in-RestartDeleter.new.self c.in-RestartDeleter.is (c.quiet_deleter-in-RestartDeleter.ensures firsts node p)

pub returns-in-Collector : goal.returns-in-Collector
returns-in-Collector g c = λ firsts node p.
    quiet_along {S = g.row.S.Denot} g.L.SourceLog.told g.L.SourceLog.fault_count g.L.SourceLog.since firsts node c.args.line.now _ c.args.self.now c.in-Collector.is p

pub returns-in-RestartCollector : goal.returns-in-RestartCollector
returns-in-RestartCollector g c = λ firsts node p.
    quiet_along {S = g.row.S.Denot} g.L.SourceLog.told g.L.SourceLog.fault_count g.L.SourceLog.since firsts node c.args.line.now _ c.args.self.now c.in-RestartCollector.is p

pub returns-in-RestartNode : goal.returns-in-RestartNode
returns-in-RestartNode g c = λ firsts node p.
    quiet_along {S = g.row.S.Denot} g.L.SourceLog.told g.L.SourceLog.fault_count g.L.SourceLog.since firsts node c.args.line.now _ c.stop.new.self c.in-RestartNode.is (c.stop.ensures.does firsts node p)

pub returns-in-Open : goal.returns-in-Open
returns-in-Open g c = λ firsts node p.
    quiet_along {S = g.row.S.Denot} g.L.SourceLog.told g.L.SourceLog.fault_count g.L.SourceLog.since firsts node c.args.line.now _ c.quiet_client-in-Open.new.self c.in-Open.is (c.quiet_client-in-Open.ensures firsts node p)

pub returns-in-Client : goal.returns-in-Client
returns-in-Client g c = λ firsts node p.
    quiet_along {S = g.row.S.Denot} g.L.SourceLog.told g.L.SourceLog.fault_count g.L.SourceLog.since firsts node c.args.line.now _ c.quiet_client-in-Client.new.self c.in-Client.is (c.quiet_client-in-Client.ensures firsts node p)
