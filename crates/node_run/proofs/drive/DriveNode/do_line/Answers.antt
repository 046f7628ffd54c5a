use Rattle.std.proofs.Common.{sym, subst}
use Rattle.node_run.specs.Lines.{IsWellFormed}
use Rattle.node_run.specs.Seen.{seen}
use Rattle.node_run.specs.Standing.{DoesMost}
use Rattle.node_run.specs.declared.line.Line.{Line}
use Rattle.std.specs.Prelude.{IfOk}
use Rattle.node_run.specs.Printing.{PrintsLine}
use Rattle.node_run.proofs.drive.DriveNode.do_line.Goals as goal

pub returns-in-At-clause-does : goal.returns-in-At-clause-does
returns-in-At-clause-does g c = λ firsts node s f.
    subst (λ (l : Line). DoesMost g.L.SourceLog.told g.L.SourceLog.fault_count g.L.SourceLog.since firsts node (seen l) c.at_line.result c.at_line.new.self) (sym c.in-At.is)
    (c.at_line.ensures.does firsts node s (subst (λ (l : Line). IsWellFormed (seen l)) c.in-At.is f))

pub returns-in-Assign-clause-does : goal.returns-in-Assign-clause-does
returns-in-Assign-clause-does g c = λ firsts node s f.
    subst (λ (l : Line). DoesMost g.L.SourceLog.told g.L.SourceLog.fault_count g.L.SourceLog.since firsts node (seen l) c.assign_line.result c.assign_line.new.self) (sym c.in-Assign.is)
    (c.assign_line.ensures.does firsts node s (subst (λ (l : Line). IsWellFormed (seen l)) c.in-Assign.is f).1)

pub returns-in-Indexer-clause-does : goal.returns-in-Indexer-clause-does
returns-in-Indexer-clause-does g c = λ firsts node s f.
    subst (λ (l : Line). DoesMost g.L.SourceLog.told g.L.SourceLog.fault_count g.L.SourceLog.since firsts node (seen l) c.indexer_line.result c.indexer_line.new.self) (sym c.in-Indexer.is)
    (c.indexer_line.ensures.does firsts node s)

pub returns-in-RestartIndexer-clause-does : goal.returns-in-RestartIndexer-clause-does
returns-in-RestartIndexer-clause-does g c = λ firsts node s f.
    subst (λ (l : Line). DoesMost g.L.SourceLog.told g.L.SourceLog.fault_count g.L.SourceLog.since firsts node (seen l) c.restart_indexer.result c.restart_indexer.new.self) (sym c.in-RestartIndexer.is)
    (c.restart_indexer.ensures.does firsts node s)

pub returns-in-RestartClient-clause-does : goal.returns-in-RestartClient-clause-does
returns-in-RestartClient-clause-does g c = λ firsts node s f.
    subst (λ (l : Line). DoesMost g.L.SourceLog.told g.L.SourceLog.fault_count g.L.SourceLog.since firsts node (seen l) c.restart_client.result c.restart_client.new.self) (sym c.in-RestartClient.is)
    (c.restart_client.ensures.does firsts node s)

pub returns-in-Merger-clause-does : goal.returns-in-Merger-clause-does
returns-in-Merger-clause-does g c = λ firsts node s f.
    subst (λ (l : Line). DoesMost g.L.SourceLog.told g.L.SourceLog.fault_count g.L.SourceLog.since firsts node (seen l) c.merger_line.result c.merger_line.new.self) (sym c.in-Merger.is)
    (c.merger_line.ensures.does firsts node s)

pub returns-in-RestartMerger-clause-does : goal.returns-in-RestartMerger-clause-does
returns-in-RestartMerger-clause-does g c = λ firsts node s f.
    subst (λ (l : Line). DoesMost g.L.SourceLog.told g.L.SourceLog.fault_count g.L.SourceLog.since firsts node (seen l) c.restart_merger.result c.restart_merger.new.self) (sym c.in-RestartMerger.is)
    (c.restart_merger.ensures.does firsts node s)

pub returns-in-Deleter-clause-does : goal.returns-in-Deleter-clause-does
returns-in-Deleter-clause-does g c = λ firsts node s f.
    subst (λ (l : Line). DoesMost g.L.SourceLog.told g.L.SourceLog.fault_count g.L.SourceLog.since firsts node (seen l) c.deleter_line.result c.deleter_line.new.self) (sym c.in-Deleter.is)
    (c.deleter_line.ensures.does firsts node s)

pub returns-in-RestartDeleter-clause-does : goal.returns-in-RestartDeleter-clause-does
returns-in-RestartDeleter-clause-does g c = λ firsts node s f.
    subst (λ (l : Line). DoesMost g.L.SourceLog.told g.L.SourceLog.fault_count g.L.SourceLog.since firsts node (seen l) c.restart_deleter.result c.restart_deleter.new.self) (sym c.in-RestartDeleter.is)
    (c.restart_deleter.ensures.does firsts node s)

pub returns-in-Collector-clause-does : goal.returns-in-Collector-clause-does
returns-in-Collector-clause-does g c = λ firsts node s f.
    subst (λ (l : Line). DoesMost g.L.SourceLog.told g.L.SourceLog.fault_count g.L.SourceLog.since firsts node (seen l) c.collector_line.result c.collector_line.new.self) (sym c.in-Collector.is)
    (c.collector_line.ensures.does firsts node s)

pub returns-in-RestartCollector-clause-does : goal.returns-in-RestartCollector-clause-does
returns-in-RestartCollector-clause-does g c = λ firsts node s f.
    subst (λ (l : Line). DoesMost g.L.SourceLog.told g.L.SourceLog.fault_count g.L.SourceLog.since firsts node (seen l) c.restart_collector.result c.restart_collector.new.self) (sym c.in-RestartCollector.is)
    (c.restart_collector.ensures.does firsts node s)

pub returns-in-RestartNode-clause-does : goal.returns-in-RestartNode-clause-does
returns-in-RestartNode-clause-does g c = λ firsts node s f.
    subst (λ (l : Line). DoesMost g.L.SourceLog.told g.L.SourceLog.fault_count g.L.SourceLog.since firsts node (seen l) c.restart_node.result c.restart_node.new.self) (sym c.in-RestartNode.is)
    (c.restart_node.ensures.does firsts node s)

pub returns-in-Client-clause-does : goal.returns-in-Client-clause-does
returns-in-Client-clause-does g c = λ firsts node s f.
    subst (λ (l : Line). DoesMost g.L.SourceLog.told g.L.SourceLog.fault_count g.L.SourceLog.since firsts node (seen l) c.client_line.result c.client_line.new.self) (sym c.in-Client.is)
    (c.client_line.ensures.does firsts node s)

pub returns-in-At-clause-prints : goal.returns-in-At-clause-prints
returns-in-At-clause-prints g c =
    subst (λ (l : Line). IfOk c.at_line.result (λ out. PrintsLine g.L.SourceLog.told g.L.SourceLog.fault_count (seen l) c.args.self.now c.at_line.new.self out.bytes)) (sym c.in-At.is) c.at_line.ensures.prints

pub returns-in-Assign-clause-prints : goal.returns-in-Assign-clause-prints
returns-in-Assign-clause-prints g c =
    subst (λ (l : Line). IfOk c.assign_line.result (λ out. PrintsLine g.L.SourceLog.told g.L.SourceLog.fault_count (seen l) c.args.self.now c.assign_line.new.self out.bytes)) (sym c.in-Assign.is) c.assign_line.ensures.prints

pub returns-in-Indexer-clause-prints : goal.returns-in-Indexer-clause-prints
returns-in-Indexer-clause-prints g c =
    subst (λ (l : Line). IfOk c.indexer_line.result (λ out. PrintsLine g.L.SourceLog.told g.L.SourceLog.fault_count (seen l) c.args.self.now c.indexer_line.new.self out.bytes)) (sym c.in-Indexer.is) c.indexer_line.ensures.prints

pub returns-in-RestartIndexer-clause-prints : goal.returns-in-RestartIndexer-clause-prints
returns-in-RestartIndexer-clause-prints g c =
    subst (λ (l : Line). IfOk c.restart_indexer.result (λ out. PrintsLine g.L.SourceLog.told g.L.SourceLog.fault_count (seen l) c.args.self.now c.restart_indexer.new.self out.bytes)) (sym c.in-RestartIndexer.is) c.restart_indexer.ensures.prints

pub returns-in-RestartClient-clause-prints : goal.returns-in-RestartClient-clause-prints
returns-in-RestartClient-clause-prints g c =
    subst (λ (l : Line). IfOk c.restart_client.result (λ out. PrintsLine g.L.SourceLog.told g.L.SourceLog.fault_count (seen l) c.args.self.now c.restart_client.new.self out.bytes)) (sym c.in-RestartClient.is) c.restart_client.ensures.prints

pub returns-in-Merger-clause-prints : goal.returns-in-Merger-clause-prints
returns-in-Merger-clause-prints g c =
    subst (λ (l : Line). IfOk c.merger_line.result (λ out. PrintsLine g.L.SourceLog.told g.L.SourceLog.fault_count (seen l) c.args.self.now c.merger_line.new.self out.bytes)) (sym c.in-Merger.is) c.merger_line.ensures.prints

pub returns-in-RestartMerger-clause-prints : goal.returns-in-RestartMerger-clause-prints
returns-in-RestartMerger-clause-prints g c =
    subst (λ (l : Line). IfOk c.restart_merger.result (λ out. PrintsLine g.L.SourceLog.told g.L.SourceLog.fault_count (seen l) c.args.self.now c.restart_merger.new.self out.bytes)) (sym c.in-RestartMerger.is) c.restart_merger.ensures.prints

pub returns-in-Deleter-clause-prints : goal.returns-in-Deleter-clause-prints
returns-in-Deleter-clause-prints g c =
    subst (λ (l : Line). IfOk c.deleter_line.result (λ out. PrintsLine g.L.SourceLog.told g.L.SourceLog.fault_count (seen l) c.args.self.now c.deleter_line.new.self out.bytes)) (sym c.in-Deleter.is) c.deleter_line.ensures.prints

pub returns-in-RestartDeleter-clause-prints : goal.returns-in-RestartDeleter-clause-prints
returns-in-RestartDeleter-clause-prints g c =
    subst (λ (l : Line). IfOk c.restart_deleter.result (λ out. PrintsLine g.L.SourceLog.told g.L.SourceLog.fault_count (seen l) c.args.self.now c.restart_deleter.new.self out.bytes)) (sym c.in-RestartDeleter.is) c.restart_deleter.ensures.prints

pub returns-in-Collector-clause-prints : goal.returns-in-Collector-clause-prints
returns-in-Collector-clause-prints g c =
    subst (λ (l : Line). IfOk c.collector_line.result (λ out. PrintsLine g.L.SourceLog.told g.L.SourceLog.fault_count (seen l) c.args.self.now c.collector_line.new.self out.bytes)) (sym c.in-Collector.is) c.collector_line.ensures.prints

pub returns-in-RestartCollector-clause-prints : goal.returns-in-RestartCollector-clause-prints
returns-in-RestartCollector-clause-prints g c =
    subst (λ (l : Line). IfOk c.restart_collector.result (λ out. PrintsLine g.L.SourceLog.told g.L.SourceLog.fault_count (seen l) c.args.self.now c.restart_collector.new.self out.bytes)) (sym c.in-RestartCollector.is) c.restart_collector.ensures.prints

pub returns-in-RestartNode-clause-prints : goal.returns-in-RestartNode-clause-prints
returns-in-RestartNode-clause-prints g c =
    subst (λ (l : Line). IfOk c.restart_node.result (λ out. PrintsLine g.L.SourceLog.told g.L.SourceLog.fault_count (seen l) c.args.self.now c.restart_node.new.self out.bytes)) (sym c.in-RestartNode.is) c.restart_node.ensures.prints

pub returns-in-Client-clause-prints : goal.returns-in-Client-clause-prints
returns-in-Client-clause-prints g c =
    subst (λ (l : Line). IfOk c.client_line.result (λ out. PrintsLine g.L.SourceLog.told g.L.SourceLog.fault_count (seen l) c.args.self.now c.client_line.new.self out.bytes)) (sym c.in-Client.is) c.client_line.ensures.prints
