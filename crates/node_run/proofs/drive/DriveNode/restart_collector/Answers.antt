use Rattle.std.proofs.Common.{refl}
use Rattle.node_run.specs.Node as said
use Rattle.node_run.specs.Turns.{calm}
use Rattle.node_run.proofs.Parts.{most_done}
use Rattle.node_run.proofs.drive.DriveNode.restart_collector.Goals as goal

pub returns-clause-does : goal.returns-clause-does
returns-clause-does g c = λ firsts node p.
    most_done g.L.SourceLog.told g.L.SourceLog.fault_count g.L.SourceLog.since firsts node said.RestartCollector _ c.collector_restarted.result calm said.collector_restarted node refl c.collector_restarted.ensures p

pub returns-clause-prints : goal.returns-clause-prints
returns-clause-prints g c = c.collector_restarted.ensures
