use Rattle.node_run.specs.Logs.{logs_in}
use Rattle.quick_node.proofs.DriveClause.{all_later}
use Rattle.quick_node.proofs.serving.ended.Goals as goal

pub returns-clause-later : goal.returns-clause-later
returns-clause-later g c = all_later g.L.SourceLog.fault_count g.L.SourceLog.since g.met.L.SourceLog.since_itself (logs_in c.args.logs)
