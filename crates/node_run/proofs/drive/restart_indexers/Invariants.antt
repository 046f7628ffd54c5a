use Rattle.node_run.specs.Each.{ChangedUpTo}
use Rattle.node_run.specs.Restarting.{Restarted}
use Rattle.node_run.proofs.drive.restart_indexers.Given as goal

abbrev pub invariant-loop-i : goal.invariant-loop-i
invariant-loop-i g l = ChangedUpTo (Restarted g.L.SourceLog.told g.L.SourceLog.fault_count) l.i l.initial.indexers l.indexers
