use Rattle.thread_run.proofs.RunSays.{run_says}
use Rattle.thread_run.proofs.run_laws.run_says.Goals as goal

pub returns : goal.returns
returns g c = λ config log core end exit turns begun last jobs done run telling is_log stands configured ends counted on at_exit texts tell within.
    run_says g.M.SourceLog.told g.L.SourceLog.told g.L.SourceLog.fault_count g.L.SourceLog.since turns begun jobs last done run config log telling is_log core end exit stands configured ends counted on at_exit texts tell within
