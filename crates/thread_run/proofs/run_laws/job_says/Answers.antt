use Rattle.thread_run.proofs.JobSays.{job_says}
use Rattle.thread_run.proofs.run_laws.job_says.Goals as goal

pub returns : goal.returns
returns g c = λ config log first last exit turns job done made is_log sound configured going at_last counted on at_exit texts tell within called did.
    job_says g.L.SourceLog.told g.L.SourceLog.fault_count config log is_log first last exit sound configured at_last at_exit on counted texts turns made called going job done tell within did
