use Rattle.thread_run.proofs.Calmed.{calm_done}
use Rattle.thread_run.proofs.run_laws.calm_says.Goals as goal

pub returns : goal.returns
returns g c = λ config log entries least core exit turns calls job done still logs says. calm_done config log entries least core exit still g.L.SourceLog.fault_count turns calls job done logs says
