use Rattle.node_run.proofs.WorkerCalms.{worker_calms}
use Rattle.node_run.proofs.laws.a_still_count_makes_a_worker_step_calm.Goals as goal

pub returns : goal.returns
returns c = λ aim luck log worker core still same. worker_calms luck log core still aim worker same
