use Rattle.upkeep_run.proofs.Stays.{worker_stays}
use Rattle.upkeep_run.proofs.step_laws.others_leave_it.Goals as goal

pub returns : goal.returns
returns c = λ aim core after log one kept place g legal. worker_stays aim core after log one g legal kept place
