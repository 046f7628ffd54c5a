use Rattle.node_run.proofs.CollectorCalms.{collector_calms}
use Rattle.node_run.proofs.laws.a_still_count_makes_a_collector_step_calm.Goals as goal

pub returns : goal.returns
returns c = collector_calms
