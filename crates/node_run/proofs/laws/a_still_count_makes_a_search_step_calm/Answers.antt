use Rattle.node_run.proofs.CalmSteps.{client_calms}
use Rattle.node_run.proofs.laws.a_still_count_makes_a_search_step_calm.Goals as goal

pub returns : goal.returns
returns c = client_calms
