use Rattle.node_run.proofs.CalmSteps.{indexer_calms}
use Rattle.node_run.proofs.laws.a_still_count_makes_an_indexer_step_calm.Goals as goal

pub returns : goal.returns
returns c = indexer_calms
