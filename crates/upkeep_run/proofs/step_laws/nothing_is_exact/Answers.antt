use Rattle.upkeep_run.proofs.Idling.{delete_none, merge_none, nothing_is}
use Rattle.upkeep_run.proofs.step_laws.nothing_is_exact.Goals as goal

pub returns-clause-step : goal.returns-clause-step
returns-clause-step c = nothing_is

pub returns-clause-merging : goal.returns-clause-merging
returns-clause-merging c = merge_none

pub returns-clause-deleting : goal.returns-clause-deleting
returns-clause-deleting c = delete_none
