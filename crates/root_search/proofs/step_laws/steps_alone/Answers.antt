use Rattle.root_search.proofs.Steps.{step_alone}
use Rattle.root_search.proofs.step_laws.steps_alone.Goals as goal

pub returns : goal.returns
returns c = step_alone
