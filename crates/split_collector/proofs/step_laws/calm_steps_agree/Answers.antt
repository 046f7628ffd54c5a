use Rattle.split_collector.proofs.OnePage.{calm_same}
use Rattle.split_collector.proofs.step_laws.calm_steps_agree.Goals as goal

pub returns : goal.returns
returns c = calm_same
