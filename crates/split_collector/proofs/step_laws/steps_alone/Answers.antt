use Rattle.split_collector.proofs.Alone.{steps_alone_is}
use Rattle.split_collector.proofs.step_laws.steps_alone.Goals as goal

pub returns : goal.returns
returns c = steps_alone_is
