use Rattle.node_run.proofs.Moving.{turns_later}
use Rattle.node_run.proofs.laws.lines_add_to_the_history.Goals as goal

pub returns : goal.returns
returns c = λ node last lines outcomes run. (turns_later node last lines outcomes run).grows
