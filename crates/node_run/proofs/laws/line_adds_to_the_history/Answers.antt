use Rattle.node_run.proofs.Moving.{turn_later}
use Rattle.node_run.proofs.laws.line_adds_to_the_history.Goals as goal

pub returns : goal.returns
returns c = λ node line said last turn. (turn_later node line said last turn).grows
