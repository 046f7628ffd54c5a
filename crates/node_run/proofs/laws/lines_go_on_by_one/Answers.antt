use Rattle.node_run.proofs.Moving.{turns_go_on}
use Rattle.node_run.proofs.laws.lines_go_on_by_one.Goals as goal

pub returns : goal.returns
returns c = turns_go_on
