use Rattle.quick_node.proofs.NodeAtEnd.{answers_go_on}
use Rattle.quick_node.proofs.laws.answers_go_on_by_one.Goals as goal

pub returns : goal.returns
returns c = answers_go_on
