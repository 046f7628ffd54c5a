use Rattle.quick_node.proofs.NodeAtEnd.{lives_follow}
use Rattle.quick_node.proofs.laws.replies_are_right.Goals as goal

pub returns : goal.returns
returns c = lives_follow
