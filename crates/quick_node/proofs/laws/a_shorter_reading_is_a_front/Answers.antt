use Rattle.quick_node.proofs.InOneWay.{stopped_is_front}
use Rattle.quick_node.proofs.laws.a_shorter_reading_is_a_front.Goals as goal

pub returns : goal.returns
returns c = stopped_is_front
