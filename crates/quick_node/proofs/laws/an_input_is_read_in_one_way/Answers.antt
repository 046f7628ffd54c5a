use Rattle.quick_node.proofs.InOneWay.{reads_in_one_way}
use Rattle.quick_node.proofs.laws.an_input_is_read_in_one_way.Goals as goal

pub returns : goal.returns
returns c = reads_in_one_way
