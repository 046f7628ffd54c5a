use Rattle.quick_node.proofs.NewIndex.{new_index_enters}
use Rattle.quick_node.proofs.laws.a_new_index_enters.Goals as goal

pub returns : goal.returns
returns c = new_index_enters
