use Rattle.quick_node.proofs.Onces.{holds_once}
use Rattle.quick_node.proofs.laws.an_index_holds_each_record_once.Goals as goal

pub returns : goal.returns
returns c = holds_once
