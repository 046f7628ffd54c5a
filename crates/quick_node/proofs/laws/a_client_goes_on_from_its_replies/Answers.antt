use Rattle.quick_node.proofs.Fronts.{goes_on_from}
use Rattle.quick_node.proofs.laws.a_client_goes_on_from_its_replies.Goals as goal

pub returns : goal.returns
returns c = goes_on_from
