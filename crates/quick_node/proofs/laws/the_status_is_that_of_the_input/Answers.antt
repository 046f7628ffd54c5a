use Rattle.quick_node.proofs.Exact.{exact_status}
use Rattle.quick_node.proofs.laws.the_status_is_that_of_the_input.Goals as goal

pub returns : goal.returns
returns c = exact_status
