use Rattle.quick_node.proofs.Calmed.{lives_calm}
use Rattle.quick_node.proofs.laws.the_outcomes_are_those_of_the_node.Goals as goal

pub returns : goal.returns
returns c = lives_calm
