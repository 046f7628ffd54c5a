use Rattle.merge_policy.proofs.Only.{one_choice}
use Rattle.merge_policy.proofs.laws.choice_laws.Goals as goal

pub returns : goal.returns
returns c = one_choice
