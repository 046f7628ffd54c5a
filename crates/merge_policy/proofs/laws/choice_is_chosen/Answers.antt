use Rattle.merge_policy.proofs.Picked.{chosen_is}
use Rattle.merge_policy.proofs.laws.choice_is_chosen.Goals as goal

pub returns : goal.returns
returns c policy target now rows ranges rise = chosen_is policy target now rows ranges rise
