use Rattle.agg_nested.proofs.Plain.{plain_stays}
use Rattle.agg_nested.proofs.laws.plain_answers_stay.Goals as goal

pub returns : goal.returns
returns c = plain_stays
