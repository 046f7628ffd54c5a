use Rattle.meta_store.proofs.Answered.{answered}
use Rattle.meta_store.proofs.laws.answered.Goals as goal

pub returns : goal.returns
returns c = answered
