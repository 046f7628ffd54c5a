use Rattle.meta_store.proofs.Counted.{counted}
use Rattle.meta_store.proofs.laws.counted.Goals as goal

pub returns : goal.returns
returns c = counted
