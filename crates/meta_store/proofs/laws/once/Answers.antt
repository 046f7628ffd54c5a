use Rattle.meta_store.proofs.Sound.{once_always}
use Rattle.meta_store.proofs.laws.once.Goals as goal

pub returns : goal.returns
returns c = once_always
