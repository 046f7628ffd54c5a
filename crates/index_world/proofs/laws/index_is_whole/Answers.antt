use Rattle.index_world.proofs.WholeIndex.{one_index}
use Rattle.index_world.proofs.laws.index_is_whole.Goals as goal

pub returns : goal.returns
returns c = one_index
