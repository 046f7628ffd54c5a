use Rattle.index_world.proofs.StoreCalls.{index-creates}
use Rattle.index_world.proofs.laws.create_keeps.Goals as goal

pub returns : goal.returns
returns c = index-creates
