use Rattle.index_world.proofs.Gates.{frozen_asks}
use Rattle.index_world.proofs.laws.frozen_asks_nothing.Goals as goal

pub returns : goal.returns
returns c = frozen_asks
