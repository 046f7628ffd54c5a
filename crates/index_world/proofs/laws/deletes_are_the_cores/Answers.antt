use Rattle.index_world.proofs.DeleteCalls.{world_deletes}
use Rattle.index_world.proofs.Journals.{once}
use Rattle.index_world.proofs.laws.deletes_are_the_cores.Goals as goal

pub returns : goal.returns
returns c = world_deletes once
