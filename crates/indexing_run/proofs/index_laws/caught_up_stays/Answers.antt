use Rattle.indexing_run.proofs.Caught.{ends_at_exit}
use Rattle.indexing_run.proofs.index_laws.caught_up_stays.Goals as goal

pub returns : goal.returns
returns g c = λ log turns reader indexer core after exit made idled did later sound. ends_at_exit _ _ _ log turns reader indexer core made after exit idled did later sound
