use Rattle.indexing_run.proofs.Turns.{turns_enough}
use Rattle.indexing_run.proofs.index_laws.turns_are_enough.Goals as goal

pub returns : goal.returns
returns g c = λ log end reader indexer core after exit made idled many did later sound. turns_enough _ _ _ g.met.G.Gate.between_goes log end reader indexer core after exit made idled many did later sound
