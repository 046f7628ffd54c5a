use Rattle.indexing_run.proofs.Turns.{turns_few}
use Rattle.indexing_run.proofs.index_laws.turns_are_few.Goals as goal

pub returns : goal.returns
returns g c = λ log turns reader indexer core after made entries idled did few. turns_few _ _ _ g.met.G.Gate.between_goes log turns reader indexer core after made entries idled did few
