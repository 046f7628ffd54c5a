use Rattle.split_collector.proofs.Idling.{had_nothing, nothing_done}
use Rattle.split_collector.proofs.step_laws.nothing_is_exact.Goals as goal

pub returns : goal.returns
returns g c = λ passages core passed. (nothing_done g.G.Gate.Between core passages passed, had_nothing core passages)
