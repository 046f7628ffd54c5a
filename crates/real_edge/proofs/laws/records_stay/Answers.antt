use Rattle.real_edge.proofs.Logs.{log-extends}
use Rattle.real_edge.proofs.laws.records_stay.Goals as goal

pub returns : goal.returns
returns c = log-extends
