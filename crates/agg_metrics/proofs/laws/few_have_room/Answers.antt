use Rattle.agg_metrics.proofs.Sums.{has_room}
use Rattle.agg_metrics.proofs.laws.few_have_room.Goals as goal

pub returns : goal.returns
returns c = has_room
