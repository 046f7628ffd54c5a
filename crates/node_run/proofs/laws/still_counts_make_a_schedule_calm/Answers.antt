use Rattle.node_run.proofs.CalmTurns.{calm_turns}
use Rattle.node_run.proofs.laws.still_counts_make_a_schedule_calm.Goals as goal

pub returns : goal.returns
returns c = calm_turns
