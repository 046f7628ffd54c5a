use Rattle.node_run.proofs.Moving.{turns_later}
use Rattle.node_run.proofs.laws.lines_never_lower_the_store_count.Goals as goal

pub returns : goal.returns
returns c = λ node last lines outcomes run. (turns_later node last lines outcomes run).rises
