use Rattle.node_run.proofs.Spelling.{spells_one}
use Rattle.node_run.proofs.laws.a_text_is_one_line.Goals as goal

pub returns : goal.returns
returns c = spells_one
