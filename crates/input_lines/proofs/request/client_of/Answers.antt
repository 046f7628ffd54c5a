use Rattle.input_lines.proofs.Naming.{client_utf8}
use Rattle.input_lines.proofs.request.client_of.Goals as goal

pub returns-in_default : goal.returns-in_default
returns-in_default c = λ is. c.in_default.ensures.cases.0 (client_utf8 c.args.word.now is)
