use Rattle.input_lines.proofs.Asking.{no_clients}
use Rattle.input_lines.proofs.requests.Taken.vacant.Goals as goal

pub returns-clause-clients : goal.returns-clause-clients
returns-clause-clients c = no_clients c.new-2.result.keys c.new-2.ensures.empty
