use Rattle.input_lines.proofs.RequestsInOneWay.{requests_in_one_way}
use Rattle.input_lines.proofs.requests.requests_are_read_in_one_way.Goals as goal

pub returns : goal.returns
returns c = requests_in_one_way
