use Rattle.quick_node.proofs.Quiet.{report_tells}
use Rattle.quick_node.proofs.laws.the_status_of_a_report_tells_the_objects.Goals as goal

pub returns : goal.returns
returns c = report_tells
