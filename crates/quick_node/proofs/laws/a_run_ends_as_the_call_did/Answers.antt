use Rattle.quick_node.proofs.DriveRun.{run_ends}
use Rattle.quick_node.proofs.laws.a_run_ends_as_the_call_did.Goals as goal

pub returns : goal.returns
returns c = run_ends
