use Rattle.quick_node.proofs.DriveRun.{run_lives}
use Rattle.quick_node.proofs.laws.a_run_is_what_the_call_did.Goals as goal

pub returns : goal.returns
returns c before fresh opened opens = run_lives before fresh opened opens
