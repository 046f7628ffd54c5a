use Rattle.quick_node.proofs.Quiet.{drive_tells}
use Rattle.quick_node.proofs.laws.the_status_of_drive_tells_the_objects.Goals as goal

pub returns : goal.returns
returns c = drive_tells
