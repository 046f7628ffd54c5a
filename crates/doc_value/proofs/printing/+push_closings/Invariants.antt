use Rattle.std.proofs.Common.{length}
use Rattle.doc_value.proofs.printing.+push_closings.Given as goal

abbrev pub decreases-push_closings : goal.decreases-push_closings
decreases-push_closings l = length l.opened.now
