use Rattle.std.proofs.Common.{◌≡◌, [], sym}
use Rattle.indexing_run.specs.Standing.{left_of}
use Rattle.indexing_run.proofs.Ended.{if_none, none_left}
use Rattle.indexing_run.proofs.batch.Batch.next_read.Goals as goal

pub returns-in_err-mark-clause-none : goal.returns-in_err-mark-clause-none
returns-in_err-mark-clause-none c = if_none c.from_residual.result (left_of c.args.self.now.queue ≡ []) (none_left (left_of c.args.self.now.queue) (sym c.in_err-mark.ensures))
