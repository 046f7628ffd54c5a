use Rattle.split_bundle.proofs.ViewsLent.{view_read}
use Rattle.split_bundle.proofs.whole.read_split.Goals as goal

pub returns-clause-only : goal.returns-clause-only
returns-clause-only c s documents p is e = view_read s documents p c.args.bytes.now c.view_of.result is e c.view_of.ensures.exact c.view_of.ensures.whole
