use Rattle.split_bundle.proofs.ViewsLent.{index_given}
use Rattle.split_bundle.proofs.split_view.SplitView.block_index.Goals as goal

pub returns-clause-only : goal.returns-clause-only
returns-clause-only c s documents p is = index_given c.args.self.now s documents p is c.read_index.result c.read_index.ensures.exact
