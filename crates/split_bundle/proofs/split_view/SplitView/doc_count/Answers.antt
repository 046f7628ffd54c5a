use Rattle.std.proofs.Common.{◌∙◌}
use Rattle.split_bundle.proofs.split_view.SplitView.doc_count.Goals as goal

pub returns-clause-only : goal.returns-clause-only
returns-clause-only c s documents p is = is.layout.docs ∙ is.is_split.docs
