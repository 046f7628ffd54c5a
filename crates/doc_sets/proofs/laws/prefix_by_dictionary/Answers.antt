use Rattle.doc_sets.proofs.Beginnings.{begins_is_some}
use Rattle.doc_sets.proofs.laws.prefix_by_dictionary.Goals as goal

pub returns : goal.returns
returns c = begins_is_some
