use Rattle.doc_sets.proofs.Prefixes.{prefix_is_begins}
use Rattle.doc_sets.proofs.laws.prefix_by_keys.Goals as goal

pub returns : goal.returns
returns c = prefix_is_begins
