use Rattle.doc_sets.proofs.ValueKeys.{value_is_key}
use Rattle.doc_sets.proofs.laws.value_by_keys.Goals as goal

pub returns : goal.returns
returns c = value_is_key
