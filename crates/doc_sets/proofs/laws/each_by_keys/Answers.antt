use Rattle.doc_sets.proofs.PhraseKeys.{each_is_keys}
use Rattle.doc_sets.proofs.laws.each_by_keys.Goals as goal

pub returns : goal.returns
returns c = each_is_keys
