use Rattle.doc_sets.proofs.PlaceKeys.{token_is_key}
use Rattle.doc_sets.proofs.laws.word_by_keys.Goals as goal

pub returns : goal.returns
returns c = token_is_key
