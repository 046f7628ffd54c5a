use Rattle.doc_sets.proofs.PhraseKeys.{run_is_phrase}
use Rattle.doc_sets.proofs.laws.phrase_by_keys.Goals as goal

pub returns : goal.returns
returns c = run_is_phrase
