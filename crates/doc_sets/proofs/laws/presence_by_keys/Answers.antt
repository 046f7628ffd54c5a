use Rattle.doc_sets.proofs.Presence.{presence_is_key}
use Rattle.doc_sets.proofs.laws.presence_by_keys.Goals as goal

pub returns : goal.returns
returns c = presence_is_key
