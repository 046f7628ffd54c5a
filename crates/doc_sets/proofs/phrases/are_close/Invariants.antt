use Rattle.std.proofs.Common.{◌≡◌, drop}
use Rattle.doc_sets.specs.Asked.{are_close}
use Rattle.doc_sets.proofs.phrases.are_close.Given as goal

abbrev pub invariant-loop-token : goal.invariant-loop-token
invariant-loop-token l = are_close l.from (drop l.token-index l.phrase) ≡ are_close l.from l.phrase
