use Rattle.std.proofs.Common.{◌≡◌, ◌++◌, drop}
use Rattle.doc_sets.proofs.Looked.{each_looked}
use Rattle.doc_sets.proofs.text_lookups.add_tokens.Given as goal

abbrev pub invariant-loop-token : goal.invariant-loop-token
invariant-loop-token l = l.lookups ++ each_looked l.several l.number (drop l.token-index l.tokens) ≡ l.fn.lookups ++ each_looked l.several l.number l.tokens
