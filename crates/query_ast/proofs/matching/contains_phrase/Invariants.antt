use Rattle.std.proofs.Common.{◌≡◌, drop}
use Rattle.query_ast.specs.Meaning.{stands_at_one}
use Rattle.query_ast.proofs.matching.contains_phrase.Given as goal

abbrev pub invariant-loop-t : goal.invariant-loop-t
invariant-loop-t l = stands_at_one l.phrase l.from (drop l.t-index l.tokens) l.tokens ≡ stands_at_one l.phrase l.from l.tokens l.tokens
