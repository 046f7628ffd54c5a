use Rattle.std.proofs.Common.{◌≡◌, drop}
use Rattle.query_ast.specs.Meaning.{has_token}
use Rattle.query_ast.proofs.matching.contains.Given as goal

abbrev pub invariant-loop-t : goal.invariant-loop-t
invariant-loop-t l = has_token l.text (drop l.t-index l.tokens) ≡ has_token l.text l.tokens
