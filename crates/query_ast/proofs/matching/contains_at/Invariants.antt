use Rattle.std.proofs.Common.{◌≡◌, drop}
use Rattle.query_ast.specs.Meaning.{has_token_at}
use Rattle.query_ast.proofs.matching.contains_at.Given as goal

abbrev pub invariant-loop-t : goal.invariant-loop-t
invariant-loop-t l = has_token_at l.text l.shift l.from (drop l.t-index l.tokens) ≡ has_token_at l.text l.shift l.from l.tokens
