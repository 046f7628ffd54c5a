use Rattle.std.proofs.Common.{◌≡◌, drop}
use Rattle.query_ast.specs.Meaning.{has_prefix}
use Rattle.query_ast.proofs.matching.contains_prefix.Given as goal

abbrev pub invariant-loop-t : goal.invariant-loop-t
invariant-loop-t l = has_prefix l.text (drop l.t-index l.tokens) ≡ has_prefix l.text l.tokens
