use Rattle.std.proofs.Common.{◌≡◌, drop}
use Rattle.query_ast.specs.Pruning.{is_listed}
use Rattle.query_ast.proofs.pruning.contains_term.Given as goal

abbrev pub invariant-loop-term : goal.invariant-loop-term
invariant-loop-term l = is_listed l.bytes (drop l.term-index l.terms) ≡ is_listed l.bytes l.terms
