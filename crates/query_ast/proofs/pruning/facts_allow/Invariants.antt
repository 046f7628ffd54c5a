use Rattle.std.proofs.Common.{◌≡◌, drop}
use Rattle.query_ast.specs.Pruning.{allowed, term_of}
use Rattle.query_ast.proofs.pruning.facts_allow.Given as goal

abbrev pub invariant-loop-field : goal.invariant-loop-field
invariant-loop-field l = allowed (drop l.field-index l.facts) l.number (term_of l.kind l.text) ≡ allowed l.facts l.number (term_of l.kind l.text)
