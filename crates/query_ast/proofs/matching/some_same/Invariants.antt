use Rattle.std.proofs.Common.{◌≡◌, drop, Some}
use Rattle.query_ast.specs.Meaning.{equals_some}
use Rattle.query_ast.proofs.matching.some_same.Given as goal

abbrev pub invariant-loop-v : goal.invariant-loop-v
invariant-loop-v l = equals_some (Some l.wanted) (drop l.v-index l.values) ≡ equals_some (Some l.wanted) l.values
