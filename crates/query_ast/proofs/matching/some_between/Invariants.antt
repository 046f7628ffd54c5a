use Rattle.std.proofs.Common.{◌≡◌, drop}
use Rattle.query_ast.specs.Meaning.{between}
use Rattle.query_ast.proofs.matching.some_between.Given as goal

abbrev pub invariant-loop-v : goal.invariant-loop-v
invariant-loop-v l = between l.low l.high (drop l.v-index l.values) ≡ between l.low l.high l.values
