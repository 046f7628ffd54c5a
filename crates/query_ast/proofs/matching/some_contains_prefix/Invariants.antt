use Rattle.std.proofs.Common.{◌≡◌, drop}
use Rattle.query_ast.specs.Meaning.{some_has_prefix}
use Rattle.query_ast.proofs.matching.some_contains_prefix.Given as goal

abbrev pub invariant-loop-v : goal.invariant-loop-v
invariant-loop-v l = some_has_prefix l.field l.text (drop l.v-index l.values) ≡ some_has_prefix l.field l.text l.values
