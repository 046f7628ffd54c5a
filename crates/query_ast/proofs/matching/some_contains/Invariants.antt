use Rattle.std.proofs.Common.{◌≡◌, drop}
use Rattle.query_ast.specs.Meaning.{some_has_token}
use Rattle.query_ast.proofs.matching.some_contains.Given as goal

abbrev pub invariant-loop-v : goal.invariant-loop-v
invariant-loop-v l = some_has_token l.field l.text (drop l.v-index l.values) ≡ some_has_token l.field l.text l.values
