use Rattle.std.proofs.Common.{◌≡◌, drop}
use Rattle.query_ast.specs.Meaning.{some_has_phrase}
use Rattle.query_ast.proofs.matching.some_contains_phrase.Given as goal

abbrev pub invariant-loop-v : goal.invariant-loop-v
invariant-loop-v l = some_has_phrase l.field l.phrase (drop l.v-index l.values) ≡ some_has_phrase l.field l.phrase l.values
