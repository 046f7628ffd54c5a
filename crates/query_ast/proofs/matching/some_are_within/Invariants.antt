use Rattle.std.proofs.Common.{◌≡◌, drop}
use Rattle.query_ast.specs.Meaning.{some_within}
use Rattle.query_ast.proofs.matching.some_are_within.Given as goal

abbrev pub invariant-loop-value : goal.invariant-loop-value
invariant-loop-value l = some_within l.times (drop l.value-index l.values) ≡ some_within l.times l.values
