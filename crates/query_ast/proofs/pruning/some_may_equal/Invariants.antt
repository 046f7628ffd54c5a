use Rattle.std.proofs.Common.{◌≡◌, drop}
use Rattle.query_ast.specs.Pruning.{some_can_equal}
use Rattle.query_ast.proofs.pruning.some_may_equal.Given as goal

abbrev pub invariant-loop-item : goal.invariant-loop-item
invariant-loop-item l = some_can_equal l.schema l.facts l.number (drop l.item-index l.items) ≡ some_can_equal l.schema l.facts l.number l.items
