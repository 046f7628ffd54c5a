use Rattle.std.proofs.Common.{◌≡◌, drop}
use Rattle.query_ast.specs.Pruning.{has_list}
use Rattle.query_ast.proofs.pruning.lists_values.Given as goal

abbrev pub invariant-loop-field : goal.invariant-loop-field
invariant-loop-field l = has_list (drop l.field-index l.facts) l.number ≡ has_list l.facts l.number
