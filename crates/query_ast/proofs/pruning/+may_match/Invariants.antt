use Rattle.std.proofs.Common.{◌≡◌, drop}
use Rattle.query_ast.specs.Pruning.{all_can_in, some_can_in}
use Rattle.query_ast.proofs.pruning.+may_match.Given as goal

abbrev pub invariant-all_may_match-loop-part : goal.invariant-all_may_match-loop-part
invariant-all_may_match-loop-part l = all_can_in l.schema l.facts (drop l.part-index l.parts) ≡ all_can_in l.schema l.facts l.parts

abbrev pub invariant-some_may_match-loop-part : goal.invariant-some_may_match-loop-part
invariant-some_may_match-loop-part l = some_can_in l.schema l.facts (drop l.part-index l.parts) ≡ some_can_in l.schema l.facts l.parts
