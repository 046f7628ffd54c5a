use Rattle.std.proofs.Common.{◌≡◌, ◌++◌, drop}
use Rattle.query_ast.specs.Sought.{view_all}
use Rattle.leaf_search.specs.Asks.{lookups_of_each}
use Rattle.leaf_search.proofs.lookups.+looking.Given as goal

abbrev pub invariant-look_for_each-loop-each : goal.invariant-look_for_each-loop-each
invariant-look_for_each-loop-each l = l.lookups ++ lookups_of_each l.footer l.schema (view_all (drop l.each-index l.parts)) ≡ l.fn.lookups ++ lookups_of_each l.footer l.schema (view_all l.parts)
