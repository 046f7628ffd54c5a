use Rattle.std.proofs.Common.{◌≡◌, take, map}
use Rattle.query_ast.specs.Sought.{view}
use Rattle.query_ast.proofs.copying.+copy_query.Given as goal

-- the copies so far are those of the first queries
abbrev pub invariant-copy_queries-loop-query : goal.invariant-copy_queries-loop-query
invariant-copy_queries-loop-query l = map view l.copies.items ≡ map view (take l.query-index l.queries)
