use Rattle.std.proofs.Common.{◌≡◌, drop, map}
use Rattle.query_reader.specs.Resolve.{resolve_after}
use Rattle.query_reader.specs.Tree.{view}
use Rattle.query_ast.specs.Sought.{view_all, no_more}
use Rattle.query_reader.proofs.resolve.+resolve.Given as goal

abbrev pub invariant-resolve_each-loop-part : goal.invariant-resolve_each-loop-part
invariant-resolve_each-loop-part l = resolve_after l.schema l.defaults l.text (view_all l.queries.items) (map view (drop l.part-index l.parts)) ≡ resolve_after l.schema l.defaults l.text no_more (map view l.parts)
