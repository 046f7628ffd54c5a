use Rattle.std.proofs.Common.{◌≡◌, drop}
use Rattle.query_reader.specs.Resolve.{asked_after}
use Rattle.query_reader.specs.Tree.{view_ask}
use Rattle.query_ast.specs.Sought.{view_all, no_more}
use Rattle.query_reader.proofs.resolve.asked_each.Given as goal

abbrev pub invariant-loop-number : goal.invariant-loop-number
invariant-loop-number l = asked_after l.fields l.text (view_all l.queries.items) (view_ask l.ask) (drop l.number-index l.numbers) ≡ asked_after l.fields l.text no_more (view_ask l.ask) l.numbers
