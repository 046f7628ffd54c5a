use Rattle.std.proofs.Common.{◌∙◌, ap, map, length, arith}
use Rattle.query_reader.proofs.Rows.{or_more}
use Rattle.query_reader.specs.Tree.{Or, view, trees_after, no_trees}
use Rattle.query_reader.proofs.reader.some_of.Goals as goal

pub returns-clause-ok : goal.returns-clause-ok
returns-clause-ok c = c.or_of.ensures ∙ ap (λ xs. Or (trees_after no_trees (map view xs))) c.in_ok-push.ensures.items
    ∙ or_more c.args.parts.items c.args.last (omega (arith, c.if-count-eq0.false, ap length c.as_slice-list.ensures.value))
