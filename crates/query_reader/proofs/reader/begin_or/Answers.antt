use Rattle.std.proofs.Common.{◌∙◌, ap, map}
use Rattle.query_reader.proofs.Rows.{more_trees}
use Rattle.query_reader.specs.Tree.{view, trees_after, no_trees, behind, and_tree}
use Rattle.query_reader.proofs.reader.begin_or.Goals as goal

pub returns-clause-ors : goal.returns-clause-ors
returns-clause-ors c = ap (λ xs. trees_after no_trees (map view xs)) c.in_ok-push.ensures.items
    ∙ more_trees no_trees c.args.ors.now.items c.all_of.result
    ∙ ap (λ x. behind (trees_after no_trees (map view c.args.ors.now.items)) x)
    (c.all_of.ensures ∙ ap (λ v. and_tree (trees_after no_trees (map view v.items))) c.replace.ensures.value)
