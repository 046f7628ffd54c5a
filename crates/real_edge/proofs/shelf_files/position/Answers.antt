use Rattle.std.proofs.Common.{rules, of_calls}
use Rattle.std.specs.Ordering.{nat_cmp}
use Rattle.std.specs.Cmp.Lexicographic.{slice_cmp}
use Rattle.std.proofs.lemmas.Fn.{always_returns_same}
use Rattle.real_edge.proofs.Positions.{search_ok, search_err}
use Rattle.real_edge.proofs.shelf_files.position.Goals as goal

pub returns-clause-ok : goal.returns-clause-ok
returns-clause-ok c =
    let facts = c.binary_search_by.ensures in
    search_ok c.args.key.now c.args.objects.now c.binary_search_by.result facts.bound
    (facts.position (λ o. slice_cmp nat_cmp o.key c.args.key.now) (always_returns_same _ _ _ (λ a r f called. search (rules, of_calls))))

pub returns-clause-err : goal.returns-clause-err
returns-clause-err c =
    let facts = c.binary_search_by.ensures in
    search_err c.args.key.now c.args.objects.now c.binary_search_by.result c.requires facts.bound
    (facts.position (λ o. slice_cmp nat_cmp o.key c.args.key.now) (always_returns_same _ _ _ (λ a r f called. search (rules, of_calls))))
