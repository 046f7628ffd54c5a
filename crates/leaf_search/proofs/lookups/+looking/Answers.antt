use Rattle.std.proofs.Common.{rules, ◌≡◌, ◌++◌, OnOk, sym, subst}
use Rattle.query_ast.specs.declared.query.Query.{the_lemmas}
use Rattle.query_ast.specs.Sought.{And, Or, view, view_all}
use Rattle.leaf_search.specs.Asks.{lookups_of}
use Rattle.leaf_search.proofs.QuerySteps.{row_all}
use Rattle.leaf_search.proofs.lookups.+looking.Goals as goal

pub look_for-returns-in-And : goal.look_for-returns-in-And
look_for-returns-in-And t c =
    let same : view c.args.query.now ≡ And (view_all c.as_slice-in-And.result.now) = search (rules, row_all, the_lemmas) in
    subst (λ w. OnOk c.look_for_each.result (c.look_for_each.new.lookups ≡ c.args.lookups.now ++ lookups_of c.args.footer.now c.args.schema.now w)) (sym same) c.look_for_each.ensures

pub look_for-returns-in-Or : goal.look_for-returns-in-Or
look_for-returns-in-Or t c =
    let same : view c.args.query.now ≡ Or (view_all c.as_slice-in-Or.result.now) = search (rules, row_all, the_lemmas) in
    subst (λ w. OnOk c.look_for_each-in-Or.result (c.look_for_each-in-Or.new.lookups ≡ c.args.lookups.now ++ lookups_of c.args.footer.now c.args.schema.now w)) (sym same) c.look_for_each-in-Or.ensures
