use Rattle.std.proofs.Common.{rules, ◌≡◌, ◌∙◌, sym, ap}
use Rattle.query_ast.specs.Sought.{view, view_all}
use Rattle.query_ast.specs.Sought as sought
use Rattle.query_ast.specs.declared.query.Query.{the_lemmas}
use Rattle.query_ast.proofs.Copied.{row_all, same_all}
use Rattle.query_ast.proofs.copying.+copy_query.Goals as goal

pub copy_query-returns-in-Ok : goal.copy_query-returns-in-Ok
copy_query-returns-in-Ok t c =
    let e : view c.args.query.now ≡ sought.And (view_all c.in-And.parts.items) = search (rules, row_all, the_lemmas) in
    c.and_of.ensures ∙ ap sought.And (same_all c.in-Ok.copies.items c.as_slice.result.now c.in-Ok.ensures ∙ ap view_all c.as_slice.ensures.value) ∙ sym e

pub copy_query-returns-in-Ok-copy_queries : goal.copy_query-returns-in-Ok-copy_queries
copy_query-returns-in-Ok-copy_queries t c =
    let e : view c.args.query.now ≡ sought.Or (view_all c.in-Or.parts.items) = search (rules, row_all, the_lemmas) in
    c.or_of.ensures ∙ ap sought.Or (same_all c.in-Ok-copy_queries.copies.items c.as_slice-in-Or.result.now c.in-Ok-copy_queries.ensures ∙ ap view_all c.as_slice-in-Or.ensures.value) ∙ sym e
