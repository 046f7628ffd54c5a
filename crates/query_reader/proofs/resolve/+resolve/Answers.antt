use Rattle.std.proofs.Common.{◌≡◌, ◌∙◌, sym, ap, subst, drop, map, ◌+◌, rules, Ok}
use Rattle.std.proofs.Math.ListN.{drop_of_length-le}
use Rattle.query_reader.proofs.Each.{view_more, and_is, or_is, each_step, refuses_bind, refuses_same}
use Rattle.query_reader.proofs.Rows.{row_after}
use Rattle.query_reader.specs.Resolve.{◌>>=◌, resolve, resolve_after, Gives}
use Rattle.query_reader.specs.Tree.{view, view_ask, trees_after, no_trees, Leaf, Group, Not, And, Or}
use Rattle.query_reader.specs.declared.tree.Raw.{the_lemmas}
use Rattle.query_ast.specs.Sought.{view_all, no_more}
use Rattle.query_ast.specs.Sought as sought
use Rattle.query_reader.proofs.resolve.+resolve.Goals as goal

pub resolve-returns-in-Leaf : goal.resolve-returns-in-Leaf
resolve-returns-in-Leaf t c =
    let e : view c.args.raw.now ≡ Leaf c.in-Leaf.clause.field (view_ask c.in-Leaf.clause.ask) = search (rules, the_lemmas) in
    subst (λ x. Gives sought.view (resolve c.args.schema.now c.args.defaults.now c.args.text.now x) c.resolve_clause.result) (sym e) c.resolve_clause.ensures

pub resolve-returns-in-Group : goal.resolve-returns-in-Group
resolve-returns-in-Group t c =
    let e : view c.args.raw.now ≡ Group (view c.in-Group.inner.value) = search (rules, the_lemmas) in
    subst (λ x. Gives sought.view (resolve c.args.schema.now c.args.defaults.now c.args.text.now x) c.resolve.result) (sym e)
    (subst (λ v. Gives sought.view (resolve c.args.schema.now c.args.defaults.now c.args.text.now (view v)) c.resolve.result) c.deref.ensures c.resolve.ensures)

pub resolve-returns-in-Ok : goal.resolve-returns-in-Ok
resolve-returns-in-Ok t c =
    let e : view c.args.raw.now ≡ Not (view c.in-Not.inner.value) = search (rules, the_lemmas) in
    subst (λ r. Gives sought.view r c.negated.result)
    (sym (ap (resolve c.args.schema.now c.args.defaults.now c.args.text.now) e
    ∙ ap (λ v. resolve c.args.schema.now c.args.defaults.now c.args.text.now (view v) >>= λ q. Ok (sought.Not q)) (sym c.deref-in-Not.ensures)
    ∙ ap (λ r. r >>= λ q. Ok (sought.Not q)) c.in-Ok.ensures)) c.negated.ensures

pub resolve-returns-in-Err : goal.resolve-returns-in-Err
resolve-returns-in-Err t c =
    let e : view c.args.raw.now ≡ Not (view c.in-Not.inner.value) = search (rules, the_lemmas) in
    refuses_same _ _ c.in-Err.refusal
    (ap (λ v. resolve c.args.schema.now c.args.defaults.now c.args.text.now (view v) >>= λ q. Ok (sought.Not q)) c.deref-in-Not.ensures
    ∙ sym (ap (resolve c.args.schema.now c.args.defaults.now c.args.text.now) e))
    (refuses_bind _ (λ q. Ok (sought.Not q)) c.in-Err.refusal c.in-Err.ensures)

pub resolve-returns-in-Ok-resolve_each : goal.resolve-returns-in-Ok-resolve_each
resolve-returns-in-Ok-resolve_each t c =
    let e : view c.args.raw.now ≡ And (trees_after no_trees (map view c.in-And.parts.items)) = search (rules, row_after, the_lemmas) in
    sym (and_is c.args.schema.now c.args.defaults.now c.args.text.now (view c.args.raw.now) c.in-And.parts.items c.as_slice.result.now e c.as_slice.ensures.value)
    ∙ ap (λ r. r >>= λ qs. Ok (sought.And qs)) c.in-Ok-resolve_each.ensures ∙ ap Ok (sym c.and_of.ensures)

pub resolve-returns-in-Err-resolve_each : goal.resolve-returns-in-Err-resolve_each
resolve-returns-in-Err-resolve_each t c =
    let e : view c.args.raw.now ≡ And (trees_after no_trees (map view c.in-And.parts.items)) = search (rules, row_after, the_lemmas) in
    refuses_same _ _ c.in-Err-resolve_each.refusal (and_is c.args.schema.now c.args.defaults.now c.args.text.now (view c.args.raw.now) c.in-And.parts.items c.as_slice.result.now e c.as_slice.ensures.value)
    (refuses_bind _ (λ qs. Ok (sought.And qs)) c.in-Err-resolve_each.refusal c.in-Err-resolve_each.ensures)

pub resolve-returns-in-Ok-resolve_each-2 : goal.resolve-returns-in-Ok-resolve_each-2
resolve-returns-in-Ok-resolve_each-2 t c =
    let e : view c.args.raw.now ≡ Or (trees_after no_trees (map view c.in-Or.parts.items)) = search (rules, row_after, the_lemmas) in
    sym (or_is c.args.schema.now c.args.defaults.now c.args.text.now (view c.args.raw.now) c.in-Or.parts.items c.as_slice-in-Or.result.now e c.as_slice-in-Or.ensures.value)
    ∙ ap (λ r. r >>= λ qs. Ok (sought.Or qs)) c.in-Ok-resolve_each-2.ensures ∙ ap Ok (sym c.or_of.ensures)

pub resolve-returns-in-Err-resolve_each-2 : goal.resolve-returns-in-Err-resolve_each-2
resolve-returns-in-Err-resolve_each-2 t c =
    let e : view c.args.raw.now ≡ Or (trees_after no_trees (map view c.in-Or.parts.items)) = search (rules, row_after, the_lemmas) in
    refuses_same _ _ c.in-Err-resolve_each-2.refusal (or_is c.args.schema.now c.args.defaults.now c.args.text.now (view c.args.raw.now) c.in-Or.parts.items c.as_slice-in-Or.result.now e c.as_slice-in-Or.ensures.value)
    (refuses_bind _ (λ qs. Ok (sought.Or qs)) c.in-Err-resolve_each-2.refusal c.in-Err-resolve_each-2.ensures)

pub resolve_each-loop-part-preserved : goal.resolve_each-loop-part-preserved
resolve_each-loop-part-preserved t c =
    ap (λ v. resolve_after c.args.schema.now c.args.defaults.now c.args.text.now v (map view (drop (c.loop-part.part-index + 1) c.args.parts.now)))
    (ap view_all c.in_ok-push-in-Ok.ensures.items ∙ view_more c.loop-part.queries.items c.in-Ok.query)
    ∙ sym (each_step c.args.schema.now c.args.defaults.now c.args.text.now (view_all c.loop-part.queries.items) c.args.parts.now c.loop-part.part-index c.part-item.result _ c.loop-part-test.true c.part-item.is c.in-Ok.ensures)
    ∙ c.loop-part.invariant

pub resolve_each-returns : goal.resolve_each-returns
resolve_each-returns t c =
    sym c.loop-part.invariant
    ∙ ap (λ parts. resolve_after c.args.schema.now c.args.defaults.now c.args.text.now (view_all c.loop-part.queries.items) (map view parts)) (drop_of_length-le c.args.parts.now c.loop-part-test.false)
