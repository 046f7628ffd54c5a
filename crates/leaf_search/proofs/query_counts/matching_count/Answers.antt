use Rattle.leaf_search.specs.Counts.{count_lookups, plain_lookups}
use Rattle.doc_sets.specs.Reads.{AreRead, MetBy}
use Rattle.doc_sets.proofs.ReadLookups.{met}
use Rattle.std.proofs.Common.{◌≡◌, ◌∙◌, ℕ, length, filter, subst, sym}
use Rattle.query_ast.specs.Meaning.{meaning}
use Rattle.query_ast.specs.Sought.{view}
use Rattle.doc_sets.specs.Asking.{LacksLookups}
use Rattle.query_ast.specs.Askable.{CanAsk}
use Rattle.leaf_search.specs.Asks.{lookups_of}
use Rattle.leaf_search.proofs.LeafSteps.{handed}
use Rattle.leaf_search.proofs.QueryCounts.{not_counted}
use Rattle.leaf_search.proofs.query_counts.matching_count.Goals as goal

pub returns-in_err-others-in-Not-clause-only : goal.returns-in_err-others-in-Not-clause-only
returns-in_err-others-in-Not-clause-only c = λ documents p is can.
    let s = c.args.schema.now in
    let v = c.args.part.now in
    let q = c.in-Not.inner.value in
    let ask : CanAsk s (view q) = subst (λ w. CanAsk s (view w)) c.in-Not.is can in
    let cause = subst (λ w. LacksLookups v s documents p (lookups_of v.footer s (view w)) c.in_err-others-in-Not.field-0.0) c.deref.ensures (c.in_err-others-in-Not.ensures.only documents p is (subst (λ w. CanAsk s (view w)) (sym c.deref.ensures) ask)) in
    handed (λ (n : ℕ). n ≡ length (filter (λ d. meaning s d.doc (view c.args.query.now)) documents)) (LacksLookups v s documents p (lookups_of v.footer s (view c.args.query.now)))
    c.from_residual.result c.in_err-others-in-Not.field-0.0 c.from_residual.ensures.1 (subst (λ w. LacksLookups v s documents p (lookups_of v.footer s (view w)) c.in_err-others-in-Not.field-0.0) (sym c.in-Not.is) cause)

pub returns-in_ok-others-in-Not-clause-only : goal.returns-in_ok-others-in-Not-clause-only
returns-in_ok-others-in-Not-clause-only c = λ documents p is can.
    let s = c.args.schema.now in
    let q = c.in-Not.inner.value in
    let ask : CanAsk s (view q) = subst (λ w. CanAsk s (view w)) c.in-Not.is can in
    let inner = subst (λ w. c.in_ok-others-in-Not.others ≡ length (filter (λ d. meaning s d.doc (view w)) documents)) c.deref.ensures (c.in_ok-others-in-Not.ensures.only documents p is (subst (λ w. CanAsk s (view w)) (sym c.deref.ensures) ask)) in
    let many = not_counted s (view q) documents c.doc_count.result c.in_ok-others-in-Not.others (c.doc_count.ensures.only s documents p is.part) inner in
    subst (λ w. c.saturating_sub.result ≡ length (filter (λ d. meaning s d.doc (view w)) documents)) (sym c.in-Not.is) (c.saturating_sub.ensures ∙ many)

pub returns-in_err-others-in-Not-clause-reads : goal.returns-in_err-others-in-Not-clause-reads
returns-in_err-others-in-Not-clause-reads c =
    let s = c.args.schema.now in
    let v = c.args.part.now in
    let e = c.in_err-others-in-Not.field-0.0 in
    met v (count_lookups v.footer s (view c.args.query.now)) c.from_residual.result e c.from_residual.ensures.1
    (subst (λ w. MetBy v (count_lookups v.footer s (view w)) e) (sym c.in-Not.is) (subst (λ w. MetBy v (plain_lookups v.footer s (view w)) e) c.deref.ensures c.in_err-others-in-Not.ensures.reads))

pub returns-in_ok-others-in-Not-clause-reads : goal.returns-in_ok-others-in-Not-clause-reads
returns-in_ok-others-in-Not-clause-reads c =
    let s = c.args.schema.now in
    let v = c.args.part.now in
    subst (λ w. AreRead v (count_lookups v.footer s (view w))) (sym c.in-Not.is) (subst (λ w. AreRead v (plain_lookups v.footer s (view w))) c.deref.ensures c.in_ok-others-in-Not.ensures.reads)
