use Rattle.doc_sets.specs.Reads.{AreRead, SomeMeets}
use Rattle.doc_sets.proofs.ReadLookups.{meets_first, meets_others, met, met_wider, read_both}
use Rattle.leaf_search.proofs.ReadQueries.{queries_from, query_reads}
use Rattle.std.proofs.Common.{rules, ◌≡◌, ◌∙◌, ◌&&◌, ◌||◌, sym, ap, subst, ◌+◌, true, false, refl, drop}
use Rattle.query_ast.specs.declared.query.Query.{the_lemmas}
use Rattle.query_ast.specs.Meaning.{meaning, all_hold, some_hold}
use Rattle.query_ast.specs.Sought.{And, Or, Prefix, Range, view, view_all}
use Rattle.doc_sets.specs.Asking.{AsksLookups, LacksLookups}
use Rattle.doc_sets.specs.Sets.{IsSetOf}
use Rattle.doc_sets.proofs.Causes.{cause_wider, handed_on}
use Rattle.doc_sets.proofs.Steps.{and_true, none_behind, or_false}
use Rattle.doc_sets.proofs.WalkSteps.{set_alike}
use Rattle.query_ast.specs.Askable.{CanAsk}
use Rattle.leaf_search.specs.Asks.{lookups_of, lookups_of_each}
use Rattle.leaf_search.proofs.QuerySteps.{row_all, all_step, some_step, can_at, asked_at, of_query}
use Rattle.leaf_search.proofs.evaluate.+evaluate.Goals as goal

pub all_matching-loop-each-preserved : goal.all_matching-loop-each-preserved
all_matching-loop-each-preserved t c = record {
  size = c.keep_both.ensures.size ∙ c.loop-each.invariant.size;
  only = λ documents p is can.
      let i = c.loop-each.invariant.only documents p is can in
      let s = c.args.schema.now in
      let x = c.each-item.result in (
        λ d. i.0 d && meaning s d (view x),
        c.keep_both.ensures.only i.0 (λ d. meaning s d (view x)) documents i.1 (c.in_ok-other.ensures.only documents p is (can_at s x c.args.parts.now c.loop-each.each-index c.loop-each-test.true c.each-item.is can)),
        λ d. all_step s d x c.args.parts.now c.loop-each.each-index (i.0 d) c.loop-each-test.true c.each-item.is ∙ i.2 d,
      );
  read = λ h.
      let s = c.args.schema.now in
      let v = c.args.part.now in
      let x = c.each-item.result in
      let more = lookups_of_each v.footer s (view_all (drop (c.loop-each.each-index + 1) c.args.parts.now)) in
      c.loop-each.invariant.read (subst (AreRead v) (sym (queries_from v s c.loop-each.each-index x c.args.parts.now c.loop-each-test.true c.each-item.is)) (read_both v (lookups_of v.footer s (view x)) more c.in_ok-other.ensures.reads h));
  meets = λ e h.
      let s = c.args.schema.now in
      let v = c.args.part.now in
      let x = c.each-item.result in
      let more = lookups_of_each v.footer s (view_all (drop (c.loop-each.each-index + 1) c.args.parts.now)) in
      c.loop-each.invariant.meets e (subst (λ ls. SomeMeets v ls e) (sym (queries_from v s c.loop-each.each-index x c.args.parts.now c.loop-each-test.true c.each-item.is)) (meets_others v (lookups_of v.footer s (view x)) more e h));
}

pub some_matching-loop-each-preserved : goal.some_matching-loop-each-preserved
some_matching-loop-each-preserved t c = record {
  size = c.add_other.ensures.size ∙ c.loop-each.invariant.size;
  only = λ documents p is can.
      let i = c.loop-each.invariant.only documents p is can in
      let s = c.args.schema.now in
      let x = c.each-item.result in (
        λ d. i.0 d || meaning s d (view x),
        c.add_other.ensures.only i.0 (λ d. meaning s d (view x)) documents i.1 (c.in_ok-other.ensures.only documents p is (can_at s x c.args.parts.now c.loop-each.each-index c.loop-each-test.true c.each-item.is can)),
        λ d. some_step s d x c.args.parts.now c.loop-each.each-index (i.0 d) c.loop-each-test.true c.each-item.is ∙ i.2 d,
      );
  read = λ h.
      let s = c.args.schema.now in
      let v = c.args.part.now in
      let x = c.each-item.result in
      let more = lookups_of_each v.footer s (view_all (drop (c.loop-each.each-index + 1) c.args.parts.now)) in
      c.loop-each.invariant.read (subst (AreRead v) (sym (queries_from v s c.loop-each.each-index x c.args.parts.now c.loop-each-test.true c.each-item.is)) (read_both v (lookups_of v.footer s (view x)) more c.in_ok-other.ensures.reads h));
  meets = λ e h.
      let s = c.args.schema.now in
      let v = c.args.part.now in
      let x = c.each-item.result in
      let more = lookups_of_each v.footer s (view_all (drop (c.loop-each.each-index + 1) c.args.parts.now)) in
      c.loop-each.invariant.meets e (subst (λ ls. SomeMeets v ls e) (sym (queries_from v s c.loop-each.each-index x c.args.parts.now c.loop-each-test.true c.each-item.is)) (meets_others v (lookups_of v.footer s (view x)) more e h));
}

pub all_matching-returns-in_err-other-clause-only : goal.all_matching-returns-in_err-other-clause-only
all_matching-returns-in_err-other-clause-only t c = λ documents p is can.
    let s = c.args.schema.now in
    let v = c.args.part.now in
    let x = c.each-item.result in
    let qs = c.args.parts.now in
    let e = c.in_err-other.field-0.0 in
    let lt = c.loop-each-test.true in
    let cause = c.in_err-other.ensures.only documents p is (can_at s x qs c.loop-each.each-index lt c.each-item.is can) in
    handed_on (IsSetOf (λ d. all_hold s d (view_all qs)) documents) (LacksLookups v s documents p (lookups_of_each v.footer s (view_all qs))) c.from_residual-in_err-other.result e c.from_residual-in_err-other.ensures.1
    (cause_wider (AsksLookups v s documents p (lookups_of v.footer s (view x))) (AsksLookups v s documents p (lookups_of_each v.footer s (view_all qs))) v.pieces e (asked_at v s documents p x qs c.loop-each.each-index lt c.each-item.is) cause)

pub some_matching-returns-in_err-other-clause-only : goal.some_matching-returns-in_err-other-clause-only
some_matching-returns-in_err-other-clause-only t c = λ documents p is can.
    let s = c.args.schema.now in
    let v = c.args.part.now in
    let x = c.each-item.result in
    let qs = c.args.parts.now in
    let e = c.in_err-other.field-0.0 in
    let lt = c.loop-each-test.true in
    let cause = c.in_err-other.ensures.only documents p is (can_at s x qs c.loop-each.each-index lt c.each-item.is can) in
    handed_on (IsSetOf (λ d. some_hold s d (view_all qs)) documents) (LacksLookups v s documents p (lookups_of_each v.footer s (view_all qs))) c.from_residual-in_err-other.result e c.from_residual-in_err-other.ensures.1
    (cause_wider (AsksLookups v s documents p (lookups_of v.footer s (view x))) (AsksLookups v s documents p (lookups_of_each v.footer s (view_all qs))) v.pieces e (asked_at v s documents p x qs c.loop-each.each-index lt c.each-item.is) cause)

pub all_matching-returns-clause-only : goal.all_matching-returns-clause-only
all_matching-returns-clause-only t c = λ documents p is can.
    let s = c.args.schema.now in
    let qs = c.args.parts.now in
    let i = c.loop-each.invariant.only documents p is can in
    set_alike i.0 (λ d. all_hold s d (view_all qs)) documents c.loop-each.bits
    (λ d. sym (and_true (i.0 d)) ∙ (ap (λ ys. i.0 d && all_hold s d (view_all ys)) (sym (none_behind qs c.loop-each.each-index c.loop-each-test.false)) ∙ i.2 d)) i.1

pub some_matching-returns-clause-only : goal.some_matching-returns-clause-only
some_matching-returns-clause-only t c = λ documents p is can.
    let s = c.args.schema.now in
    let qs = c.args.parts.now in
    let i = c.loop-each.invariant.only documents p is can in
    set_alike i.0 (λ d. some_hold s d (view_all qs)) documents c.loop-each.bits
    (λ d. sym (or_false (i.0 d)) ∙ (ap (λ ys. i.0 d || some_hold s d (view_all ys)) (sym (none_behind qs c.loop-each.each-index c.loop-each-test.false)) ∙ i.2 d)) i.1

pub matching-returns-in_ok-bits-in-Not-clause-only : goal.matching-returns-in_ok-bits-in-Not-clause-only
matching-returns-in_ok-bits-in-Not-clause-only t c = λ documents p is can.
    let s = c.args.schema.now in
    let q = c.in-Not.inner.value in
    let ask : CanAsk s (view q) = subst (λ w. CanAsk s (view w)) c.in-Not.is can in
    let inner = c.in_ok-bits-in-Not.ensures.only documents p is (subst (λ w. CanAsk s (view w)) (sym c.deref.ensures) ask) in
    let inside : IsSetOf (λ d. meaning s d (view q)) documents c.in_ok-bits-in-Not.bits = subst (λ w. IsSetOf (λ d. meaning s d (view w)) documents c.in_ok-bits-in-Not.bits) c.deref.ensures inner in
    subst (λ w. IsSetOf (λ d. meaning s d (view w)) documents c.take_others.new.bits) (sym c.in-Not.is) (c.take_others.ensures.only (λ d. meaning s d (view q)) documents inside)

pub matching-returns-in-And-clause-only : goal.matching-returns-in-And-clause-only
matching-returns-in-And-clause-only t c = λ documents p is can.
    let s = c.args.schema.now in
    let same : view c.args.query.now ≡ And (view_all c.as_slice-in-And.result.now) = search (rules, row_all, the_lemmas) in
    of_query c.args.part.now s documents p c.all_matching.result (view c.args.query.now) (And (view_all c.as_slice-in-And.result.now)) same (c.all_matching.ensures.only documents p is (subst (CanAsk s) same can))

pub matching-returns-in-Or-clause-only : goal.matching-returns-in-Or-clause-only
matching-returns-in-Or-clause-only t c = λ documents p is can.
    let s = c.args.schema.now in
    let same : view c.args.query.now ≡ Or (view_all c.as_slice-in-Or.result.now) = search (rules, row_all, the_lemmas) in
    of_query c.args.part.now s documents p c.some_matching.result (view c.args.query.now) (Or (view_all c.as_slice-in-Or.result.now)) same (c.some_matching.ensures.only documents p is (subst (CanAsk s) same can))

pub matching-returns-in-Prefix-clause-only : goal.matching-returns-in-Prefix-clause-only
matching-returns-in-Prefix-clause-only t c = λ documents p is can.
    let s = c.args.schema.now in
    let n = c.in-Prefix.field in
    let text = c.as_str-in-Prefix.result.now in
    let same : view c.args.query.now ≡ Prefix n text = ap view c.in-Prefix.is ∙ ap (λ u. Prefix n u) (sym c.as_str-in-Prefix.ensures) in
    of_query c.args.part.now s documents p c.with_prefix.result (view c.args.query.now) (Prefix n text) same (c.with_prefix.ensures.only documents p is (subst (CanAsk s) same can))

pub matching-returns-in-Range-clause-only : goal.matching-returns-in-Range-clause-only
matching-returns-in-Range-clause-only t c = λ documents p is can.
    let s = c.args.schema.now in
    let w = Range c.in-Range.field c.in-Range.low c.in-Range.high in
    let same : view c.args.query.now ≡ w = ap view c.in-Range.is in
    of_query c.args.part.now s documents p c.within_range.result (view c.args.query.now) w same (c.within_range.ensures.only documents p is (subst (CanAsk s) same can))

pub all_matching-loop-each-init : goal.all_matching-loop-each-init
all_matching-loop-each-init t c = record {
  size = c.in_ok-bits.ensures.size;
  only = λ documents p is can. (λ d. true, c.in_ok-bits.ensures.only c.args.schema.now documents p is, λ d. refl);
  read = λ h. h;
  meets = λ e h. h;
}

pub all_matching-returns-in_err-other-clause-reads : goal.all_matching-returns-in_err-other-clause-reads
all_matching-returns-in_err-other-clause-reads t c =
    let s = c.args.schema.now in
    let v = c.args.part.now in
    let x = c.each-item.result in
    let i = c.loop-each.each-index in
    let qs = c.args.parts.now in
    let e = c.in_err-other.field-0.0 in
    met v (lookups_of_each v.footer s (view_all qs)) c.from_residual-in_err-other.result e c.from_residual-in_err-other.ensures.1
    (met_wider v (lookups_of v.footer s (view x)) (lookups_of_each v.footer s (view_all qs)) e
    (λ g h. c.loop-each.invariant.meets g (subst (λ ls. SomeMeets v ls g) (sym (queries_from v s i x qs c.loop-each-test.true c.each-item.is)) (meets_first v (lookups_of v.footer s (view x)) (lookups_of_each v.footer s (view_all (drop (i + 1) qs))) g h))) c.in_err-other.ensures.reads)

pub all_matching-returns-clause-reads : goal.all_matching-returns-clause-reads
all_matching-returns-clause-reads t c =
    c.loop-each.invariant.read (subst (λ qs. AreRead c.args.part.now (lookups_of_each c.args.part.now.footer c.args.schema.now (view_all qs))) (sym (none_behind c.args.parts.now c.loop-each.each-index c.loop-each-test.false)) tt)

pub some_matching-loop-each-init : goal.some_matching-loop-each-init
some_matching-loop-each-init t c = record {
  size = c.in_ok-bits.ensures.size;
  only = λ documents p is can. (λ d. false, c.in_ok-bits.ensures.only c.args.schema.now documents p is, λ d. refl);
  read = λ h. h;
  meets = λ e h. h;
}

pub some_matching-returns-in_err-other-clause-reads : goal.some_matching-returns-in_err-other-clause-reads
some_matching-returns-in_err-other-clause-reads t c =
    let s = c.args.schema.now in
    let v = c.args.part.now in
    let x = c.each-item.result in
    let i = c.loop-each.each-index in
    let qs = c.args.parts.now in
    let e = c.in_err-other.field-0.0 in
    met v (lookups_of_each v.footer s (view_all qs)) c.from_residual-in_err-other.result e c.from_residual-in_err-other.ensures.1
    (met_wider v (lookups_of v.footer s (view x)) (lookups_of_each v.footer s (view_all qs)) e
    (λ g h. c.loop-each.invariant.meets g (subst (λ ls. SomeMeets v ls g) (sym (queries_from v s i x qs c.loop-each-test.true c.each-item.is)) (meets_first v (lookups_of v.footer s (view x)) (lookups_of_each v.footer s (view_all (drop (i + 1) qs))) g h))) c.in_err-other.ensures.reads)

pub some_matching-returns-clause-reads : goal.some_matching-returns-clause-reads
some_matching-returns-clause-reads t c =
    c.loop-each.invariant.read (subst (λ qs. AreRead c.args.part.now (lookups_of_each c.args.part.now.footer c.args.schema.now (view_all qs))) (sym (none_behind c.args.parts.now c.loop-each.each-index c.loop-each-test.false)) tt)

pub matching-returns-in-And-clause-reads : goal.matching-returns-in-And-clause-reads
matching-returns-in-And-clause-reads t c =
    let same : view c.args.query.now ≡ And (view_all c.as_slice-in-And.result.now) = search (rules, row_all, the_lemmas) in
    query_reads c.args.part.now c.args.schema.now c.all_matching.result (view c.args.query.now) (And (view_all c.as_slice-in-And.result.now)) same c.all_matching.ensures.reads

pub matching-returns-in-Or-clause-reads : goal.matching-returns-in-Or-clause-reads
matching-returns-in-Or-clause-reads t c =
    let same : view c.args.query.now ≡ Or (view_all c.as_slice-in-Or.result.now) = search (rules, row_all, the_lemmas) in
    query_reads c.args.part.now c.args.schema.now c.some_matching.result (view c.args.query.now) (Or (view_all c.as_slice-in-Or.result.now)) same c.some_matching.ensures.reads

pub matching-returns-in-Prefix-clause-reads : goal.matching-returns-in-Prefix-clause-reads
matching-returns-in-Prefix-clause-reads t c =
    let n = c.in-Prefix.field in
    let text = c.as_str-in-Prefix.result.now in
    let same : view c.args.query.now ≡ Prefix n text = ap view c.in-Prefix.is ∙ ap (λ u. Prefix n u) (sym c.as_str-in-Prefix.ensures) in
    query_reads c.args.part.now c.args.schema.now c.with_prefix.result (view c.args.query.now) (Prefix n text) same c.with_prefix.ensures.reads

pub matching-returns-in-Range-clause-reads : goal.matching-returns-in-Range-clause-reads
matching-returns-in-Range-clause-reads t c =
    let w = Range c.in-Range.field c.in-Range.low c.in-Range.high in
    let same : view c.args.query.now ≡ w = ap view c.in-Range.is in
    query_reads c.args.part.now c.args.schema.now c.within_range.result (view c.args.query.now) w same c.within_range.ensures.reads
