use Rattle.doc_sets.proofs.ReadLookups.{items_from, meets_first, meets_others, met, met_wider, read_both}
use Rattle.doc_sets.specs.Reads.{AreRead, SomeMeets}
use Rattle.std.proofs.Common.{◌∙◌, ◌||◌, ap, sym, ◌+◌, false, refl, subst, drop}
use Rattle.query_ast.specs.Meaning.{item_holds, some_item_holds}
use Rattle.doc_value.specs.Documents.{values_in}
use Rattle.doc_sets.specs.Asking.{LacksLookups}
use Rattle.doc_sets.specs.Sets.{IsSetOf}
use Rattle.doc_sets.specs.Texts.{item_lookups, text_lookups}
use Rattle.doc_sets.proofs.Causes.{handed_on}
use Rattle.doc_sets.proofs.Steps.{none_behind, or_false}
use Rattle.doc_sets.proofs.TextLaws.{can_item, item_lacks, item_step}
use Rattle.doc_sets.proofs.WalkSteps.{set_alike}
use Rattle.doc_sets.proofs.texts.some_documents.Goals as goal

pub loop-item-preserved : goal.loop-item-preserved
loop-item-preserved c = record {
  size = c.add_other.ensures.size ∙ c.loop-item.invariant.size;
  only = λ s documents p is got on can.
      let i = c.loop-item.invariant.only s documents p is got on can in
      let f = c.args.field.now in
      let n = c.args.number in
      let x = c.item-item.result in (
        λ d. i.0 d || item_holds f (values_in d n) x,
        c.add_other.ensures.only i.0 (λ d. item_holds f (values_in d n) x) documents i.1 (c.in_ok-other.ensures.only s documents p is got on (can_item f c.loop-item.item-index x c.args.items.now c.loop-item-test.true c.item-item.is can)),
        λ d. item_step f (values_in d n) x c.args.items.now c.loop-item.item-index (i.0 d) c.loop-item-test.true c.item-item.is ∙ i.2 d,
      );
  read = λ h.
      let f = c.args.field.now in
      let n = c.args.number in
      let v = c.args.part.now in
      let x = c.item-item.result in
      let more = item_lookups f n (drop (c.loop-item.item-index + 1) c.args.items.now) in
      c.loop-item.invariant.read (subst (AreRead v) (sym (items_from f n c.loop-item.item-index x c.args.items.now c.loop-item-test.true c.item-item.is)) (read_both v (text_lookups f n x.text) more c.in_ok-other.ensures.reads h));
  meets = λ e h.
      let f = c.args.field.now in
      let n = c.args.number in
      let v = c.args.part.now in
      let x = c.item-item.result in
      let more = item_lookups f n (drop (c.loop-item.item-index + 1) c.args.items.now) in
      c.loop-item.invariant.meets e (subst (λ ls. SomeMeets v ls e) (sym (items_from f n c.loop-item.item-index x c.args.items.now c.loop-item-test.true c.item-item.is)) (meets_others v (text_lookups f n x.text) more e h));
}

pub loop-item-init : goal.loop-item-init
loop-item-init c = record {
  size = c.in_ok-bits.ensures.size;
  only = λ s documents p is got on can. (λ d. false, c.in_ok-bits.ensures.only s documents p is, λ d. refl);
  read = λ h. h;
  meets = λ e h. h;
}

pub returns-in_err-other-clause-reads : goal.returns-in_err-other-clause-reads
returns-in_err-other-clause-reads c =
    let n = c.args.number in
    let v = c.args.part.now in
    let f = c.args.field.now in
    let i = c.loop-item.item-index in
    let x = c.item-item.result in
    let items = c.args.items.now in
    let e = c.in_err-other.field-0.0 in
    met v (item_lookups f n items) c.from_residual-in_err-other.result e c.from_residual-in_err-other.ensures.1
    (met_wider v (text_lookups f n x.text) (item_lookups f n items) e
    (λ g h. c.loop-item.invariant.meets g (subst (λ ls. SomeMeets v ls g) (sym (items_from f n i x items c.loop-item-test.true c.item-item.is)) (meets_first v (text_lookups f n x.text) (item_lookups f n (drop (i + 1) items)) g h))) c.in_err-other.ensures.reads)

pub returns-clause-reads : goal.returns-clause-reads
returns-clause-reads c =
    c.loop-item.invariant.read (subst (λ items. AreRead c.args.part.now (item_lookups c.args.field.now c.args.number items)) (sym (none_behind c.args.items.now c.loop-item.item-index c.loop-item-test.false)) tt)

pub returns-in_err-other-clause-only : goal.returns-in_err-other-clause-only
returns-in_err-other-clause-only c = λ s documents p is got on can.
    let n = c.args.number in
    let v = c.args.part.now in
    let f = c.args.field.now in
    let x = c.item-item.result in
    let items = c.args.items.now in
    let e = c.in_err-other.field-0.0 in
    handed_on (IsSetOf (λ d. some_item_holds f (values_in d n) items) documents) (LacksLookups v s documents p (item_lookups f n items)) c.from_residual-in_err-other.result e c.from_residual-in_err-other.ensures.1
    (item_lacks v s documents p n f c.loop-item.item-index x items e c.loop-item-test.true c.item-item.is (c.in_err-other.ensures.only s documents p is got on (can_item f c.loop-item.item-index x items c.loop-item-test.true c.item-item.is can)))

pub returns-clause-only : goal.returns-clause-only
returns-clause-only c = λ s documents p is got on can.
    let i = c.loop-item.invariant.only s documents p is got on can in
    let f = c.args.field.now in
    let n = c.args.number in
    let items = c.args.items.now in
    set_alike i.0 (λ d. some_item_holds f (values_in d n) items) documents c.loop-item.bits
    (λ d. sym (or_false (i.0 d)) ∙ (ap (λ ys. i.0 d || some_item_holds f (values_in d n) ys) (sym (none_behind items c.loop-item.item-index c.loop-item-test.false)) ∙ i.2 d)) i.1
