use Rattle.std.proofs.Common.{◌<◌, ℕ, List, None, length, take, get_or, ap, sym, subst, ◌∙◌}
use Rattle.std.proofs.lemmas.List.{take_all}
use Rattle.std.proofs.lemmas.List.Elements.{Contains-get_or}
use Rattle.split_bundle.specs.declared.placed.Placed.{Placed}
use Rattle.doc_tallies.specs.Orders.{comes_before, firsts}
use Rattle.doc_tallies.specs.Picked.{picked}
use Rattle.doc_tallies.proofs.Faults.{cause_of_one}
use Rattle.doc_tallies.proofs.HitOrders.{hits_order}
use Rattle.doc_tallies.proofs.PickedLists.{picked_more}
use Rattle.doc_tallies.proofs.Late.{firsts_push}
use Rattle.doc_tallies.proofs.TimeValues.{stands}
use Rattle.doc_tallies.proofs.hits.hits_by_address.Goals as goal

pub loop-number-preserved : goal.loop-number-preserved
loop-number-preserved c = record {
  bar = c.in-Ok.ensures.bar;
  only = λ documents p part.
      let i = c.loop-number.number-index in
      let ns = c.args.numbers.now in
      let wanted = c.args.wanted in
      let lt : i < length ns = c.loop-number-test.true in
      let counted = part.footer.layout.docs ∙ part.is_split.docs in
      let at = stands documents (get_or ns i 0) (subst (λ (n : ℕ). get_or ns i 0 < n) counted (c.requires i 0 lt)) in
      let kept : List Placed = c.loop-number.kept.items in
      let done : List Placed = picked (take i ns) documents in
      c.in-Ok.ensures.only documents p at.document part at.here
      ∙ (firsts_push (comes_before None) (hits_order None) wanted kept done at.document (c.loop-number.invariant.only documents p part)
      ∙ ap (firsts wanted None) (sym (picked_more ns i documents at.document lt at.here)));
}

pub returns-in-Err-clause-only : goal.returns-in-Err-clause-only
returns-in-Err-clause-only c = λ documents p part.
    let i = c.loop-number.number-index in
    let ns = c.args.numbers.now in
    let lt : i < length ns = c.loop-number-test.true in
    let counted = part.footer.layout.docs ∙ part.is_split.docs in
    let at = stands documents (get_or ns i 0) (subst (λ (n : ℕ). get_or ns i 0 < n) counted (c.requires i 0 lt)) in
    cause_of_one c.args.view.now p documents ns (get_or ns i 0) c.in-Err.fault (Contains-get_or ns i 0 lt) (c.in-Err.ensures.only documents p at.document part at.here)

pub returns-in-Err-clause-there : goal.returns-in-Err-clause-there
returns-in-Err-clause-there c = λ documents p part have.
    let i = c.loop-number.number-index in
    let ns = c.args.numbers.now in
    let lt : i < length ns = c.loop-number-test.true in
    let counted = part.footer.layout.docs ∙ part.is_split.docs in
    let at = stands documents (get_or ns i 0) (subst (λ (n : ℕ). get_or ns i 0 < n) counted (c.requires i 0 lt)) in
    c.in-Err.ensures.there documents p at.document part have at.here

pub returns-clause-only : goal.returns-clause-only
returns-clause-only c = λ documents p part.
    let kept = c.in_ok-cut.ensures in
    c.from_vec.ensures ∙ (kept ∙ (c.loop-number.invariant.only documents p part
    ∙ ap (λ (xs : List ℕ). firsts c.args.wanted None (picked xs documents)) (take_all c.loop-number.number-index c.args.numbers.now c.loop-number-test.false)))
