use Rattle.std.proofs.Common.{◌+◌, ◌<◌, ℕ, List, length, get_or, refl, ap, subst, ◌∙◌, arith}
use Rattle.std.proofs.lemmas.List.{take_all}
use Rattle.doc_tallies.specs.Classes.{AreClasses}
use Rattle.doc_tallies.proofs.Classing.{classes_more, counted_sum, none_classes, none_sum}
use Rattle.doc_tallies.proofs.classes.classes_each.Goals as goal

pub loop-number-init : goal.loop-number-init
loop-number-init c = record {
  size = omega (arith, c.in_ok-classes.ensures.len, c.places_of-places.ensures);
  total = none_sum c.in_ok-classes.classes.items c.in_ok-classes.ensures.none;
  only = λ texts entries bound holds below. none_classes c.args.agg.now c.args.field.now.kind entries bound c.in_ok-classes.classes.items c.in_ok-classes.ensures.none;
}

pub loop-number-preserved : goal.loop-number-preserved
loop-number-preserved c =
    let old = c.loop-number.classes.items in
    let new = c.count_one.new.classes.items in
    let n : ℕ = get_or c.args.numbers.now c.loop-number.number-index 0 in
    let counted = c.if-not-count_one.ensures.counted in
    record {
      size = omega (arith, c.if-not-count_one.ensures.len, c.loop-number.invariant.size);
      total = counted_sum c.mark_at-mark.result 1 n old new counted ∙ ap (λ (k : ℕ). k + 1) c.loop-number.invariant.total;
      only = λ texts entries bound holds below.
          let i = c.loop-number.number-index in
          let ns = c.args.numbers.now in
          let lt : i < length ns = c.loop-number-test.true in
          classes_more c.args.agg.now c.args.field.now.kind entries bound ns i n c.mark_at-mark.result old new lt refl (below i 0 lt) (c.mark_at-mark.ensures texts entries holds) counted
          (c.loop-number.invariant.only texts entries bound holds below);
    }

pub returns-clause-only : goal.returns-clause-only
returns-clause-only c = λ texts entries bound holds below.
    subst (λ (ns : List ℕ). AreClasses c.args.agg.now c.args.field.now.kind entries bound ns c.loop-number.classes.items) (take_all c.loop-number.number-index c.args.numbers.now c.loop-number-test.false)
    (c.loop-number.invariant.only texts entries bound holds below)
