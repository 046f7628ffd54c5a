use Rattle.std.proofs.Common.{◌≡◌, ◌+◌, ◌<◌, ◌++◌, ℕ, List, length, get_or, refl, ap, sym, subst, ◌∙◌, arith}
use Rattle.std.specs.Option.{option_map}
use Rattle.std.proofs.lemmas.List.{take_all}
use Rattle.std.proofs.lemmas.List.Elements.{All-append}
use Rattle.fast_fields.specs.Readers.{Holds}
use Rattle.fast_fields.specs.declared.column.Column.{Column}
use Rattle.doc_tallies.specs.Classes.{AreClasses}
use Rattle.doc_tallies.specs.Marks.{mark_of}
use Rattle.doc_tallies.specs.declared.classes.Class.{Class}
use Rattle.doc_tallies.proofs.Classing.{classes_more, classes_regrouped, counted_sum, marked_back, marked_front, none_classes, none_sum}
use Rattle.doc_tallies.proofs.tables.tabled.Goals as goal

pub loop-number-init : goal.loop-number-init
loop-number-init c =
    let cells = c.in_ok-cells.cells.items in
    let classes = c.in_ok-classes.classes.items in
    let both = All-append (λ (x : Class). x.count ≡ 0) cells classes c.in_ok-cells.ensures.none c.in_ok-classes.ensures.none in
    record {
      size = omega (arith, c.in_ok-classes.ensures.len, c.places_of-places.ensures);
      column = c.over-values.ensures;
      table = c.in_ok-cells.ensures.table;
      total = none_sum (cells ++ classes) both;
      only = λ texts entries bound holds below. none_classes c.args.agg.now c.args.field.now.kind entries bound (cells ++ classes) both;
    }

pub loop-number-preserved : goal.loop-number-preserved
loop-number-preserved c =
    let agg = c.args.agg.now in
    let kind = c.args.field.now.kind in
    let f = mark_of c.args.agg.now c.args.field.now.kind in
    let old = c.loop-number.cells.items ++ c.loop-number.classes.items in
    let new = c.count_either.new.cells.items ++ c.count_either.new.classes.items in
    let n : ℕ = get_or c.args.numbers.now c.loop-number.number-index 0 in
    let mark = option_map f c.value_at-value.result in
    let counted = c.if-not-count_either.ensures.counted c.loop-number.invariant.table in
    record {
      size = omega (arith, c.if-not-count_either.ensures.len, c.loop-number.invariant.size);
      column = c.value_at-value.ensures.column ∙ c.loop-number.invariant.column;
      table = c.if-not-count_either.ensures.table c.loop-number.invariant.table;
      total = counted_sum mark 1 n old new counted ∙ ap (λ (k : ℕ). k + 1) c.loop-number.invariant.total;
      only = λ texts entries bound holds below.
          let i = c.loop-number.number-index in
          let ns = c.args.numbers.now in
          let lt : i < length ns = c.loop-number-test.true in
          let first = c.value_at-value.ensures.only texts entries (subst (λ (k : Column). Holds k texts entries) (sym c.loop-number.invariant.column) holds) in
          classes_more agg kind entries bound ns i n mark old new lt refl (below i 0 lt) (ap (option_map f) first) counted (c.loop-number.invariant.only texts entries bound holds below);
    }

pub returns-clause-only : goal.returns-clause-only
returns-clause-only c = λ texts entries bound holds below.
    let agg = c.args.agg.now in
    let kind = c.args.field.now.kind in
    let ns = c.args.numbers.now in
    let cells = c.loop-number.cells.items in
    let old = c.loop-number.classes.items in
    let are = subst (λ (xs : List ℕ). AreClasses c.args.agg.now c.args.field.now.kind entries bound xs (c.loop-number.cells.items ++ c.loop-number.classes.items)) (take_all c.loop-number.number-index c.args.numbers.now c.loop-number-test.false)
    (c.loop-number.invariant.only texts entries bound holds below) in
    let told = rw c.as_slice.ensures.value at c.if-not-regrouped.ensures.marked in
    classes_regrouped agg kind entries bound ns cells old c.regrouped.new.classes.items are
    (told agg kind entries bound (marked_front agg kind entries bound ns cells old are) (marked_back agg kind entries bound ns cells old are))
