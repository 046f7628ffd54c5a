use Rattle.std.proofs.Common.{List, ap, subst, length, arith}
use Rattle.std.specs.List.{AllByRecursion}
use Rattle.std.proofs.lemmas.List.{nil_from_length}
use Rattle.doc_value.specs.declared.doc.Value.{Value}
use Rattle.split_bundle.specs.Keys.{of_values}
use Rattle.split_build.specs.Said.{in_document}
use Rattle.split_build.specs.Walks.{IsShort}
use Rattle.split_build.proofs.WalkLemmas.{values_step, walked_start, walked_end}
use Rattle.split_build.proofs.occurrences.Walker.add_values.Goals as goal

pub loop-value-init : goal.loop-value-init
loop-value-init c = record {
  few = omega (arith, c.requires.short.few);
  short = c.requires.short.each;
  walked = λ s kept. walked_start c.args.terms.now s (in_document c.args.document (of_values c.args.field.now c.args.number 0 c.args.values.now));
}

pub loop-value-preserved : goal.loop-value-preserved
loop-value-preserved c =
    let short = subst (λ (vs : List Value). AllByRecursion IsShort vs) c.in-Some.ensures.cases.0 c.loop-value.invariant.short in
    record {
      few = omega (arith, c.loop-value.invariant.few, ap (λ (vs : List Value). length vs) c.in-Some.ensures.cases.0);
      short = short.1;
      walked = λ s kept.
          values_step c.args.terms.now c.loop-value.terms c.add_value.new.terms s c.args.field.now c.args.number c.args.document c.loop-value.place c.in-Some.value.now c.in-Some.behind.now c.loop-value.rest.now c.args.values.now
          c.in-Some.ensures.cases.0 (c.loop-value.invariant.walked s kept) (c.in_ok-add_value.ensures s kept);
    }

pub returns : goal.returns
returns c = λ s kept.
    walked_end c.args.terms.now c.loop-value.terms s (in_document c.args.document (of_values c.args.field.now c.args.number c.loop-value.place c.loop-value.rest.now)) (in_document c.args.document (of_values c.args.field.now c.args.number 0 c.args.values.now))
    (ap (λ (vs : List Value). in_document c.args.document (of_values c.args.field.now c.args.number c.loop-value.place vs)) (nil_from_length c.loop-value.rest.now c.in_default.ensures.cases)) (c.loop-value.invariant.walked s kept)
