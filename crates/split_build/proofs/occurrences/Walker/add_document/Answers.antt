use Rattle.std.proofs.Common.{◌∙◌, List, ap, subst, sym, length, arith}
use Rattle.doc_value.specs.declared.doc.Value.{Value}
use Rattle.doc_value.specs.declared.schema.Field.{Field}
use Rattle.split_bundle.specs.Keys.{of_field, of_fields}
use Rattle.split_build.specs.Said.{in_document}
use Rattle.split_build.specs.Walks.{Adds}
use Rattle.split_build.proofs.WalkLemmas.{Walked, walked_start, fields_step, field_drop, field_here, field_kept, presence_none}
use Rattle.split_build.proofs.occurrences.Walker.add_document.Goals as goal

pub loop-field-init : goal.loop-field-init
loop-field-init c = record {
  left = sym c.as_slice-rest.ensures;
  count = omega (arith, ap (λ (fs : List Field). length fs) c.as_slice-rest.ensures);
  walked = subst (λ (fs : List Field). Walked c.args.terms.now c.args.terms.now c.args.schema.now (in_document c.args.document (of_fields fs 0 c.args.doc.now)) (in_document c.args.document (of_fields c.args.schema.now.fields 0 c.args.doc.now)))
      (sym c.as_slice-rest.ensures) (walked_start c.args.terms.now c.args.schema.now (in_document c.args.document (of_fields c.args.schema.now.fields 0 c.args.doc.now)));
}

pub loop-field-preserved : goal.loop-field-preserved
loop-field-preserved c =
    let here = c.loop-field.invariant.left ∙ c.in-Some.ensures.cases.0 in
    let kept = field_kept c.args.schema.now c.loop-field.number c.in-Some.field.now (field_here c.args.schema.now.fields c.loop-field.number c.in-Some.field.now c.in-Some.behind.now here) in
    let none = presence_none c.args.schema.now c.loop-field.number c.requires.schema in
    record {
      left = field_drop c.args.schema.now.fields c.loop-field.number c.in-Some.field.now c.in-Some.behind.now here;
      count = omega (arith, c.loop-field.invariant.count, ap (λ (fs : List Field). length fs) c.in-Some.ensures.cases.0);
      walked =
          fields_step c.args.terms.now c.loop-field.terms c.add_field.new.terms c.args.schema.now c.loop-field.number c.args.document c.args.doc.now c.in-Some.field.now c.in-Some.behind.now c.loop-field.rest.now
          c.args.schema.now.fields c.in-Some.ensures.cases.0 c.loop-field.invariant.walked
          (subst (λ (vs : List Value). Adds c.loop-field.terms c.add_field.new.terms c.args.schema.now (in_document c.args.document (of_field c.in-Some.field.now c.loop-field.number vs))) c.values_in.ensures
          (c.in_ok-add_field.ensures c.args.schema.now kept none));
    }
