use Rattle.std.proofs.Common.{List, ap, inl, inr, refl, subst, length, arith, ◌∙◌}
use Rattle.std.proofs.lemmas.List.{nil_from_length}
use Rattle.doc_value.specs.declared.doc.Value.{Value}
use Rattle.fast_fields.specs.Columns.{cells_of}
use Rattle.fast_fields.specs.Texts.{texts_in, EachIsAmong}
use Rattle.fast_fields.proofs.Grown.{no_values, one_value, all_values}
use Rattle.fast_fields.proofs.entries.add_row.Goals as goal

pub loop-value-init : goal.loop-value-init
loop-value-init c = (λ done g. no_values (texts_in c.args.texts.now) c.args.document done c.args.values.now c.args.entries.now.items g, c.requires.among, refl, refl)

pub number_of-number-requires-clause-among : goal.number_of-number-requires-clause-among
number_of-number-requires-clause-among c t is =
    subst (λ (l : List Value). EachIsAmong (cells_of c.args.document l) (texts_in c.args.texts.now)) c.in-Some.ensures.cases.0 c.loop-value.invariant.1 t (inl is)

pub add_entry-requires : goal.add_entry-requires
add_entry-requires c =
    omega (arith, c.loop-value.invariant.2, c.loop-value.invariant.3, c.requires.room, ap (λ (l : List Value). length l) c.in-Some.ensures.cases.0)

pub loop-value-preserved : goal.loop-value-preserved
loop-value-preserved c = (
  λ done g.
      one_value (texts_in c.args.texts.now) c.args.document c.number_of-number.result done c.in-Some.value.now c.loop-value.rest.now c.in-Some.behind.now c.args.values.now c.loop-value.entries.items c.add_entry.new.entries.items
      c.in-Some.ensures.cases.0 (c.loop-value.invariant.0 done g) c.add_entry.ensures.added c.number_of-number.ensures c.add_entry.ensures.document c.add_entry.ensures.number,
  λ t h. subst (λ (l : List Value). EachIsAmong (cells_of c.args.document l) (texts_in c.args.texts.now)) c.in-Some.ensures.cases.0 c.loop-value.invariant.1 t (inr h),
  omega (arith, c.loop-value.invariant.2, c.add_entry.ensures.len, ap (λ (l : List Value). length l) c.in-Some.ensures.cases.0),
  c.add_entry.ensures.capacity ∙ c.loop-value.invariant.3,
)

pub returns-clause-grown : goal.returns-clause-grown
returns-clause-grown c done g =
    all_values (texts_in c.args.texts.now) c.args.document done c.loop-value.rest.now c.args.values.now c.loop-value.entries.items (nil_from_length c.loop-value.rest.now c.in_default.ensures.cases) (c.loop-value.invariant.0 done g)
