use Rattle.std.proofs.Common.{◌≡◌, ◌∙◌, ◌++◌, ◌∷◌, [], List, ℕ, sym, subst, refl, length, length-append, arith}
use Rattle.std.proofs.Props.{props}
use Rattle.std.proofs.Math.Logic.{∥∥₁_elim}
use Rattle.doc_value.specs.declared.doc.DocField.{DocField}
use Rattle.split_bundle.specs.Keys.{keys_of}
use Rattle.split_bundle.proofs.Light.{few_documents}
use Rattle.split_build.specs.Said.{in_document, said_from}
use Rattle.split_build.specs.HeldTerms.{HasSaid}
use Rattle.split_build.specs.Walks.{IsShortDoc}
use Rattle.split_build.proofs.TakenLemmas.{short_doc}
use Rattle.split_build.proofs.BuilderLemmas.{is_schema, is_light, said_of, taken_light, taken_more, times_of}
use Rattle.split_build.proofs.Mere.{schema_prop, short_prop}
use Rattle.split_build.proofs.builder.Builder.take.Goals as goal

pub add_document-requires-clause-schema : goal.add_document-requires-clause-schema
add_document-requires-clause-schema c = ∥∥₁_elim c.requires (schema_prop c.args.self.now.schema) (λ r. is_schema c.args.self.now r.0 r.1 r.2.taken)

pub add_document-requires-clause-short : goal.add_document-requires-clause-short
add_document-requires-clause-short c =
    subst (λ (d : List DocField). IsShortDoc d) (sym c.as_slice-doc.ensures)
    (∥∥₁_elim c.requires (short_prop c.args.placed.now.doc) (λ r. short_doc c.args.placed.now (is_light r.0 r.1 c.args.placed.now r.2.are_documents)))

pub returns : goal.returns
returns c = λ s ds can.
    let count : c.args.self.now.count ≡ length ds = can.taken.count in
    let said : HasSaid c.add_document.new.terms c.args.self.now.schema (said_from c.args.self.now.schema 0 ds ++ in_document (length ds) (keys_of c.args.self.now.schema c.args.placed.now.doc)) =
    subst (λ (d : List DocField). HasSaid c.add_document.new.terms c.args.self.now.schema (said_from c.args.self.now.schema 0 ds ++ in_document (length ds) (keys_of c.args.self.now.schema d))) c.as_slice-doc.ensures
    (subst (λ (n : ℕ). HasSaid c.add_document.new.terms c.args.self.now.schema (said_from c.args.self.now.schema 0 ds ++ in_document n (keys_of c.args.self.now.schema c.as_slice-doc.result.now))) count
    (c.in_ok-add_document.ensures (said_from c.args.self.now.schema 0 ds) (said_of c.args.self.now s ds can.taken))) in
    taken_more c.args.self.now _ s ds c.args.placed.now can refl refl (omega (arith, c.len.ensures, c.args.self.now.body.ok.0))
    (c.in_ok-add.ensures ds c.args.placed.now refl (c.deref.ensures.value ∙ can.body) can.taken.bodies)
    said
    (c.in_ok-add_columns.ensures s ds count can.taken.columns)
    (c.in_ok-add_tags.ensures _ ds can.taken.tags)
    (c.times_with-self.ensures ds (times_of c.args.self.now s ds can.taken))

pub overflow_add-self-3 : goal.overflow_add-self-3
overflow_add-self-3 c =
    ∥∥₁_elim c.requires (hlevel props)
    (λ r. let few = few_documents r.0 (r.1 ++ c.args.placed.now ∷ []) r.2.are_documents in omega (arith, few, r.2.taken.count, length-append r.1 (c.args.placed.now ∷ [])))

pub overflow_add-self-2 : goal.overflow_add-self-2
overflow_add-self-2 c =
    ∥∥₁_elim c.requires (hlevel props)
    (λ r. let light = taken_light c.args.self.now r.0 r.1 r.2.taken in omega (arith, light, c.len.ensures, c.args.self.now.body.ok.0, c.args.self.now.body.small))
