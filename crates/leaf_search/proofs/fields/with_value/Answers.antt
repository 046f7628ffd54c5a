use Rattle.std.proofs.Common.{◌≡◌, ◌∷◌, [], true, Some, slice_get}
use Rattle.query_ast.specs.Meaning.{is_there}
use Rattle.doc_value.specs.Documents.{values_in}
use Rattle.split_bundle.specs.Keys.{presence_key}
use Rattle.doc_sets.specs.Asking.{LacksLookups}
use Rattle.doc_sets.specs.Needed.{LacksKeys}
use Rattle.doc_sets.specs.Sets.{IsSetOf}
use Rattle.doc_sets.specs.declared.dictionary_lookup.Lookup.TheVariants.{Documents}
use Rattle.doc_sets.proofs.Looked.{keys_lack, wider_result}
use Rattle.leaf_search.proofs.QuerySteps.{at_any_field, field_fact, no_field}
use Rattle.leaf_search.proofs.fields.with_value.Goals as goal

pub returns-in-Some-clause-only : goal.returns-in-Some-clause-only
returns-in-Some-clause-only c = λ documents p is can.
    let n = c.args.number in
    let s = c.args.schema.now in
    let v = c.args.part.now in
    let f = c.in-Some._field.now in
    let got : slice_get s.fields n ≡ Some f = c.in-Some.ensures.found in
    let known = field_fact s n f (λ f. (f.indexed ≡ true) × (Unit {0})) got can in
    let key = presence_key n in
    at_any_field v s documents p n f c.present_documents.result (λ d. is_there (values_in d n)) (λ g. Documents key ∷ []) got
    (wider_result (IsSetOf (λ d. is_there (values_in d n)) documents) (LacksKeys v s documents p (key ∷ [])) (LacksLookups v s documents p (Documents key ∷ [])) c.present_documents.result
    (keys_lack v s documents p (key ∷ [])) (c.present_documents.ensures.only s documents p f is got known.0))

pub returns-in_ok-no_documents-in-None-clause-only : goal.returns-in_ok-no_documents-in-None-clause-only
returns-in_ok-no_documents-in-None-clause-only c = λ documents p is can. absurd (no_field c.args.schema.now c.args.number (λ f. (f.indexed ≡ true) × (Unit {0})) c.in-None.ensures.found can)
