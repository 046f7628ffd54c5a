use Rattle.std.proofs.Common.{◌≡◌, ◌∷◌, [], true, Some, slice_get}
use Rattle.query_ast.specs.Meaning.{is_text, some_has_prefix}
use Rattle.doc_value.specs.Documents.{values_in}
use Rattle.query_ast.specs.FieldTokens.{prefix_text}
use Rattle.split_bundle.specs.Keys.{field_key}
use Rattle.doc_sets.specs.Asking.{LacksLookups}
use Rattle.doc_sets.specs.Faults.{LacksPart}
use Rattle.doc_sets.specs.Sets.{IsSetOf}
use Rattle.doc_sets.specs.Walks.{AsksWalk}
use Rattle.doc_sets.specs.declared.dictionary_lookup.Lookup.TheVariants.{Walk}
use Rattle.doc_sets.specs.declared.wanted.Wanted.TheVariants.{Each}
use Rattle.doc_sets.proofs.Looked.{walk_lacks_looked, wider_result}
use Rattle.leaf_search.proofs.ReadQueries.{field_reads, no_field_reads}
use Rattle.leaf_search.proofs.QuerySteps.{at_field, field_fact, no_field}
use Rattle.leaf_search.proofs.fields.with_prefix.Goals as goal

pub returns-in-Some-clause-only : goal.returns-in-Some-clause-only
returns-in-Some-clause-only c = λ documents p is can.
    let n = c.args.number in
    let s = c.args.schema.now in
    let v = c.args.part.now in
    let f = c.in-Some.field.now in
    let got : slice_get s.fields n ≡ Some f = c.in-Some.ensures.found in
    let known = field_fact s n f (λ f. (f.indexed ≡ true) × (is_text f.kind ≡ true)) got can in
    let key = field_key n (prefix_text f c.args.text.now) in
    at_field v s documents p n f c.prefix_documents.result (λ g d. some_has_prefix g (prefix_text g c.args.text.now) (values_in d n)) (λ g. Walk (field_key n (prefix_text g c.args.text.now)) Each ∷ []) got
    (wider_result (IsSetOf (λ d. some_has_prefix f (prefix_text f c.args.text.now) (values_in d n)) documents) (LacksPart (AsksWalk v s documents p key Each) v.pieces) (LacksLookups v s documents p (Walk key Each ∷ [])) c.prefix_documents.result
    (walk_lacks_looked v s documents p key Each) (c.prefix_documents.ensures.only s documents p is got known.0 known.1))

pub returns-in_ok-no_documents-in-None-clause-only : goal.returns-in_ok-no_documents-in-None-clause-only
returns-in_ok-no_documents-in-None-clause-only c = λ documents p is can. absurd (no_field c.args.schema.now c.args.number (λ f. (f.indexed ≡ true) × (is_text f.kind ≡ true)) c.in-None.ensures.found can)

pub returns-in-Some-clause-reads : goal.returns-in-Some-clause-reads
returns-in-Some-clause-reads c =
    let n = c.args.number in
    field_reads c.args.part.now c.args.schema.now n c.in-Some.field.now (λ g. Walk (field_key n (prefix_text g c.args.text.now)) Each ∷ []) c.prefix_documents.result c.in-Some.ensures.found c.prefix_documents.ensures.reads

pub returns-in_ok-no_documents-in-None-clause-reads : goal.returns-in_ok-no_documents-in-None-clause-reads
returns-in_ok-no_documents-in-None-clause-reads c =
    let n = c.args.number in
    no_field_reads c.args.part.now c.args.schema.now n (λ g. Walk (field_key n (prefix_text g c.args.text.now)) Each ∷ []) c.in-None.ensures.found
