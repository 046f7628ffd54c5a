use Rattle.leaf_search.proofs.ReadQueries.{field_reads, no_field_reads}
use Rattle.std.proofs.Common.{◌≡◌, true, Some, slice_get}
use Rattle.query_ast.specs.Meaning.{word_holds}
use Rattle.doc_value.specs.Documents.{values_in}
use Rattle.doc_sets.specs.Texts.{text_lookups}
use Rattle.leaf_search.proofs.QuerySteps.{at_field, field_fact, no_field}
use Rattle.leaf_search.proofs.fields.with_word.Goals as goal

pub returns-in-Some-clause-only : goal.returns-in-Some-clause-only
returns-in-Some-clause-only c = λ documents p is can.
    let n = c.args.number in
    let s = c.args.schema.now in
    let v = c.args.part.now in
    let f = c.in-Some.field.now in
    let got : slice_get s.fields n ≡ Some f = c.in-Some.ensures.found in
    let known = field_fact s n f (λ f. (f.indexed ≡ true) × (Unit {0})) got can in
    at_field v s documents p n f c.word_documents.result (λ g d. word_holds g c.args.text.now (values_in d n)) (λ g. text_lookups g n c.args.text.now) got
    (c.word_documents.ensures.only s documents p is got known.0)

pub returns-in_ok-no_documents-in-None-clause-only : goal.returns-in_ok-no_documents-in-None-clause-only
returns-in_ok-no_documents-in-None-clause-only c = λ documents p is can. absurd (no_field c.args.schema.now c.args.number (λ f. (f.indexed ≡ true) × (Unit {0})) c.in-None.ensures.found can)

pub returns-in-Some-clause-reads : goal.returns-in-Some-clause-reads
returns-in-Some-clause-reads c =
    let n = c.args.number in
    field_reads c.args.part.now c.args.schema.now n c.in-Some.field.now (λ g. text_lookups g n c.args.text.now) c.word_documents.result c.in-Some.ensures.found c.word_documents.ensures.reads

pub returns-in_ok-no_documents-in-None-clause-reads : goal.returns-in_ok-no_documents-in-None-clause-reads
returns-in_ok-no_documents-in-None-clause-reads c =
    let n = c.args.number in
    no_field_reads c.args.part.now c.args.schema.now n (λ g. text_lookups g n c.args.text.now) c.in-None.ensures.found
