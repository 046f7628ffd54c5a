use Rattle.std.proofs.Common.{◌≡◌, ◌∷◌, [], true, Some, slice_get}
use Rattle.query_ast.specs.Meaning.{between}
use Rattle.doc_value.specs.Documents.{values_in}
use Rattle.query_ast.specs.Queries.{has_order}
use Rattle.doc_sets.specs.Ranged.{range_lookup}
use Rattle.leaf_search.proofs.ReadQueries.{field_reads, no_field_reads}
use Rattle.leaf_search.proofs.QuerySteps.{at_any_field, field_fact, no_field}
use Rattle.leaf_search.proofs.fields.within_range.Goals as goal

pub returns-in-Some-clause-only : goal.returns-in-Some-clause-only
returns-in-Some-clause-only c = λ documents p is can.
    let n = c.args.number in
    let s = c.args.schema.now in
    let v = c.args.part.now in
    let f = c.in-Some.field.now in
    let got : slice_get s.fields n ≡ Some f = c.in-Some.ensures.found in
    let known = field_fact s n f (λ f. (f.indexed ≡ true) × (has_order f.kind ≡ true)) got can in
    at_any_field v s documents p n f c.range_documents.result (λ d. between c.args.low.now c.args.high.now (values_in d n)) (λ g. range_lookup v.footer n g c.args.low.now c.args.high.now ∷ []) got
    (c.range_documents.ensures.only documents p is known.0 known.1)

pub returns-in_ok-no_documents-in-None-clause-only : goal.returns-in_ok-no_documents-in-None-clause-only
returns-in_ok-no_documents-in-None-clause-only c = λ documents p is can. absurd (no_field c.args.schema.now c.args.number (λ f. (f.indexed ≡ true) × (has_order f.kind ≡ true)) c.in-None.ensures.found can)

pub returns-in-Some-clause-reads : goal.returns-in-Some-clause-reads
returns-in-Some-clause-reads c =
    let n = c.args.number in
    let v = c.args.part.now in
    field_reads v c.args.schema.now n c.in-Some.field.now (λ g. range_lookup v.footer n g c.args.low.now c.args.high.now ∷ []) c.range_documents.result c.in-Some.ensures.found c.range_documents.ensures.reads

pub returns-in_ok-no_documents-in-None-clause-reads : goal.returns-in_ok-no_documents-in-None-clause-reads
returns-in_ok-no_documents-in-None-clause-reads c =
    let n = c.args.number in
    let v = c.args.part.now in
    no_field_reads v c.args.schema.now n (λ g. range_lookup v.footer n g c.args.low.now c.args.high.now ∷ []) c.in-None.ensures.found
