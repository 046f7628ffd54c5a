-- The answer to a request that only counts, by the number of the documents that match.
use Rattle.std.proofs.Common.{◌≡◌, ◌==◌, ◌&&◌, ℕ, Bool, true, List, [], length, filter, ap, sym, ◌∙◌}
use Rattle.std.proofs.lemmas.Bool.{eqb-true, and_parts}
use Rattle.doc_value.specs.declared.schema.Schema.{Schema}
use Rattle.doc_value.specs.declared.doc.DocField.{DocField}
use Rattle.query_ast.specs.Meaning.{meaning, is_unlimited}
use Rattle.query_ast.specs.Sought.{view}
use Rattle.agg_nested.specs.Buckets.{IsNestedPartial, documents_counted}
use Rattle.split_bundle.specs.declared.placed.Placed.{Placed}
use Rattle.doc_tallies.specs.Orders.{firsts}
use Rattle.doc_tallies.specs.Picked.{docs_of}
use Rattle.leaf_search.specs.Answers.{found, passes, IsAnswerOf}
use Rattle.leaf_search.specs.Counts.{only_counts}
use Rattle.leaf_search.specs.declared.request.LeafAnswer.{LeafAnswer}
use Rattle.leaf_search.specs.declared.request.LeafRequest.{LeafRequest}
use Rattle.leaf_search.proofs.KeyCounts.{many_docs, no_aggs, stands_for}
use Rattle.leaf_search.proofs.LeafSteps.{many, unlimited}

pub count_answer : (s : Schema) (r : LeafRequest) (ds : List Placed) (n : ℕ) (a : LeafAnswer) → only_counts r ≡ true → n ≡ length (filter (λ d. meaning s d.doc (view r.query)) ds) → a.count ≡ n → a.hits ≡ [] → documents_counted a.partial ≡ a.count
    → IsNestedPartial r.aggs a.partial → IsAnswerOf s r ds a
count_answer s r ds n a counts is count hits documents partial =
    let first = and_parts (r.wanted == 0) (is_unlimited r.times.start r.times.end && (length r.aggs == 0)) counts in
    let second = and_parts (is_unlimited r.times.start r.times.end) (length r.aggs == 0) first.1 in
    let test : List DocField → Bool = λ d. meaning s d (view r.query) in
    let all : a.count ≡ length (found s r ds) = count ∙ (is ∙ (sym (many test ds) ∙ (ap length (unlimited s r.times test ds second.0) ∙ many (passes s r) ds))) in
    record {
      count = all;
      hits = hits ∙ sym (ap (λ w. firsts w r.order (found s r ds)) (eqb-true r.wanted 0 first.0));
      partial = stands_for r.aggs a.partial (docs_of (found s r ds)) (no_aggs r.aggs second.1) partial (documents ∙ (all ∙ many_docs (found s r ds)));
    }
