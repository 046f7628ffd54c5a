-- The values of documents, each with how many documents have it.
use Rattle.std.specs.Prelude.{ℕ, Bool, List, map, take, drop, sum_by}
use Rattle.std.specs.List.{flat_map}
use Rattle.std.specs.Ordering.{is_lt}
use Rattle.doc_value.specs.declared.doc.Value.{Value}
use Rattle.doc_value.specs.declared.doc.DocField.{DocField}
use Rattle.agg_model.specs.Answers.{rank, value_bucket}
use Rattle.agg_nested.specs.Ordered.{ordered}
use Rattle.agg_model.specs.Counting.{value_count}
use Rattle.doc_value.specs.Documents.{values_in}
use Rattle.agg_model.specs.declared.answer.AggAnswer.{AggAnswer}
use Rattle.agg_model.specs.declared.answer.AggAnswer.TheVariants as answers
use Rattle.agg_model.specs.declared.ranking.ValueCount.{ValueCount}

-- all values of a field, document by document
abbrev pub values_of : ℕ → List (List DocField) → List Value
values_of field documents = flat_map (λ doc. values_in doc field) documents

-- a value with how many documents have it
abbrev pub counted : ℕ → List (List DocField) → Value → ValueCount
counted field documents value = record { value = value; count = value_count field documents value }

-- more documents have the first, or as many and it is the lower value
abbrev pub ranks_before : ValueCount → ValueCount → Bool
ranks_before a b = is_lt (rank a b)

-- each value that some document has, once, by rank
unfoldable pub terms_of : ℕ → List (List DocField) → List ValueCount
terms_of field documents = ordered ranks_before (map (counted field documents) (values_of field documents))

-- the first `size` of some values, and the sum of the counts of the others
abbrev pub terms_answer : ℕ → List ValueCount → AggAnswer
terms_answer size terms = answers.Terms (map value_bucket (take size terms)) (sum_by (λ r. r.count) (drop size terms))
