-- What is answered to a request over documents.
use Rattle.std.specs.Prelude.{ℕ, ◌+◌, ◌-◌, ◌^◌, List, length, map, min, nat_lt, sum_by, count_by, Option, Some, Result, Ok, Err, if◌then◌else◌, ℤ, pos}
use Rattle.std.specs.List.{flat_map}
use Rattle.std.specs.Option.{option_to_list}
use Rattle.doc_value.specs.declared.doc.DocField.{DocField}
use Rattle.agg_metrics.specs.Metrics.{total, least_of, greatest_of}
use Rattle.agg_model.specs.Answers.{most_buckets}
use Rattle.agg_model.specs.Counting.{first_whole}
use Rattle.doc_value.specs.Documents.{values_in}
use Rattle.agg_model.specs.declared.agg_error.AggError.{AggError}
use Rattle.agg_model.specs.declared.agg_error.AggError.TheVariants as refusals
use Rattle.agg_nested.specs.CountedAnswers.{answer_of}
use Rattle.agg_nested.specs.Spots.{lies_within, spots_in, documents_at}
use Rattle.agg_nested.specs.declared.answer.FlatAnswer.{FlatAnswer}
use Rattle.agg_nested.specs.declared.answer.FlatAnswer.TheVariants as answers
use Rattle.agg_nested.specs.declared.answer.NamedAnswer.{NamedAnswer}
use Rattle.agg_nested.specs.declared.answer.NestedAnswer.{NestedAnswer}
use Rattle.agg_nested.specs.declared.answer.RangeBucket.{RangeBucket}
use Rattle.agg_nested.specs.declared.request.FlatAgg.{FlatAgg}
use Rattle.agg_nested.specs.declared.request.FlatAgg.TheVariants.{Counted, Metric, Ranges}
use Rattle.agg_nested.specs.declared.request.MetricKind.{MetricKind}
use Rattle.agg_nested.specs.declared.request.MetricKind.TheVariants as kinds
use Rattle.agg_nested.specs.declared.request.NamedFlat.{NamedFlat}
use Rattle.agg_nested.specs.declared.request.NestedAgg.{NestedAgg}
use Rattle.agg_nested.specs.declared.request.WholeRange.{WholeRange}

-- how many values the documents have, and the whole numbers of the first ones
abbrev pub values_counted : ℕ → List (List DocField) → ℕ
values_counted field documents = sum_by (λ doc. length (values_in doc field)) documents

abbrev pub firsts : ℕ → List (List DocField) → List ℤ
firsts field documents = flat_map (λ doc. option_to_list (first_whole field doc)) documents

abbrev pub metric_of : MetricKind → ℕ → List (List DocField) → Option ℤ
metric_of kinds.Min field documents = least_of (firsts field documents)
metric_of kinds.Max field documents = greatest_of (firsts field documents)
metric_of kinds.Sum field documents = Some (total (firsts field documents))
metric_of kinds.ValueCount field documents = Some (pos (values_counted field documents))

abbrev pub range_bucket : ℕ → List (List DocField) → WholeRange → RangeBucket
range_bucket field documents r = record { range = r; count = count_by (lies_within field r) documents }

-- the answer of an aggregation
abbrev pub flat_answer : List (List DocField) → FlatAgg → FlatAnswer
flat_answer documents (Counted agg) = answers.Counted (answer_of agg documents)
flat_answer documents (Metric kind field) = answers.Metric (metric_of kind field documents)
flat_answer documents (Ranges field ranges) = answers.Ranges (map (range_bucket field documents) ranges)

-- how many buckets it has
abbrev pub flat_buckets : List (List DocField) → FlatAgg → ℕ
flat_buckets documents agg = length (spots_in (flat_answer documents agg))

-- nested answers, under their names
abbrev pub flat_answers : List NamedFlat → List (List DocField) → List NamedAnswer
flat_answers request documents = map (λ named. record { name = named.name; answer = flat_answer documents named.agg }) request

-- the answer of an aggregation, and of each of its buckets the nested answers over the documents of this bucket
abbrev pub nested_answer : List (List DocField) → NestedAgg → NestedAnswer
nested_answer documents asked = record {
  name = asked.name;
  answer = flat_answer documents asked.agg;
  nested = map (λ spot. flat_answers asked.nested (documents_at asked.agg documents spot)) (spots_in (flat_answer documents asked.agg));
}

-- how many buckets nested answers have
abbrev pub inner_buckets : List NamedFlat → List (List DocField) → ℕ
inner_buckets request documents = sum_by (λ named. flat_buckets documents named.agg) request

-- how many buckets an aggregation's answer has, with those of its nested answers
abbrev pub nested_buckets : List (List DocField) → NestedAgg → ℕ
nested_buckets documents asked = flat_buckets documents asked.agg
    + sum_by (λ spot. inner_buckets asked.nested (documents_at asked.agg documents spot)) (spots_in (flat_answer documents asked.agg))

-- and those of all aggregations of a request together
abbrev pub all_buckets : List NestedAgg → List (List DocField) → ℕ
all_buckets request documents = sum_by (nested_buckets documents) request

-- of a number 128 bits tell no more than 2^128 - 1
abbrev pub told : ℕ → ℕ
told many = min many (2 ^ 128 - 1)

-- the answers, or their number of buckets where these are too many
abbrev pub answered : ℕ → List NestedAnswer → Result (List NestedAnswer) AggError
answered many results = if nat_lt most_buckets many then Err (refusals.TooManyBuckets (told many)) else Ok results

unfoldable pub nested : List NestedAgg → List (List DocField) → Result (List NestedAnswer) AggError
nested request documents = answered (all_buckets request documents) (map (nested_answer documents) request)
