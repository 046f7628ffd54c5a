-- What is answered to a request over documents.
use Rattle.std.specs.Prelude.{ℕ, List, length, map, min, nat_lt, sum_by, Result, Ok, Err, if◌then◌else◌}
use Rattle.doc_value.specs.declared.doc.DocField.{DocField}
use Rattle.agg_model.specs.Answers.{most_buckets}
use Rattle.agg_model.specs.Counting.{step_count}
use Rattle.agg_model.specs.declared.agg_error.AggError.{AggError}
use Rattle.agg_model.specs.declared.agg_error.AggError.TheVariants as refusals
use Rattle.agg_model.specs.declared.answer.AggAnswer.{AggAnswer}
use Rattle.agg_model.specs.declared.answer.NamedResult.{NamedResult}
use Rattle.agg_model.specs.declared.request.Agg.{Agg}
use Rattle.agg_model.specs.declared.request.Agg.TheVariants.{Terms, Histogram}
use Rattle.agg_model.specs.declared.request.NamedAgg.{NamedAgg}
use Rattle.agg_nested.specs.Terms.{terms_of, terms_answer}
use Rattle.agg_nested.specs.Steps.{steps_of, histogram_answer}

-- the answer of an aggregation
abbrev pub answer_of : Agg → List (List DocField) → AggAnswer
answer_of (Terms field size) documents = terms_answer size (terms_of field documents)
answer_of (Histogram field interval offset least dated) documents =
    histogram_answer interval offset (step_count field interval offset documents) (steps_of field interval offset least documents)

-- the answers to a request, under its names
abbrev pub answers_of : List NamedAgg → List (List DocField) → List NamedResult
answers_of request documents = map (λ named. record { name = named.name; result = answer_of named.agg documents }) request

-- how many buckets the answer of an aggregation has
abbrev pub buckets_in : Agg → List (List DocField) → ℕ
buckets_in (Terms field size) documents = min size (length (terms_of field documents))
buckets_in (Histogram field interval offset least dated) documents = length (steps_of field interval offset least documents)

-- and those of all aggregations of a request together
abbrev pub buckets_of : List NamedAgg → List (List DocField) → ℕ
buckets_of request documents = sum_by (λ named. buckets_in named.agg documents) request

-- the answers, or their number of buckets where these are too many
abbrev pub limited : ℕ → List NamedResult → Result (List NamedResult) AggError
limited many results = if nat_lt most_buckets many then Err (refusals.TooManyBuckets many) else Ok results

unfoldable pub finished : List NamedAgg → List (List DocField) → Result (List NamedResult) AggError
finished request documents = limited (buckets_of request documents) (answers_of request documents)

-- a result is no want of memory
abbrev pub HadMemory : Result (List NamedResult) AggError → Type 0
HadMemory (Ok results) = Unit {0}
HadMemory (Err (refusals.Memory m)) = ⊥
HadMemory (Err (refusals.TooManyBuckets count)) = Unit {0}
HadMemory (Err (refusals.NotFast field)) = Unit {0}
HadMemory (Err (refusals.BadInterval name)) = Unit {0}
