-- What parts answer.
use Rattle.std.specs.Prelude.{◌≡◌, ◌<◌, ◌≤◌, List, max, Result, Ok, Err}
use Rattle.doc_value.specs.declared.doc.DocField.{DocField}
use Rattle.agg_model.specs.Answers.{most_buckets}
use Rattle.agg_model.specs.declared.agg_error.AggError.{AggError}
use Rattle.agg_model.specs.declared.agg_error.AggError.TheVariants as refusals
use Rattle.agg_model.specs.declared.request.Agg.{Agg}
use Rattle.agg_model.specs.declared.request.Agg.TheVariants.{Terms, Histogram}
use Rattle.agg_nested.specs.Answers.{flat_answer, flat_buckets}
use Rattle.agg_nested.specs.declared.answer.FlatAnswer.{FlatAnswer}
use Rattle.agg_nested.specs.declared.answer.NestedAnswer.{NestedAnswer}
use Rattle.agg_nested.specs.declared.request.FlatAgg.{FlatAgg}
use Rattle.agg_nested.specs.declared.request.FlatAgg.TheVariants.{Counted, Metric, Ranges}

-- the same aggregation, whose answer shows no empty steps
abbrev pub without_empty : Agg → Agg
without_empty (Terms field size) = Terms field size
without_empty (Histogram field interval offset least dated) = Histogram field interval offset (max least 1) dated

abbrev pub filled : FlatAgg → FlatAgg
filled (Counted agg) = Counted (without_empty agg)
filled (Metric kind field) = Metric kind field
filled (Ranges field ranges) = Ranges field ranges

-- an aggregation of agg_model has at most 65,000 buckets
abbrev pub AreFew : FlatAgg → List (List DocField) → Type 0
AreFew (Counted agg) documents = flat_buckets documents (Counted agg) ≤ most_buckets
AreFew (Metric kind field) documents = Unit {0}
AreFew (Ranges field ranges) documents = Unit {0}

-- the answer over the documents, or their number of buckets where these are too many, or want of memory
abbrev pub IsFlatFinished : FlatAgg → List (List DocField) → Result FlatAnswer AggError → Type 0
IsFlatFinished agg documents (Ok answer) = (answer ≡ flat_answer documents agg) × AreFew agg documents
IsFlatFinished agg documents (Err (refusals.TooManyBuckets count)) = (count ≡ flat_buckets documents agg) × (most_buckets < count)
IsFlatFinished agg documents (Err (refusals.Memory m)) = Unit {0}
IsFlatFinished agg documents (Err (refusals.NotFast field)) = ⊥
IsFlatFinished agg documents (Err (refusals.BadInterval name)) = ⊥

-- a result is no want of memory
abbrev pub HadMemory : Result (List NestedAnswer) AggError → Type 0
HadMemory (Ok results) = Unit {0}
HadMemory (Err (refusals.Memory m)) = ⊥
HadMemory (Err (refusals.TooManyBuckets count)) = Unit {0}
HadMemory (Err (refusals.NotFast field)) = Unit {0}
HadMemory (Err (refusals.BadInterval name)) = Unit {0}
