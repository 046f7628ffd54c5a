-- What aggregations answer over a list of documents.
use Rattle.std.specs.Prelude.{◌≡◌, ℕ, ◌+◌, ◌<◌, ◌≤◌, ◌==◌, nat_lt, List, [], ◌∷◌, map, length, if◌then◌else◌, ℤ, ◌+ℤ◌, ◌*ℤ◌, ◌≤ℤ◌, ◌<ℤ◌, ◌↔◌, count_by, sum_by, take, drop, MatchBool, min, Result, Ok, Err}
use Rattle.std.specs.List.{All, AllByRecursion, AllZip, Contains}
use Rattle.std.specs.List.Sorted.{IsSorted}
use Rattle.std.specs.Ordering.{nat_cmp, ordering_then}
use Rattle.std.specs.declared.cmp.Ordering.{Ordering}
use Rattle.doc_value.specs.Terms.{value_cmp}
use Rattle.doc_value.specs.declared.doc.Value.{Value}
use Rattle.doc_value.specs.declared.doc.DocField.{DocField}
use Rattle.agg_model.specs.Counting.{is_same, value_count, step_count}
use Rattle.agg_model.specs.declared.agg_error.AggError.{AggError}
use Rattle.agg_model.specs.declared.agg_error.AggError.TheVariants as refusals
use Rattle.agg_model.specs.declared.answer.AggAnswer.{AggAnswer}
use Rattle.agg_model.specs.declared.answer.AggAnswer.TheVariants as answers
use Rattle.agg_model.specs.declared.answer.Bucket.{Bucket}
use Rattle.agg_model.specs.declared.answer.Key.TheVariants as keys
use Rattle.agg_model.specs.declared.answer.NamedResult.{NamedResult}
use Rattle.agg_model.specs.declared.request.Agg.{Agg}
use Rattle.agg_model.specs.declared.request.Agg.TheVariants.{Terms, Histogram}
use Rattle.agg_model.specs.declared.request.NamedAgg.{NamedAgg}
use Rattle.agg_model.specs.declared.ranking.ValueCount.{ValueCount}

-- the greater count comes first, and of equal counts the lower value
abbrev pub rank : ValueCount → ValueCount → Ordering
rank a b = ordering_then (nat_cmp b.count a.count) (value_cmp a.value b.value)

-- each value that some document has stands in the list once, with how many documents have it
pub record AreCounted (field : ℕ) (documents : List (List DocField)) (all : List ValueCount) : Type 0 where
  pub right : All (λ r. r.count ≡ value_count field documents r.value) all
  pub once : (value : Value) → count_by (λ r. is_same r.value value) all ≡ (if nat_lt 0 (value_count field documents value) then 1 else 0)

abbrev pub value_bucket : ValueCount → Bucket
value_bucket r = record { key = keys.Value r.value; count = r.count }

-- of all values in order the first `size`, and the sum of the counts of the others
abbrev pub IsCut : ℕ → List ValueCount → AggAnswer → Type 0
IsCut size all (answers.Terms buckets others) = (buckets ≡ map value_bucket (take size all)) × (others ≡ sum_by (λ r. r.count) (drop size all))
IsCut size all (answers.Histogram buckets) = ⊥

-- the values that some document has, in order, are cut
pub record IsTermsAnswer (field size : ℕ) (documents : List (List DocField)) (answer : AggAnswer) : Type 0 where
  pub all : List ValueCount
  pub counted : AreCounted field documents all
  pub order : IsSorted rank all
  pub cut : IsCut size all answer

-- the step lies between two steps in which some document lies
pub record IsBetween (count : ℤ → ℕ) (step : ℤ) : Type 0 where
  pub low : ℤ
  pub high : ℤ
  pub some_low : 0 < count low
  pub some_high : 0 < count high
  pub from : low ≤ℤ step
  pub to : step ≤ℤ high

-- with least count 0 every step from the least to the greatest is answered, else those with at least that count
abbrev pub IsShown : ℕ → (ℤ → ℕ) → ℤ → Type 0
IsShown least count step = MatchBool (least == 0) (IsBetween count step) (least ≤ count step)

abbrev pub step_bucket : ℤ → ℤ → (ℤ → ℕ) → ℤ → Bucket
step_bucket interval offset count step = record { key = keys.Step (step *ℤ interval +ℤ offset); count = count step }

abbrev pub AreBuckets : List Bucket → AggAnswer → Type 0
AreBuckets buckets (answers.Histogram given) = given ≡ buckets
AreBuckets buckets (answers.Terms given others) = ⊥

-- each number is below all behind it
abbrev pub IsRising : List ℤ → Type 0
IsRising [] = Unit {0}
IsRising (x ∷ xs) = AllByRecursion (λ y. x <ℤ y) xs × IsRising xs

-- the steps that are shown, by rising numbers
pub record AreShown (least : ℕ) (count : ℤ → ℕ) (steps : List ℤ) : Type 0 where
  pub rise : IsRising steps
  pub shown : (step : ℤ) → Contains steps step ↔ IsShown least count step

-- the steps that are shown, each with its count
pub record IsHistogramAnswer (interval offset : ℤ) (least : ℕ) (count : ℤ → ℕ) (answer : AggAnswer) : Type 0 where
  pub steps : List ℤ
  pub are : AreShown least count steps
  pub given : AreBuckets (map (step_bucket interval offset count) steps) answer

-- the answer of an aggregation over a list of documents
abbrev pub IsAnswerOf : Agg → List (List DocField) → AggAnswer → Type 0
IsAnswerOf (Terms field size) documents answer = IsTermsAnswer field size documents answer
IsAnswerOf (Histogram field interval offset least dated) documents answer =
    IsHistogramAnswer interval offset least (step_count field interval offset documents) answer

-- a histogram whose answer has empty steps too
abbrev pub ShowsEmpty : Agg → Type 0
ShowsEmpty (Terms field size) = ⊥
ShowsEmpty (Histogram field interval offset least dated) = least ≡ 0

-- how many buckets an aggregation's answer has
abbrev pub HasBuckets : Agg → List (List DocField) → ℕ → Type 0
HasBuckets (Terms field size) documents many = (all : List ValueCount) × AreCounted field documents all × (many ≡ min size (length all))
HasBuckets (Histogram field interval offset least dated) documents many =
    (steps : List ℤ) × AreShown least (step_count field interval offset documents) steps × (many ≡ length steps)

-- and all of a request together
abbrev pub HaveBuckets : List NamedAgg → List (List DocField) → ℕ → Type 0
HaveBuckets [] documents many = many ≡ 0
HaveBuckets (named ∷ rest) documents many =
    (own : ℕ) × (others : ℕ) × HasBuckets named.agg documents own × HaveBuckets rest documents others × (many ≡ own + others)

-- the answers to a request stand under its names, in its order
abbrev pub AreAnswersOf : List NamedAgg → List (List DocField) → List NamedResult → Type 0
AreAnswersOf request documents results =
    AllZip (λ named answered. (answered.name ≡ named.name) × IsAnswerOf named.agg documents answered.result) request results

-- an answer has at most so many buckets
abbrev pub most_buckets : ℕ
most_buckets = 65000

-- the answers, which have at most 65,000 buckets, or the number of buckets where they would have more, or want of memory
abbrev pub IsFinished : List NamedAgg → List (List DocField) → Result (List NamedResult) AggError → Type 0
IsFinished request documents (Ok results) =
    AreAnswersOf request documents results × ((many : ℕ) × HaveBuckets request documents many × (many ≤ most_buckets))
IsFinished request documents (Err (refusals.TooManyBuckets count)) = HaveBuckets request documents count × (most_buckets < count)
IsFinished request documents (Err (refusals.Memory m)) = Unit {0}
IsFinished request documents (Err (refusals.NotFast field)) = ⊥
IsFinished request documents (Err (refusals.BadInterval name)) = ⊥
