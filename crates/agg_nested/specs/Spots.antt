-- What the documents of a bucket have in common.
use Rattle.std.specs.Prelude.{ℕ, ◌+◌, Bool, true, false, ◌&&◌, List, [], ◌∷◌, map, filter, if◌then◌else◌, ℤ, ◌+ℤ◌, ◌*ℤ◌, int_le, int_lt, nat_eq}
use Rattle.std.specs.List.{list_any}
use Rattle.std.specs.Option.{option_map, option_map_or, option_to_list}
use Rattle.std.specs.Ordering.{int_eq}
use Rattle.doc_value.specs.declared.doc.DocField.{DocField}
use Rattle.agg_model.specs.Counting.{Slot, slot_of, same_slot, first_whole, step_of}
use Rattle.doc_value.specs.Documents.{values_in}
use Rattle.agg_model.specs.declared.answer.AggAnswer.{AggAnswer}
use Rattle.agg_model.specs.declared.answer.AggAnswer.TheVariants as counted
use Rattle.agg_model.specs.declared.answer.Key.{Key}
use Rattle.agg_model.specs.declared.answer.Key.TheVariants as keys
use Rattle.agg_model.specs.declared.request.Agg.TheVariants.{Terms, Histogram}
use Rattle.agg_nested.specs.declared.answer.FlatAnswer.{FlatAnswer}
use Rattle.agg_nested.specs.declared.answer.FlatAnswer.TheVariants as answers
use Rattle.agg_nested.specs.declared.answer.RangeBucket.{RangeBucket}
use Rattle.agg_nested.specs.declared.request.FlatAgg.{FlatAgg}
use Rattle.agg_nested.specs.declared.request.FlatAgg.TheVariants.{Counted, Metric, Ranges}
use Rattle.agg_nested.specs.declared.request.WholeRange.{WholeRange}

-- a value, where a step of a histogram begins, or the place of a range among those asked for
pub data Spot : Type 0 where
  value : Slot → Spot
  step : ℤ → Spot
  range : ℕ → Spot

abbrev pub same_spot : Spot → Spot → Bool
same_spot (value a) (value b) = same_slot a b
same_spot (step a) (step b) = int_eq a b
same_spot (range a) (range b) = nat_eq a b
same_spot _ _ = false

-- where the step begins in which z lies
abbrev pub begin_of : ℤ → ℤ → ℤ → ℤ
begin_of interval offset z = step_of interval offset z *ℤ interval +ℤ offset

-- from inclusive, to exclusive
abbrev pub holds : WholeRange → ℤ → Bool
holds r z = option_map_or (λ from. int_le from z) r.from true && option_map_or (λ to. int_lt z to) r.to true

-- the document's first value lies in the range
abbrev pub lies_within : ℕ → WholeRange → List DocField → Bool
lies_within field r doc = option_map_or (holds r) (first_whole field doc) false

-- the places of the ranges in which z lies, of which the first stands at this place
abbrev pub places : ℕ → List WholeRange → ℤ → List Spot
places first [] z = []
places first (r ∷ rs) z = if holds r z then range first ∷ places (first + 1) rs z else places (first + 1) rs z

-- the buckets in which a document counts
abbrev pub spots_of : FlatAgg → List DocField → List Spot
spots_of (Counted (Terms field size)) doc = map (λ v. value (slot_of v)) (values_in doc field)
spots_of (Counted (Histogram field interval offset least dated)) doc =
    option_to_list (option_map (λ z. step (begin_of interval offset z)) (first_whole field doc))
spots_of (Metric kind field) doc = []
spots_of (Ranges field ranges) doc = option_map_or (places 0 ranges) (first_whole field doc) []

-- the document counts in the bucket
abbrev pub has_spot : FlatAgg → Spot → List DocField → Bool
has_spot agg spot doc = list_any (same_spot spot) (spots_of agg doc)

-- the documents of a bucket
abbrev pub documents_at : FlatAgg → List (List DocField) → Spot → List (List DocField)
documents_at agg documents spot = filter (has_spot agg spot) documents

abbrev pub key_spot : Key → Spot
key_spot (keys.Value v) = value (slot_of v)
key_spot (keys.Step z) = step z

abbrev pub spots_counted : AggAnswer → List Spot
spots_counted (counted.Terms buckets others) = map (λ b. key_spot b.key) buckets
spots_counted (counted.Histogram buckets) = map (λ b. key_spot b.key) buckets

-- the places of so many ranges from this one on
abbrev pub places_from : ℕ → List RangeBucket → List Spot
places_from first [] = []
places_from first (b ∷ bs) = range first ∷ places_from (first + 1) bs

-- the buckets of an answer, in its order
abbrev pub spots_in : FlatAnswer → List Spot
spots_in (answers.Counted answer) = spots_counted answer
spots_in (answers.Metric number) = []
spots_in (answers.Ranges buckets) = places_from 0 buckets
