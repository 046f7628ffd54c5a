-- Answers that were worked out by hand.
use Rattle.std.specs.Prelude.{◌≡◌, ℕ, ℤ, pos, negsuc, ◌^◌, ◌-◌, List, [], ◌∷◌, codes, refl, Option, Some, None, Ok, Err, false}
use Rattle.doc_value.specs.declared.doc.DocField.{DocField}
use Rattle.doc_value.specs.declared.doc.Value.TheVariants as values
use Rattle.agg_model.specs.declared.agg_error.AggError.TheVariants as refusals
use Rattle.agg_model.specs.declared.answer.AggAnswer.TheVariants as counted
use Rattle.agg_model.specs.declared.answer.Bucket.{Bucket}
use Rattle.agg_model.specs.declared.answer.Key.TheVariants as keys
use Rattle.agg_model.specs.declared.request.Agg.TheVariants.{Terms, Histogram}
use Rattle.agg_nested.specs.Terms.{terms_of}
use Rattle.agg_nested.specs.Steps.{steps_of}
use Rattle.agg_nested.specs.Answers.{nested, answered}
use Rattle.agg_nested.specs.declared.answer.FlatAnswer.TheVariants as answers
use Rattle.agg_nested.specs.declared.answer.NamedAnswer.{NamedAnswer}
use Rattle.agg_nested.specs.declared.answer.RangeBucket.{RangeBucket}
use Rattle.agg_nested.specs.declared.request.FlatAgg.{FlatAgg}
use Rattle.agg_nested.specs.declared.request.FlatAgg.TheVariants.{Counted, Metric, Ranges}
use Rattle.agg_nested.specs.declared.request.MetricKind.TheVariants as kinds
use Rattle.agg_nested.specs.declared.request.NamedFlat.{NamedFlat}
use Rattle.agg_nested.specs.declared.request.NestedAgg.{NestedAgg}
use Rattle.agg_nested.specs.declared.request.WholeRange.{WholeRange}

-- a document with a level, field 0, and a size, field 1
abbrev doc : List ℕ → ℤ → List DocField
doc level size = (record { number = 0; values = values.Text level ∷ [] }) ∷ (record { number = 1; values = values.I64 size ∷ [] }) ∷ []

-- sizes 1, 5 and 12 of the levels a, a and b
abbrev levels : List (List DocField)
levels = doc (codes "a") (pos 1) ∷ doc (codes "a") (pos 5) ∷ doc (codes "b") (pos 12) ∷ []

abbrev flat : List ℕ → FlatAgg → NamedFlat
flat name agg = record { name = name; agg = agg }

abbrev asked : List ℕ → FlatAgg → List NamedFlat → NestedAgg
asked name agg nested = record { name = name; agg = agg; nested = nested }

abbrev value_bucket : List ℕ → ℕ → Bucket
value_bucket t count = record { key = keys.Value (values.Text t); count = count }

abbrev step_bucket : ℤ → ℕ → Bucket
step_bucket first count = record { key = keys.Step first; count = count }

abbrev number : List ℕ → Option ℤ → NamedAnswer
number name value = record { name = name; answer = answers.Metric value }

-- of each level the sum and the greatest of the sizes
pub sums_of_levels : nested (asked (codes "l") (Counted (Terms 0 10)) (flat (codes "m") (Metric kinds.Max 1) ∷ flat (codes "s") (Metric kinds.Sum 1) ∷ []) ∷ []) levels
    ≡ Ok ((record {
      name = codes "l";
      answer = answers.Counted (counted.Terms (value_bucket (codes "a") 2 ∷ value_bucket (codes "b") 1 ∷ []) 0);
      nested = (number (codes "m") (Some (pos 5)) ∷ number (codes "s") (Some (pos 6)) ∷ [])
          ∷ (number (codes "m") (Some (pos 12)) ∷ number (codes "s") (Some (pos 12)) ∷ []) ∷ [];
    }) ∷ [])
unfolding nested terms_of
sums_of_levels = refl

abbrev below : ℤ → WholeRange
below to = record { from = None; to = Some to }

abbrev between : ℤ → ℤ → WholeRange
between from to = record { from = Some from; to = Some to }

abbrev above : ℤ → WholeRange
above from = record { from = Some from; to = None }

abbrev bucket : WholeRange → ℕ → RangeBucket
bucket r count = record { range = r; count = count }

-- sizes below 5, from 5 on below 12, and from 12 on: one each
pub sizes_in_ranges : nested (asked (codes "r") (Ranges 1 (below (pos 5) ∷ between (pos 5) (pos 12) ∷ above (pos 12) ∷ [])) [] ∷ []) levels
    ≡ Ok ((record {
      name = codes "r";
      answer = answers.Ranges (bucket (below (pos 5)) 1 ∷ bucket (between (pos 5) (pos 12)) 1 ∷ bucket (above (pos 12)) 1 ∷ []);
      nested = [] ∷ [] ∷ [] ∷ [];
    }) ∷ [])
unfolding nested
sizes_in_ranges = refl

-- no documents have no least size and 0 values
pub metrics_of_none : nested (asked (codes "c") (Metric kinds.ValueCount 1) [] ∷ asked (codes "m") (Metric kinds.Min 1) [] ∷ []) []
    ≡ Ok ((record { name = codes "c"; answer = answers.Metric (Some (pos 0)); nested = [] })
    ∷ (record { name = codes "m"; answer = answers.Metric None; nested = [] }) ∷ [])
unfolding nested
metrics_of_none = refl

-- sizes -1 and 25: the steps between them are empty, and have the sum of no sizes
pub sums_of_steps : nested (asked (codes "h") (Counted (Histogram 1 (pos 10) (pos 0) 0 false)) (flat (codes "s") (Metric kinds.Sum 1) ∷ []) ∷ [])
    (doc (codes "a") (negsuc 0) ∷ doc (codes "a") (pos 25) ∷ [])
    ≡ Ok ((record {
      name = codes "h";
      answer = answers.Counted (counted.Histogram (step_bucket (negsuc 9) 1 ∷ step_bucket (pos 0) 0 ∷ step_bucket (pos 10) 0 ∷ step_bucket (pos 20) 1 ∷ []));
      nested = (number (codes "s") (Some (negsuc 0)) ∷ []) ∷ (number (codes "s") (Some (pos 0)) ∷ []) ∷ (number (codes "s") (Some (pos 0)) ∷ []) ∷ (number (codes "s") (Some (pos 25)) ∷ []) ∷ [];
    }) ∷ [])
unfolding nested steps_of
sums_of_steps = refl

-- of a, a, b, c, c and d the two most frequent, and the sum of the others
abbrev letter : List ℕ → List DocField
letter t = (record { number = 0; values = values.Text t ∷ [] }) ∷ []

pub two_of_letters : nested (asked (codes "l") (Counted (Terms 0 2)) [] ∷ [])
    (letter (codes "a") ∷ letter (codes "a") ∷ letter (codes "b") ∷ letter (codes "c") ∷ letter (codes "c") ∷ letter (codes "d") ∷ [])
    ≡ Ok ((record {
      name = codes "l";
      answer = answers.Counted (counted.Terms (value_bucket (codes "a") 2 ∷ value_bucket (codes "c") 2 ∷ []) 2);
      nested = [] ∷ [] ∷ [];
    }) ∷ [])
unfolding nested terms_of
two_of_letters = refl

-- 65,000 buckets are not too many, and one more is; a number of more than 128 bits is told as the greatest that they have
pub most_are_answered : answered 65000 [] ≡ Ok []
most_are_answered = refl

pub more_are_refused : answered 65001 [] ≡ Err (refusals.TooManyBuckets 65001)
more_are_refused = refl

pub most_are_told : answered (2 ^ 130) [] ≡ Err (refusals.TooManyBuckets (2 ^ 128 - 1))
most_are_told = refl
