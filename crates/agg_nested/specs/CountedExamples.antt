-- Answers that were worked out by hand.
use Rattle.std.specs.Prelude.{◌≡◌, ℕ, ℤ, pos, negsuc, false, List, [], ◌∷◌, codes, refl, Ok, Err}
use Rattle.doc_value.specs.declared.doc.DocField.{DocField}
use Rattle.doc_value.specs.declared.doc.Value.{Value}
use Rattle.doc_value.specs.declared.doc.Value.TheVariants as values
use Rattle.agg_model.specs.declared.agg_error.AggError.TheVariants as refusals
use Rattle.agg_model.specs.declared.answer.AggAnswer.TheVariants as answers
use Rattle.agg_model.specs.declared.answer.Bucket.{Bucket}
use Rattle.agg_model.specs.declared.answer.Key.TheVariants as keys
use Rattle.agg_model.specs.declared.request.Agg.{Agg}
use Rattle.agg_model.specs.declared.request.Agg.TheVariants.{Terms, Histogram}
use Rattle.agg_model.specs.declared.request.NamedAgg.{NamedAgg}
use Rattle.agg_nested.specs.Terms.{terms_of}
use Rattle.agg_nested.specs.Steps.{steps_of}
use Rattle.agg_nested.specs.CountedAnswers.{answer_of, finished, limited}

-- a document with these values of its only field
abbrev doc : List Value → List DocField
doc values = (record { number = 0; values = values }) ∷ []

abbrev text : List ℕ → Value
text t = values.Text t

abbrev value_bucket : List ℕ → ℕ → Bucket
value_bucket t count = record { key = keys.Value (text t); count = count }

abbrev step_bucket : ℤ → ℕ → Bucket
step_bucket first count = record { key = keys.Step first; count = count }

-- a fig and a date twice, and a pear and a fig
abbrev fruits : List (List DocField)
fruits = doc (text (codes "fig") ∷ text (codes "date") ∷ text (codes "date") ∷ []) ∷ doc (text (codes "pear") ∷ text (codes "fig") ∷ []) ∷ []

-- two documents have a fig, one a date and one a pear; a value that a document has twice counts once
pub terms_of_fruits : answer_of (Terms 0 10) fruits ≡ answers.Terms (value_bucket (codes "fig") 2 ∷ value_bucket (codes "date") 1 ∷ value_bucket (codes "pear") 1 ∷ []) 0
unfolding terms_of
terms_of_fruits = refl

-- of which the first are cut off, and the others summed
pub first_of_fruits : answer_of (Terms 0 1) fruits ≡ answers.Terms (value_bucket (codes "fig") 2 ∷ []) 2
unfolding terms_of
first_of_fruits = refl

-- a document counts by the first of its numbers, and one without numbers does not
abbrev numbers : List (List DocField)
numbers = doc (values.I64 (pos 25) ∷ values.I64 (pos 300) ∷ []) ∷ doc (values.I64 (negsuc 0) ∷ []) ∷ doc [] ∷ doc (values.I64 (pos 29) ∷ []) ∷ []

-- -1 lies in the step from -10 on, and 25 and 29 in that from 20 on; between them are two empty steps
pub steps_of_numbers : answer_of (Histogram 0 (pos 10) (pos 0) 0 false) numbers ≡ answers.Histogram (step_bucket (negsuc 9) 1 ∷ step_bucket (pos 0) 0 ∷ step_bucket (pos 10) 0 ∷ step_bucket (pos 20) 2 ∷ [])
unfolding steps_of
steps_of_numbers = refl

-- the steps begin at 5, and those with at least one document are answered: -1 lies in that from -5 on, 25 and 29 in that from 25 on
pub some_of_numbers : answer_of (Histogram 0 (pos 10) (pos 5) 1 false) numbers ≡ answers.Histogram (step_bucket (negsuc 4) 1 ∷ step_bucket (pos 25) 2 ∷ [])
unfolding steps_of
some_of_numbers = refl

abbrev named : List ℕ → Agg → NamedAgg
named name agg = record { name = name; agg = agg }

-- two answers under their names
pub finished_of_numbers : finished (named (codes "all") (Terms 0 1) ∷ named (codes "steps") (Histogram 0 (pos 10) (pos 0) 2 false) ∷ []) numbers
    ≡ Ok ((record { name = codes "all"; result = answers.Terms ((record { key = keys.Value (values.I64 (negsuc 0)); count = 1 }) ∷ []) 3 })
    ∷ (record { name = codes "steps"; result = answers.Histogram (step_bucket (pos 20) 2 ∷ []) }) ∷ [])
unfolding finished terms_of steps_of
finished_of_numbers = refl

-- no documents have no steps
pub steps_of_none : finished (named (codes "steps") (Histogram 0 (pos 10) (pos 0) 0 false) ∷ []) [] ≡ Ok ((record { name = codes "steps"; result = answers.Histogram [] }) ∷ [])
unfolding finished steps_of
steps_of_none = refl

-- 65,000 buckets are not too many, and one more is
pub most_are_answered : limited 65000 [] ≡ Ok []
most_are_answered = refl

pub more_are_refused : limited 65001 [] ≡ Err (refusals.TooManyBuckets 65001)
more_are_refused = refl
