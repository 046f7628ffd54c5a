-- The steps of a histogram, each with how many documents lie in it.
use Rattle.std.specs.Prelude.{ℕ, ℤ, List, map, int_lt}
use Rattle.std.specs.List.{flat_map}
use Rattle.std.specs.Option.{option_map, option_to_list}
use Rattle.doc_value.specs.declared.doc.DocField.{DocField}
use Rattle.agg_model.specs.Answers.{step_bucket}
use Rattle.agg_model.specs.Counting.{first_whole, step_of, step_count}
use Rattle.agg_model.specs.Spans.{steps_shown}
use Rattle.agg_model.specs.declared.answer.AggAnswer.{AggAnswer}
use Rattle.agg_model.specs.declared.answer.AggAnswer.TheVariants as answers
use Rattle.agg_nested.specs.Ordered.{ordered}

-- the step of a document, if it has one
abbrev pub step_in : ℕ → ℤ → ℤ → List DocField → List ℤ
step_in field interval offset doc = option_to_list (option_map (step_of interval offset) (first_whole field doc))

-- the steps in which some document lies, rising
abbrev pub steps_in : ℕ → ℤ → ℤ → List (List DocField) → List ℤ
steps_in field interval offset documents = ordered int_lt (flat_map (step_in field interval offset) documents)

-- some steps, each with its count
abbrev pub with_counts : (ℤ → ℕ) → List ℤ → List (ℤ × ℕ)
with_counts count steps = map (λ step. (step, count step)) steps

-- with least 0 every step from the least to the greatest in which some document lies, else those with at least that count; rising
unfoldable pub steps_of : ℕ → ℤ → ℤ → ℕ → List (List DocField) → List ℤ
steps_of field interval offset least documents =
    steps_shown least (with_counts (step_count field interval offset documents) (steps_in field interval offset documents))

-- the buckets of some steps
abbrev pub histogram_answer : ℤ → ℤ → (ℤ → ℕ) → List ℤ → AggAnswer
histogram_answer interval offset count steps = answers.Histogram (map (step_bucket interval offset count) steps)
