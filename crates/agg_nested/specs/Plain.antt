-- Requests of agg_model's aggregations alone, and what agg_model answers to them.
use Rattle.std.specs.Prelude.{List, [], map, Result, Ok, Err}
use Rattle.agg_model.specs.declared.agg_error.AggError.{AggError}
use Rattle.agg_model.specs.declared.agg_error.AggError.TheVariants as refusals
use Rattle.agg_model.specs.declared.answer.NamedResult.{NamedResult}
use Rattle.agg_model.specs.declared.request.NamedAgg.{NamedAgg}
use Rattle.agg_nested.specs.Answers.{told}
use Rattle.agg_nested.specs.Spots.{spots_counted}
use Rattle.agg_nested.specs.declared.answer.FlatAnswer.TheVariants as answers
use Rattle.agg_nested.specs.declared.answer.NestedAnswer.{NestedAnswer}
use Rattle.agg_nested.specs.declared.request.FlatAgg.TheVariants.{Counted}
use Rattle.agg_nested.specs.declared.request.NestedAgg.{NestedAgg}

-- agg_model's aggregation, with no nested ones
abbrev pub plain : NamedAgg → NestedAgg
plain named = record { name = named.name; agg = Counted named.agg; nested = [] }

-- its answer, of each of whose buckets nothing more is answered
abbrev pub plain_answer : NamedResult → NestedAnswer
plain_answer answered = record {
  name = answered.name;
  answer = answers.Counted answered.result;
  nested = map (λ spot. []) (spots_counted answered.result);
}

-- answers stay, and a number of buckets is told in 128 bits
abbrev pub plainly : Result (List NamedResult) AggError → Result (List NestedAnswer) AggError
plainly (Ok results) = Ok (map plain_answer results)
plainly (Err (refusals.TooManyBuckets count)) = Err (refusals.TooManyBuckets (told count))
plainly (Err (refusals.NotFast field)) = Err (refusals.NotFast field)
plainly (Err (refusals.BadInterval name)) = Err (refusals.BadInterval name)
plainly (Err (refusals.Memory m)) = Err (refusals.Memory m)
