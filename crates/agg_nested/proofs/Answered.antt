-- What is answered where the buckets are too many, and where they are few.
use Rattle.std.proofs.Common.{◌≡◌, ℕ, ◌<◌, ◌≤◌, List, map, refl, sym, ◌∙◌, ap, arith}
use Rattle.std.proofs.lemmas.Bool.{lt-ltb, le-ltb}
use Rattle.std.specs.Prelude.{Result, Ok, Err}
use Rattle.doc_value.specs.declared.doc.DocField.{DocField}
use Rattle.agg_model.specs.Answers.{most_buckets}
use Rattle.agg_model.specs.declared.agg_error.AggError.{AggError}
use Rattle.agg_model.specs.declared.agg_error.AggError.TheVariants as refusals
use Rattle.agg_nested.specs.Answers.{all_buckets, answered, nested, nested_answer, told}
use Rattle.agg_nested.specs.declared.answer.NestedAnswer.{NestedAnswer}
use Rattle.agg_nested.specs.declared.request.NestedAgg.{NestedAgg}

abbrev refused : ℕ → Result (List NestedAnswer) AggError
refused count = Err (refusals.TooManyBuckets count)

abbrev given : List NestedAnswer → Result (List NestedAnswer) AggError
given answers = Ok answers

are_many : (many : ℕ) (answers : List NestedAnswer) → most_buckets < many → answered many answers ≡ refused (told many)
are_many many answers h = rw (lt-ltb most_buckets many h) refl

are_few : (many : ℕ) (answers : List NestedAnswer) → many ≤ most_buckets → answered many answers ≡ given answers
are_few many answers h = rw (le-ltb most_buckets many h) refl

pub many_answered : (request : List NestedAgg) (documents : List (List DocField)) (count : ℕ) → count ≡ told (all_buckets request documents) → most_buckets < count → refused count ≡ nested request documents
unfolding nested
many_answered request documents count e l = ap refused e ∙ sym (are_many (all_buckets request documents) (map (nested_answer documents) request) (omega (arith, e, l)))

pub few_answered : (request : List NestedAgg) (documents : List (List DocField)) (answers : List NestedAnswer) → all_buckets request documents ≤ most_buckets
    → answers ≡ map (nested_answer documents) request → given answers ≡ nested request documents
unfolding nested
few_answered request documents answers l e = ap given e ∙ sym (are_few (all_buckets request documents) (map (nested_answer documents) request) l)
