-- A request of agg_model's aggregations alone has agg_model's answer.
use Rattle.std.proofs.Common.{◌≡◌, ℕ, ◌-◌, ◌^◌, Bool, true, false, cond, List, [], ◌∷◌, map, length, min, refl, ap, arith, sum_by}
use Rattle.std.proofs.lemmas.List.{length-map, length-take}
use Rattle.std.proofs.lemmas.List.Sums.{sum_by-cons}
use Rattle.std.specs.Prelude.{nat_lt, Ok, Err}
use Rattle.doc_value.specs.declared.doc.DocField.{DocField}
use Rattle.agg_model.specs.Answers.{most_buckets}
use Rattle.agg_model.specs.declared.agg_error.AggError.TheVariants as refusals
use Rattle.agg_model.specs.declared.answer.NamedResult.{NamedResult}
use Rattle.agg_model.specs.declared.request.Agg.{Agg}
use Rattle.agg_model.specs.declared.request.Agg.TheVariants.{Terms, Histogram}
use Rattle.agg_model.specs.declared.request.NamedAgg.{NamedAgg}
use Rattle.agg_nested.specs.CountedAnswers.{answer_of, answers_of, buckets_in, buckets_of, limited, finished}
use Rattle.agg_nested.specs.Answers.{nested, answered, all_buckets, nested_buckets, nested_answer}
use Rattle.agg_nested.specs.Plain.{plain, plain_answer, plainly}
use Rattle.agg_nested.specs.Spots.{spots_counted}

no_more : {X : Type 0} (xs : List X) → sum_by (λ x. 0) xs ≡ 0
no_more [] = refl
no_more (x ∷ xs) = let both = sum_by-cons (λ y. 0) x xs in let rest = no_more xs in omega arith

pub own_buckets : (agg : Agg) (documents : List (List DocField)) → length (spots_counted (answer_of agg documents)) ≡ buckets_in agg documents
own_buckets (Terms field size) documents = rw (length-map, length-map, length-take) refl
own_buckets (Histogram field interval offset least dated) documents = rw (length-map, length-map) refl

plain_buckets : (request : List NamedAgg) (documents : List (List DocField)) → all_buckets (map plain request) documents ≡ buckets_of request documents
plain_buckets [] documents = refl
plain_buckets (n ∷ ns) documents =
    let mine = sum_by-cons (nested_buckets documents) (plain n) (map plain ns) in
    let yours = sum_by-cons (λ named. buckets_in named.agg documents) n ns in
    let rest = plain_buckets ns documents in
    let own = own_buckets n.agg documents in
    let none = no_more (spots_counted (answer_of n.agg documents)) in
    omega arith

plain_answers : (request : List NamedAgg) (documents : List (List DocField)) → map (nested_answer documents) (map plain request) ≡ map plain_answer (answers_of request documents)
plain_answers [] documents = refl
plain_answers (n ∷ ns) documents = ap (λ rest. nested_answer documents (plain n) ∷ rest) (plain_answers ns documents)

told : (many : ℕ) (results : List NamedResult) → answered many (map plain_answer results) ≡ plainly (limited many results)
told many results = at (nat_lt most_buckets many)
  where
    at : (b : Bool) → cond b (Err (refusals.TooManyBuckets (min many (2 ^ 128 - 1)))) (Ok (map plain_answer results)) ≡ plainly (cond b (Err (refusals.TooManyBuckets many)) (Ok results))
    at true = refl
    at false = refl

pub plain_stays : (request : List NamedAgg) (documents : List (List DocField)) → nested (map plain request) documents ≡ plainly (finished request documents)
unfolding nested finished
plain_stays request documents = rw (plain_buckets request documents, plain_answers request documents) (told (buckets_of request documents) (answers_of request documents))
