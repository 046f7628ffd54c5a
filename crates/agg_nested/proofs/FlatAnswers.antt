-- The answers of agg_model to a request of one aggregation, and those of ranges.
use Rattle.std.proofs.Common.{◌≡◌, ℕ, zero, suc, ◌<◌, ◌≤◌, ◌+◌, Bool, true, false, cond, List, [], ◌∷◌, ◌++◌, map, take, length, get_or, refl, sym, ◌∙◌, ap, arith, ◌⊎◌, inl, inr}
use Rattle.std.proofs.lemmas.Bool.{cases_lt, lt-ltb, false≢true}
use Rattle.std.proofs.lemmas.List.Sums.{sum_by-cons}
use Rattle.std.specs.Prelude.{nat_lt, Result, Ok, Err}
use Rattle.doc_value.specs.declared.doc.DocField.{DocField}
use Rattle.agg_model.specs.Answers.{IsFinished, most_buckets}
use Rattle.agg_model.specs.declared.agg_error.AggError.{AggError}
use Rattle.agg_model.specs.declared.agg_error.AggError.TheVariants as refusals
use Rattle.agg_model.specs.declared.answer.NamedResult.{NamedResult}
use Rattle.agg_model.specs.declared.request.Agg.{Agg}
use Rattle.agg_model.specs.declared.request.NamedAgg.{NamedAgg}
use Rattle.agg_nested.specs.CountedAnswers.{answer_of, answers_of, buckets_in, buckets_of, finished}
use Rattle.agg_nested.proofs.CountedAnswers.{finished_one}
use Rattle.agg_nested.specs.Answers.{flat_buckets, range_bucket}
use Rattle.agg_nested.specs.Finished.{IsFlatFinished}
use Rattle.agg_nested.specs.Partials.{alone, ranges_counted}
use Rattle.agg_nested.specs.declared.answer.RangeBucket.{RangeBucket}
use Rattle.agg_nested.specs.declared.request.FlatAgg.TheVariants.{Counted}
use Rattle.agg_nested.specs.declared.request.WholeRange.{WholeRange}
use Rattle.agg_nested.proofs.Plain.{own_buckets}

-- one answer, under no name
pub alone_answered : (agg : Agg) (documents : List (List DocField)) (results : List NamedResult) → IsFinished (alone agg) documents (Ok results)
    → results ≡ record { name = []; result = answer_of agg documents } ∷ []
unfolding finished
alone_answered agg documents results h = at (nat_lt most_buckets (buckets_of (alone agg) documents)) (finished_one (alone agg) documents (Ok results) h tt)
  where
    at : (b : Bool) → Ok results ≡ cond b (Err (refusals.TooManyBuckets (buckets_of (alone agg) documents))) (Ok (answers_of (alone agg) documents))
        → results ≡ record { name = []; result = answer_of agg documents } ∷ []
    at true e = absurd cc
    at false e = cc

alone_buckets : (agg : Agg) (documents : List (List DocField)) → buckets_of (alone agg) documents ≡ flat_buckets documents (Counted agg)
alone_buckets agg documents =
    let all = sum_by-cons (λ (named : NamedAgg). buckets_in named.agg documents) (record { name = []; agg = agg }) [] in
    let own = own_buckets agg documents in
    omega arith

pub alone_few : (agg : Agg) (documents : List (List DocField)) (results : List NamedResult) → IsFinished (alone agg) documents (Ok results) → flat_buckets documents (Counted agg) ≤ most_buckets
unfolding finished
alone_few agg documents results h = at (nat_lt most_buckets (buckets_of (alone agg) documents)) refl (finished_one (alone agg) documents (Ok results) h tt)
  where
    low : (m n : ℕ) → nat_lt m n ≡ false → n ≤ m
    low m n e = to (cases_lt m n)
      where
        to : (m < n) ⊎ (n ≤ m) → n ≤ m
        to (inl l) = absurd (false≢true (sym e ∙ lt-ltb m n l))
        to (inr l) = l

    at : (b : Bool) → b ≡ nat_lt most_buckets (buckets_of (alone agg) documents)
        → Ok results ≡ cond b (Err (refusals.TooManyBuckets (buckets_of (alone agg) documents))) (Ok (answers_of (alone agg) documents))
        → flat_buckets documents (Counted agg) ≤ most_buckets
    at true e f = absurd cc
    at false e f = let few = low most_buckets (buckets_of (alone agg) documents) (sym e) in let same = alone_buckets agg documents in omega arith

pub alone_refused : (agg : Agg) (documents : List (List DocField)) (e : AggError) → IsFinished (alone agg) documents (Err e) → IsFlatFinished (Counted agg) documents (Err e)
unfolding finished
alone_refused agg documents (refusals.TooManyBuckets count) h =
    (at (nat_lt most_buckets (buckets_of (alone agg) documents)) (finished_one (alone agg) documents (Err (refusals.TooManyBuckets count)) h tt), h.1)
  where
    at : (b : Bool) → ◌≡◌ {A = Result (List NamedResult) AggError} (Err (refusals.TooManyBuckets count)) (cond b (Err (refusals.TooManyBuckets (buckets_of (alone agg) documents))) (Ok (answers_of (alone agg) documents)))
        → count ≡ flat_buckets documents (Counted agg)
    at true e = (let same : count ≡ buckets_of (alone agg) documents = cc in same) ∙ alone_buckets agg documents
    at false e = absurd cc
alone_refused agg documents (refusals.Memory m) h = tt
alone_refused agg documents (refusals.NotFast field) h = absurd h
alone_refused agg documents (refusals.BadInterval name) h = absurd h

-- the bucket of one more range
pub bucket_push : (ranges : List WholeRange) (counts : List ℕ) (i : ℕ) (r : WholeRange) → i < length ranges → r ≡ get_or ranges i r
    → (buckets : List RangeBucket) → ((field : ℕ) (documents : List (List DocField)) → counts ≡ ranges_counted field ranges documents → buckets ≡ map (range_bucket field documents) (take i ranges))
    → (field : ℕ) (documents : List (List DocField)) → counts ≡ ranges_counted field ranges documents
    → buckets ++ record { range = r; count = get_or counts i 0 } ∷ [] ≡ map (range_bucket field documents) (take (i + 1) ranges)
bucket_push ranges counts i r l is buckets before field documents e =
    let next : suc i ≡ i + 1 = omega arith in
    rw (before field documents e, e) (go ranges i l is ∙ ap (λ n. map (range_bucket field documents) (take n ranges)) next)
  where
    go : (ranges : List WholeRange) (i : ℕ) → i < length ranges → r ≡ get_or ranges i r
        → map (range_bucket field documents) (take i ranges) ++ record { range = r; count = get_or (ranges_counted field ranges documents) i 0 } ∷ [] ≡ map (range_bucket field documents) (take (suc i) ranges)
    go [] i l is = absurd (omega (arith, l))
    go (s ∷ rs) zero l is = rw is refl
    go (s ∷ rs) (suc i) l is = ap (λ rest. range_bucket field documents s ∷ rest) (go rs i (omega (arith, l)) is)

pub last_of_one : {X : Type 0} (xs : List X) (a b : X) → xs ++ a ∷ [] ≡ b ∷ [] → a ≡ b
last_of_one [] a b e = cc
last_of_one (x ∷ []) a b e = absurd (let l = ap length e in omega arith)
last_of_one (x ∷ y ∷ xs) a b e = absurd (let l = ap length e in omega arith)
