-- What is answered is one.
use Rattle.std.proofs.Common.{◌≡◌, ℕ, ◌+◌, ◌<◌, ◌≤◌, List, [], ◌∷◌, length, min, Result, Ok, Err, refl, sym, ◌∙◌, ap, ap₂, subst, inl, inr, ℤ}
use Rattle.std.specs.List.Sorted.{IsPermutation}
use Rattle.std.proofs.lemmas.Bool.{cases_lt, lt-ltb, le-ltb}
use Rattle.std.proofs.lemmas.List.Sums.{sum_by-cons}
use Rattle.agg_model.specs.Answers.{AreAnswersOf, HasBuckets, HaveBuckets, IsAnswerOf, IsFinished, most_buckets}
use Rattle.agg_model.specs.Counting.{step_count}
use Rattle.agg_model.specs.declared.agg_error.AggError.{AggError}
use Rattle.agg_model.specs.declared.agg_error.AggError.TheVariants as refusals
use Rattle.agg_model.specs.declared.answer.AggAnswer.{AggAnswer}
use Rattle.agg_model.specs.declared.answer.AggAnswer.TheVariants as answers
use Rattle.agg_model.specs.declared.answer.Bucket.{Bucket}
use Rattle.agg_model.specs.declared.answer.NamedResult.{NamedResult}
use Rattle.agg_model.specs.declared.ranking.ValueCount.{ValueCount}
use Rattle.agg_model.specs.declared.request.Agg.{Agg}
use Rattle.agg_model.specs.declared.request.Agg.TheVariants.{Terms, Histogram}
use Rattle.agg_model.specs.declared.request.NamedAgg.{NamedAgg}
use Rattle.agg_nested.specs.Terms.{terms_answer, terms_of}
use Rattle.agg_nested.specs.Steps.{histogram_answer, steps_of}
use Rattle.agg_nested.specs.CountedAnswers.{HadMemory, answer_of, answers_of, buckets_in, buckets_of, finished, limited}
use Rattle.agg_nested.proofs.Members.{Documents}
use Rattle.agg_nested.proofs.Terms.{terms_counted, terms_length, terms_moved, terms_one, terms_sorted}
use Rattle.agg_nested.proofs.Steps.{counts_moved, shown_one, steps_moved, steps_shown_are}

-- ---- one aggregation

is_answer : (agg : Agg) (ds : Documents) → IsAnswerOf agg ds (answer_of agg ds)
is_answer (Terms field size) ds = record { all = terms_of field ds; counted = terms_counted field ds; order = terms_sorted field ds; cut = (refl, refl) }
is_answer (Histogram field interval offset least dated) ds = record { steps = steps_of field interval offset least ds; are = steps_shown_are field interval offset ds least; given = refl }

pub answer_one : (agg : Agg) (ds : Documents) (answer : AggAnswer) → IsAnswerOf agg ds answer → answer ≡ answer_of agg ds
answer_one (Terms field size) ds (answers.Terms buckets others) h =
    ap₂ (λ (bs : List Bucket) (n : ℕ). answers.Terms bs n) h.cut.0 h.cut.1 ∙ ap (λ (all : List ValueCount). terms_answer size all) (terms_one field ds h.all h.counted h.order)
answer_one (Terms field size) ds (answers.Histogram buckets) h = absurd h.cut
answer_one (Histogram field interval offset least dated) ds (answers.Terms buckets others) h = absurd h.given
answer_one (Histogram field interval offset least dated) ds (answers.Histogram buckets) h =
    let count = step_count field interval offset ds in
    ap (λ (bs : List Bucket). answers.Histogram bs) h.given
    ∙ ap (λ (steps : List ℤ). histogram_answer interval offset count steps) (shown_one least count h.steps (steps_of field interval offset least ds) h.are (steps_shown_are field interval offset ds least))

has_buckets : (agg : Agg) (ds : Documents) → HasBuckets agg ds (buckets_in agg ds)
has_buckets (Terms field size) ds = (terms_of field ds, terms_counted field ds, refl)
has_buckets (Histogram field interval offset least dated) ds = (steps_of field interval offset least ds, steps_shown_are field interval offset ds least, refl)

answer_moved : (agg : Agg) (ds es : Documents) → IsPermutation ds es → answer_of agg ds ≡ answer_of agg es
answer_moved (Terms field size) ds es moved = ap (λ (all : List ValueCount). terms_answer size all) (terms_moved field ds es moved)
answer_moved (Histogram field interval offset least dated) ds es moved =
    ap₂ (λ (count : ℤ → ℕ) (steps : List ℤ). histogram_answer interval offset count steps) (counts_moved field interval offset ds es moved) (steps_moved field interval offset ds es least moved)

buckets_moved : (agg : Agg) (ds es : Documents) → IsPermutation ds es → buckets_in agg ds ≡ buckets_in agg es
buckets_moved (Terms field size) ds es moved = ap (λ (all : List ValueCount). min size (length all)) (terms_moved field ds es moved)
buckets_moved (Histogram field interval offset least dated) ds es moved = ap (λ (steps : List ℤ). length steps) (steps_moved field interval offset ds es least moved)

buckets_one : (agg : Agg) (ds : Documents) (many : ℕ) → HasBuckets agg ds many → many ≡ buckets_in agg ds
buckets_one (Terms field size) ds many h = h.2 ∙ ap (λ (n : ℕ). min size n) (terms_length field ds h.0 h.1)
buckets_one (Histogram field interval offset least dated) ds many h =
    h.2 ∙ ap (λ (steps : List ℤ). length steps) (shown_one least (step_count field interval offset ds) h.0 (steps_of field interval offset least ds) h.1 (steps_shown_are field interval offset ds least))

-- ---- a request

abbrev under : List ℕ → AggAnswer → NamedResult
under name result = record { name = name; result = result }

are_answers : (request : List NamedAgg) (ds : Documents) → AreAnswersOf request ds (answers_of request ds)
are_answers [] ds = tt
are_answers (named ∷ rest) ds = ((refl, is_answer named.agg ds), are_answers rest ds)

answers_one : (request : List NamedAgg) (ds : Documents) (results : List NamedResult) → AreAnswersOf request ds results → results ≡ answers_of request ds
answers_one [] ds [] h = refl
answers_one [] ds (r ∷ rs) h = absurd h
answers_one (named ∷ rest) ds [] h = absurd h
answers_one (named ∷ rest) ds (r ∷ rs) h =
    ap₂ (λ (x : NamedResult) (xs : List NamedResult). x ∷ xs) (ap₂ under h.0.0 (answer_one named.agg ds r.result h.0.1)) (answers_one rest ds rs h.1)

answers_moved : (request : List NamedAgg) (ds es : Documents) → IsPermutation ds es → answers_of request ds ≡ answers_of request es
answers_moved [] ds es moved = refl
answers_moved (named ∷ rest) ds es moved =
    ap₂ (λ (answer : AggAnswer) (xs : List NamedResult). under named.name answer ∷ xs) (answer_moved named.agg ds es moved) (answers_moved rest ds es moved)

more_buckets : (ds : Documents) (named : NamedAgg) (rest : List NamedAgg) → buckets_of (named ∷ rest) ds ≡ buckets_in named.agg ds + buckets_of rest ds
more_buckets ds named rest = sum_by-cons (λ (n : NamedAgg). buckets_in n.agg ds) named rest

have_buckets : (request : List NamedAgg) (ds : Documents) → HaveBuckets request ds (buckets_of request ds)
have_buckets [] ds = refl
have_buckets (named ∷ rest) ds = (buckets_in named.agg ds, buckets_of rest ds, has_buckets named.agg ds, have_buckets rest ds, more_buckets ds named rest)

all_buckets_one : (request : List NamedAgg) (ds : Documents) (many : ℕ) → HaveBuckets request ds many → many ≡ buckets_of request ds
all_buckets_one [] ds many h = h
all_buckets_one (named ∷ rest) ds many h =
    h.4 ∙ ap₂ (λ (m n : ℕ). m + n) (buckets_one named.agg ds h.0 h.2) (all_buckets_one rest ds h.1 h.3) ∙ sym (more_buckets ds named rest)

all_buckets_moved : (request : List NamedAgg) (ds es : Documents) → IsPermutation ds es → buckets_of request ds ≡ buckets_of request es
all_buckets_moved [] ds es moved = refl
all_buckets_moved (named ∷ rest) ds es moved =
    more_buckets ds named rest ∙ ap₂ (λ (m n : ℕ). m + n) (buckets_moved named.agg ds es moved) (all_buckets_moved rest ds es moved) ∙ sym (more_buckets es named rest)

-- ---- what is finished

are_few : (many : ℕ) (results : List NamedResult) → many ≤ most_buckets → limited many results ≡ Ok results
are_few many results few = rw (le-ltb most_buckets many few) refl

are_many : (many : ℕ) (results : List NamedResult) → most_buckets < many → limited many results ≡ Err (refusals.TooManyBuckets many)
are_many many results h = rw (lt-ltb most_buckets many h) refl

pub is_finished : (request : List NamedAgg) (ds : Documents) → IsFinished request ds (finished request ds)
unfolding finished
is_finished request ds = elim (cases_lt most_buckets (buckets_of request ds)) [
  | inl many ↦ subst (λ (r : Result (List NamedResult) AggError). IsFinished request ds r) (sym (are_many (buckets_of request ds) (answers_of request ds) many)) (have_buckets request ds, many)
  | inr few ↦ subst (λ (r : Result (List NamedResult) AggError). IsFinished request ds r) (sym (are_few (buckets_of request ds) (answers_of request ds) few))
      (are_answers request ds, (buckets_of request ds, have_buckets request ds, few))
]

pub finished_one : (request : List NamedAgg) (ds : Documents) (result : Result (List NamedResult) AggError) → IsFinished request ds result → HadMemory result → result ≡ finished request ds
unfolding finished
finished_one request ds (Ok results) h had =
    let many : h.1.0 ≡ buckets_of request ds = all_buckets_one request ds h.1.0 h.1.1 in
    let few : buckets_of request ds ≤ most_buckets = subst (λ (n : ℕ). n ≤ most_buckets) many h.1.2 in
    ap (λ (rs : List NamedResult). Ok rs) (answers_one request ds results h.0) ∙ sym (are_few (buckets_of request ds) (answers_of request ds) few)
finished_one request ds (Err (refusals.TooManyBuckets count)) h had =
    let many : count ≡ buckets_of request ds = all_buckets_one request ds count h.0 in
    sym (are_many count (answers_of request ds) h.1) ∙ ap (λ (n : ℕ). limited n (answers_of request ds)) many
finished_one request ds (Err (refusals.Memory m)) h had = absurd had
finished_one request ds (Err (refusals.NotFast field)) h had = absurd h
finished_one request ds (Err (refusals.BadInterval name)) h had = absurd h

pub finished_moved : (request : List NamedAgg) (ds es : Documents) → IsPermutation ds es → finished request ds ≡ finished request es
unfolding finished
finished_moved request ds es moved = ap₂ (λ (many : ℕ) (results : List NamedResult). limited many results) (all_buckets_moved request ds es moved) (answers_moved request ds es moved)
