-- All aggregations of a request together.
use Rattle.std.proofs.Common.{◌≡◌, ◌≢◌, ℕ, zero, suc, ◌<◌, ◌≤◌, ◌+◌, ◌*◌, ◌^◌, List, [], ◌∷◌, ◌++◌, refl, sym, ◌∙◌, ap, arith, length, get_or, drop, ⊎_elim, length-append, add-one}
use Rattle.std.proofs.lemmas.List.{get_or_default}
use Rattle.std.proofs.lemmas.Bool.{cases_eq}
use Rattle.std.specs.List.{AllZip}
use Rattle.doc_value.specs.declared.doc.DocField.{DocField}
use Rattle.agg_model.specs.Answers.{IsAnswerOf, AreAnswersOf, HasBuckets, HaveBuckets}
use Rattle.agg_model.specs.Partials.{CountsFor}
use Rattle.agg_model.specs.Spans.{shown_in, total_shown}
use Rattle.agg_model.specs.declared.answer.NamedResult.{NamedResult}
use Rattle.agg_model.specs.declared.counts.Counts.{Counts}
use Rattle.agg_model.specs.declared.request.NamedAgg.{NamedAgg}
use Rattle.agg_model.proofs.Parts.{all_zip_from, all_zip_at}

-- the first parts and the rest are all
pub total_more : (request : List NamedAgg) (parts : List Counts) (i : ℕ) (d : NamedAgg) (e : Counts) → i < length request → length parts ≡ length request
    → total_shown (drop i request) (drop i parts) ≡ shown_in (get_or request i d).agg (get_or parts i e) + total_shown (drop (suc i) request) (drop (suc i) parts)
total_more [] parts i d e l long = absurd (omega arith)
total_more (x ∷ xs) [] i d e l long = absurd (omega arith)
total_more (x ∷ xs) (y ∷ ys) zero d e l long = refl
total_more (x ∷ xs) (y ∷ ys) (suc i) d e l long = total_more xs ys i d e (omega arith) (omega arith)

pub one_of_total : (request : List NamedAgg) (parts : List Counts) (i : ℕ) (d : NamedAgg) (e : Counts) → i < length request → length parts ≡ length request
    → shown_in (get_or request i d).agg (get_or parts i e) ≤ total_shown request parts
one_of_total [] parts i d e l long = absurd (omega arith)
one_of_total (x ∷ xs) [] i d e l long = absurd (omega arith)
one_of_total (x ∷ xs) (y ∷ ys) zero d e l long = omega arith
one_of_total (x ∷ xs) (y ∷ ys) (suc i) d e l long = let k = one_of_total xs ys i d e (omega arith) (omega arith) in omega arith

pub have_all : (request : List NamedAgg) (parts : List Counts) (ds : List (List DocField)) → length parts ≡ length request
    → ((k : ℕ) (d : NamedAgg) (e : Counts) → k < length request → CountsFor (get_or request k d).agg (get_or parts k e) ds → HasBuckets (get_or request k d).agg ds (shown_in (get_or request k d).agg (get_or parts k e)))
    → AllZip (λ named counts. CountsFor named.agg counts ds) request parts → HaveBuckets request ds (total_shown request parts)
have_all [] parts ds long h z = refl
have_all (x ∷ xs) [] ds long h z = absurd (omega arith)
have_all (x ∷ xs) (y ∷ ys) ds long h z =
    (shown_in x.agg y, total_shown xs ys, h 0 x y (omega arith) z.0, have_all xs ys ds (omega arith) (λ k d e l. h (suc k) d e (omega arith)) z.1, refl)

-- of the first i aggregations it is known how many buckets they have
pub record AreShownBelow (request : List NamedAgg) (parts : List Counts) (many i : ℕ) : Type 0 where
  pub sum : many + total_shown (drop i request) (drop i parts) ≡ total_shown request parts
  pub few : many ≤ i * 2 ^ 66
  pub has : (k : ℕ) (d : NamedAgg) (e : Counts) → k < i → (ds : List (List DocField)) → CountsFor (get_or request k d).agg (get_or parts k e) ds
      → HasBuckets (get_or request k d).agg ds (shown_in (get_or request k d).agg (get_or parts k e))

pub shown_more : (request : List NamedAgg) (parts : List Counts) (many i own : ℕ) (named : NamedAgg) (part : Counts) → i < length request → length parts ≡ length request
    → named ≡ get_or request i named → part ≡ get_or parts i part → AreShownBelow request parts many i → own ≡ shown_in named.agg part → own ≤ 2 ^ 66
    → ((ds : List (List DocField)) → CountsFor named.agg part ds → HasBuckets named.agg ds (shown_in named.agg part))
    → AreShownBelow request parts (many + own) (i + 1)
shown_more request parts many i own named part within long is at before same small has = record {
  sum = let more = total_more request parts i named part within long in
      let this : shown_in (get_or request i named).agg (get_or parts i part) ≡ own = rw (← is, ← at) (sym same) in
      let so_far = before.sum in
      rw add-one (omega arith);
  few = let low = before.few in omega arith;
  has = λ k d e l. ⊎_elim (λ (s : k ≡ i).
      let named_at : get_or request k d ≡ named = ap (λ j. get_or request j d) s ∙ get_or_default request i d named within ∙ sym is in
      let part_at : get_or parts k e ≡ part = ap (λ j. get_or parts j e) s ∙ get_or_default parts i e part (omega arith) ∙ sym at in
      rw (named_at, part_at) has)
      (λ (ne : k ≢ i). before.has k d e (omega arith)) (cases_eq k i);
}

-- the first i aggregations are answered
pub record AreAnsweredBelow (request : List NamedAgg) (parts : List Counts) (results : List NamedResult) (i : ℕ) : Type 0 where
  pub long : length results ≡ i
  pub done : (k : ℕ) (d : NamedAgg) (e : Counts) (r : NamedResult) → k < i → ((get_or results k r).name ≡ (get_or request k d).name)
      × ((ds : List (List DocField)) → CountsFor (get_or request k d).agg (get_or parts k e) ds → IsAnswerOf (get_or request k d).agg ds (get_or results k r).result)

pub answered_more : (request : List NamedAgg) (parts : List Counts) (results new : List NamedResult) (i : ℕ) (named : NamedAgg) (part : Counts) (one : NamedResult) → i < length request → length parts ≡ length request
    → named ≡ get_or request i named → part ≡ get_or parts i part → AreAnsweredBelow request parts results i → new ≡ results ++ one ∷ [] → one.name ≡ named.name
    → ((ds : List (List DocField)) → CountsFor named.agg part ds → IsAnswerOf named.agg ds one.result)
    → AreAnsweredBelow request parts new (i + 1)
answered_more request parts results new i named part one within long is at before pushed name has = record {
  long = let was = before.long in rw pushed (omega (arith, length-append {A = NamedResult}));
  done = λ k d e r l. ⊎_elim (λ (s : k ≡ i).
      let named_at : get_or request k d ≡ named = ap (λ j. get_or request j d) s ∙ get_or_default request i d named within ∙ sym is in
      let part_at : get_or parts k e ≡ part = ap (λ j. get_or parts j e) s ∙ get_or_default parts i e part (omega arith) ∙ sym at in
      let one_at : get_or new k r ≡ one = ap (λ x. get_or x k r) pushed ∙ ap (λ j. get_or (results ++ one ∷ []) j r) (s ∙ sym before.long) ∙ last_of results one r in
      rw (named_at, part_at, one_at) (name, has))
      (λ (ne : k ≢ i).
      let same : get_or new k r ≡ get_or results k r = ap (λ x. get_or x k r) pushed ∙ front_of results one r k (let was = before.long in omega arith) in
      rw same (before.done k d e r (omega arith))) (cases_eq k i);
}
  where
    last_of : (xs : List NamedResult) (x r : NamedResult) → get_or (xs ++ x ∷ []) (length xs) r ≡ x
    last_of [] x r = refl
    last_of (y ∷ ys) x r = last_of ys x r

    front_of : (xs : List NamedResult) (x r : NamedResult) (k : ℕ) → k < length xs → get_or (xs ++ x ∷ []) k r ≡ get_or xs k r
    front_of [] x r k l = absurd (omega arith)
    front_of (y ∷ ys) x r zero l = refl
    front_of (y ∷ ys) x r (suc k) l = front_of ys x r k (omega arith)

pub all_answered : (request : List NamedAgg) (parts : List Counts) (results : List NamedResult) (ds : List (List DocField)) → length parts ≡ length request
    → AreAnsweredBelow request parts results (length request) → AllZip (λ named counts. CountsFor named.agg counts ds) request parts → AreAnswersOf request ds results
all_answered [] parts results ds long h z = at results h.long
  where
    at : (rs : List NamedResult) → length rs ≡ 0 → AreAnswersOf [] ds rs
    at [] e = tt
    at (r ∷ rs) e = absurd (omega arith)
all_answered (x ∷ xs) [] results ds long h z = absurd (omega arith)
all_answered (x ∷ xs) (y ∷ ys) results ds long h z =
    all_zip_from (λ (named : NamedAgg) (answered : NamedResult). (answered.name ≡ named.name) × IsAnswerOf named.agg ds answered.result) (x ∷ xs) results h.long
    (λ k d r l. let one = h.done k d y r l in (one.0, one.1 ds (all_zip_at (λ (named : NamedAgg) (counts : Counts). CountsFor named.agg counts ds) (x ∷ xs) (y ∷ ys) k d y z l)))
