-- The buckets of an answer that are not empty steps, and the others: an empty step has the nested buckets of no documents.
use Rattle.std.proofs.Common.{◌≡◌, ℕ, zero, suc, ◌<◌, ◌+◌, ◌-◌, ◌*◌, ◌^◌, Bool, true, false, cond, List, [], ◌∷◌, map, filter, length, max, min, Option, Some, None, refl, sym, ◌∙◌, ap, ap₂, subst, arith, inl, inr, ℤ, pos, negsuc, ◌+ℤ◌, ◌*ℤ◌, ◌≤ℤ◌, ◌<ℤ◌, nat_lt}
use Rattle.std.proofs.lemmas.Bool.{false≢true, false_from_ne_true, lt-ltb}
use Rattle.std.proofs.lemmas.Bool.Decides.{Decides-int_eq}
use Rattle.std.proofs.lemmas.Int.{ints, unsigned_abs-mul}
use Rattle.std.proofs.lemmas.List.{length-map}
use Rattle.std.proofs.lemmas.Nat.{same_from_place}
use Rattle.std.specs.Int.RustNames.{unsigned_abs}
use Rattle.std.specs.List.{AllByRecursion, AllZip, Contains, count_by, list_any, sum_by}
use Rattle.std.specs.Option.{option_map, option_map_or, option_to_list}
use Rattle.std.specs.Ordering.{int_eq}
use Rattle.doc_value.specs.declared.doc.DocField.{DocField}
use Rattle.agg_model.specs.Answers.{IsRising, IsAnswerOf, AreShown, ShowsEmpty, step_bucket}
use Rattle.agg_model.specs.Counting.{first_whole, lies_in, step_count, step_of}
use Rattle.agg_model.specs.Partials.{CountsFor, IsPart, IsPartialOf, StandsFor}
use Rattle.agg_model.specs.Checking.{HasInterval}
use Rattle.agg_model.specs.declared.answer.AggAnswer.{AggAnswer}
use Rattle.agg_model.specs.declared.counts.Counts.{Counts}
use Rattle.agg_model.specs.declared.partial.Partial.{Partial}
use Rattle.agg_model.specs.declared.request.Agg.{Agg}
use Rattle.agg_model.specs.declared.request.Agg.TheVariants.{Terms, Histogram}
use Rattle.agg_model.specs.declared.request.NamedAgg.{NamedAgg}
use Rattle.agg_nested.specs.Steps.{steps_of}
use Rattle.agg_nested.proofs.CountedAnswers.{answer_one}
use Rattle.agg_nested.proofs.Members.{count_more}
use Rattle.agg_nested.proofs.Ordered.{none_in, here, later, first_or}
use Rattle.agg_nested.proofs.Steps.{shown_one, steps_shown_are}
use Rattle.agg_nested.specs.Answers.{flat_answer, flat_buckets, inner_buckets, nested_buckets, told}
use Rattle.agg_nested.specs.Checking.{HasStep}
use Rattle.agg_nested.specs.Finished.{without_empty, filled}
use Rattle.agg_nested.specs.Partials.{alone, CountsStand}
use Rattle.agg_nested.specs.Spots.{Spot, step, same_spot, begin_of, has_spot, documents_at, key_spot, spots_counted, spots_in}
use Rattle.agg_nested.specs.declared.request.FlatAgg.{FlatAgg}
use Rattle.agg_nested.specs.declared.request.FlatAgg.TheVariants.{Counted, Metric, Ranges}
use Rattle.agg_nested.specs.declared.request.NamedFlat.{NamedFlat}
use Rattle.agg_nested.specs.declared.request.NestedAgg.{NestedAgg}
use Rattle.agg_nested.proofs.Sums.{sum_kept, sum_mapped, told_part}

-- ---- the same aggregation without its empty steps

zip_one : {A B : Type 0} (R S : A → B → Type 0) (x y : A) (bs : List B) → ((b : B) → R x b → S y b) → AllZip R (x ∷ []) bs → AllZip S (y ∷ []) bs
zip_one R S x y [] f h = absurd h
zip_one R S x y (b ∷ []) f h = (f b h.0, tt)
zip_one R S x y (b ∷ c ∷ bs) f h = absurd h.1

part_without : (n : ℕ) (agg : Agg) (counts : Counts) → IsPart n agg counts → IsPart n (without_empty agg) counts
part_without n (Terms field size) counts h = h
part_without n (Histogram field interval offset least dated) counts h = record { tallies = h.tallies; steps = h.steps }

counts_without : (agg : Agg) (counts : Counts) (documents : List (List DocField)) → CountsFor agg counts documents → CountsFor (without_empty agg) counts documents
counts_without (Terms field size) counts documents h = h
counts_without (Histogram field interval offset least dated) counts documents h = h

pub partial_without : (agg : Agg) (partial : Partial) → IsPartialOf (alone agg) partial → IsPartialOf (alone (without_empty agg)) partial
partial_without agg partial h = record {
  few = h.few;
  parts = zip_one (λ (n : NamedAgg) (p : Counts). IsPart partial.documents n.agg p) (λ (n : NamedAgg) (p : Counts). IsPart partial.documents n.agg p)
      (record { name = []; agg = agg }) (record { name = []; agg = without_empty agg }) partial.parts.items (part_without partial.documents agg) h.parts;
}

pub stands_without : (agg : Agg) (partial : Partial) (documents : List (List DocField)) → StandsFor (alone agg) partial documents → StandsFor (alone (without_empty agg)) partial documents
stands_without agg partial documents h = record {
  many = h.many;
  parts = zip_one (λ (n : NamedAgg) (p : Counts). CountsFor n.agg p documents) (λ (n : NamedAgg) (p : Counts). CountsFor n.agg p documents)
      (record { name = []; agg = agg }) (record { name = []; agg = without_empty agg }) partial.parts.items (λ p. counts_without agg p documents) h.parts;
}

pub interval_without : (agg : Agg) → HasInterval agg → HasInterval (without_empty agg)
interval_without (Terms field size) h = h
interval_without (Histogram field interval offset least dated) h = h

pub shows_none : (agg : Agg) → ShowsEmpty (without_empty agg) → ⊥
shows_none (Terms field size) h = h
shows_none (Histogram field interval offset least dated) h = omega (arith, h)

-- ---- steps that are kept

kept_in : {X : Type 0} (p : X → Bool) (xs : List X) (x : X) → Contains (filter p xs) x → Contains xs x × (p x ≡ true)
kept_in p [] x c = absurd (none_in x c)
kept_in {X} p (y ∷ ys) x c = at (p y) refl c (kept_in p ys x)
  where
    at : (b : Bool) → b ≡ p y → Contains (cond b (y ∷ filter p ys) (filter p ys)) x → (Contains (filter p ys) x → Contains ys x × (p x ≡ true)) → Contains (y ∷ ys) x × (p x ≡ true)
    at true e c rest = elim (first_or y (filter p ys) x c) [
      | inl same ↦ subst (λ (z : X). Contains (y ∷ ys) z × (p z ≡ true)) same (here y ys, sym e)
      | inr there ↦ let m = rest there in (later y ys x m.0, m.1)
    ]
    at false e c rest = let m = rest c in (later y ys x m.0, m.1)

in_kept : {X : Type 0} (p : X → Bool) (xs : List X) (x : X) → Contains xs x → p x ≡ true → Contains (filter p xs) x
in_kept p [] x c t = absurd (none_in x c)
in_kept {X} p (y ∷ ys) x c t = at (p y) refl (λ d. in_kept p ys x d t)
  where
    at : (b : Bool) → b ≡ p y → (Contains ys x → Contains (filter p ys) x) → Contains (cond b (y ∷ filter p ys) (filter p ys)) x
    at true e rest = elim (first_or y ys x c) [
      | inl same ↦ subst (λ (z : X). Contains (y ∷ filter p ys) z) same (here y (filter p ys))
      | inr there ↦ later y (filter p ys) x (rest there)
    ]
    at false e rest = elim (first_or y ys x c) [ inl same ↦ absurd (false≢true (e ∙ ap p same ∙ t)) | inr there ↦ rest there ]

kept_all : {X : Type 0} (P : X → Type 0) (p : X → Bool) (xs : List X) → AllByRecursion P xs → AllByRecursion P (filter p xs)
kept_all P p [] h = tt
kept_all P p (x ∷ xs) h = at (p x) (kept_all P p xs h.1)
  where
    at : (b : Bool) → AllByRecursion P (filter p xs) → AllByRecursion P (cond b (x ∷ filter p xs) (filter p xs))
    at true rest = (h.0, rest)
    at false rest = rest

kept_rises : (p : ℤ → Bool) (xs : List ℤ) → IsRising xs → IsRising (filter p xs)
kept_rises p [] h = tt
kept_rises p (x ∷ xs) h = at (p x) (kept_rises p xs h.1)
  where
    at : (b : Bool) → IsRising (filter p xs) → IsRising (cond b (x ∷ filter p xs) (filter p xs))
    at true rest = (kept_all (λ y. x <ℤ y) p xs h.0, rest)
    at false rest = rest

above_none : (n : ℕ) → nat_lt 0 n ≡ true → 0 < n
above_none zero e = absurd cc
above_none (suc n) e = omega arith

none_above : (n : ℕ) → nat_lt 0 n ≡ false → n ≡ 0
none_above zero e = refl
none_above (suc n) e = absurd (false≢true (sym e ∙ lt-ltb 0 (suc n) (omega arith)))

-- ---- steps begin apart

cancel : (s t : ℤ) (k : ℕ) → s *ℤ pos (suc k) ≡ t *ℤ pos (suc k) → s ≡ t
cancel (pos s) (pos t) k e =
    let sizes : s * suc k ≡ t * suc k = sym (unsigned_abs-mul (pos s) (pos (suc k))) ∙ ap unsigned_abs e ∙ unsigned_abs-mul (pos t) (pos (suc k)) in
    ap pos (same_from_place s 0 t 0 (suc k) (omega arith) (omega arith) (omega (arith, sizes))).0
cancel (pos s) (negsuc t) k e = absurd (omega (arith, ints, e))
cancel (negsuc s) (pos t) k e = absurd (omega (arith, ints, e))
cancel (negsuc s) (negsuc t) k e =
    let sizes : suc s * suc k ≡ suc t * suc k = sym (unsigned_abs-mul (negsuc s) (pos (suc k))) ∙ ap unsigned_abs e ∙ unsigned_abs-mul (negsuc t) (pos (suc k)) in
    let same : suc s ≡ suc t = (same_from_place (suc s) 0 (suc t) 0 (suc k) (omega arith) (omega arith) (omega (arith, sizes))).0 in
    ap negsuc (omega (arith, same))

begins_apart : (s t interval offset : ℤ) → pos 1 ≤ℤ interval → s *ℤ interval +ℤ offset ≡ t *ℤ interval +ℤ offset → s ≡ t
begins_apart s t (pos zero) offset some e = absurd (omega (arith, ints, some))
begins_apart s t (pos (suc k)) offset some e = cancel s t k (omega (arith, ints, e))
begins_apart s t (negsuc k) offset some e = absurd (omega (arith, ints, some))

-- ---- the empty steps

abbrev as_one : Bool → ℕ
as_one b = cond b 1 0

module _ (field : ℕ) (interval offset : ℤ) (dated : Bool) (some : pos 1 ≤ℤ interval) where
  abbrev whole : FlatAgg
  whole = Counted (Histogram field interval offset 0 dated)

  abbrev spot : ℤ → Spot
  spot s = step (s *ℤ interval +ℤ offset)

  none_there : (s : ℤ) (doc : List DocField) → lies_in field interval offset s doc ≡ false → has_spot whole (spot s) doc ≡ false
  none_there s doc h = at (first_whole field doc) h
    where
      at : (o : Option ℤ) → option_map_or (λ z. int_eq (step_of interval offset z) s) o false ≡ false
          → list_any (same_spot (spot s)) (option_to_list (option_map (λ z. step (begin_of interval offset z)) o)) ≡ false
      at None h = refl
      at (Some z) h =
          let apart : int_eq (s *ℤ interval +ℤ offset) (begin_of interval offset z) ≡ false = false_from_ne_true (int_eq (s *ℤ interval +ℤ offset) (begin_of interval offset z)) (λ e.
          let same : s ≡ step_of interval offset z = begins_apart s (step_of interval offset z) interval offset some ((Decides-int_eq (s *ℤ interval +ℤ offset) (begin_of interval offset z)).0 e) in
          false≢true (sym h ∙ (Decides-int_eq (step_of interval offset z) s).1 (sym same))) in
          rw apart refl

  none_at : (s : ℤ) (documents : List (List DocField)) → count_by (lies_in field interval offset s) documents ≡ 0 → documents_at whole documents (spot s) ≡ []
  none_at s [] h = refl
  none_at s (d ∷ ds) h = at (lies_in field interval offset s d) refl (count_more (lies_in field interval offset s) d ds) (none_at s ds)
    where
      at : (b : Bool) → b ≡ lies_in field interval offset s d
          → count_by (lies_in field interval offset s) (d ∷ ds) ≡ as_one (lies_in field interval offset s d) + count_by (lies_in field interval offset s) ds
          → (count_by (lies_in field interval offset s) ds ≡ 0 → documents_at whole ds (spot s) ≡ []) → documents_at whole (d ∷ ds) (spot s) ≡ []
      at true e more rest = absurd (let one : as_one (lies_in field interval offset s d) ≡ as_one true = ap as_one (sym e) in omega (arith, more, one, h))
      at false e more rest =
          let none : as_one (lies_in field interval offset s d) ≡ as_one false = ap as_one (sym e) in
          ap (λ b. cond b (d ∷ documents_at whole ds (spot s)) (documents_at whole ds (spot s))) (none_there s d (sym e)) ∙ rest (omega (arith, more, none, h))

  module _ (documents : List (List DocField)) where
    abbrev count : ℤ → ℕ
    count s = step_count field interval offset documents s

    abbrev is_filled : ℤ → Bool
    is_filled s = nat_lt 0 (count s)

    filled_steps : filter is_filled (steps_of field interval offset 0 documents) ≡ steps_of field interval offset 1 documents
    filled_steps = shown_one 1 count (filter is_filled (steps_of field interval offset 0 documents)) (steps_of field interval offset 1 documents) are (steps_shown_are field interval offset documents 1)
      where
        all : AreShown 0 count (steps_of field interval offset 0 documents)
        all = steps_shown_are field interval offset documents 0

        are : AreShown 1 count (filter is_filled (steps_of field interval offset 0 documents))
        are = record {
          rise = kept_rises is_filled (steps_of field interval offset 0 documents) all.rise;
          shown = λ s. (
            (λ c. let t = above_none (count s) (kept_in is_filled (steps_of field interval offset 0 documents) s c).1 in omega (arith, t)),
            (λ h. in_kept is_filled (steps_of field interval offset 0 documents) s
                ((all.shown s).1 (record { low = s; high = s; some_low = omega (arith, h); some_high = omega (arith, h); from = omega (arith, ints); to = omega (arith, ints) }))
                (lt-ltb 0 (count s) (omega (arith, h)))),
          );
        }

    steps_inner : (nested : List NamedFlat) → sum_by (λ s. inner_buckets nested (documents_at whole documents (spot s))) (steps_of field interval offset 0 documents)
        ≡ sum_by (λ s. inner_buckets nested (documents_at whole documents (spot s))) (steps_of field interval offset 1 documents)
        + (length (steps_of field interval offset 0 documents) - length (steps_of field interval offset 1 documents)) * inner_buckets nested []
    steps_inner nested =
        rw (← filled_steps) (sum_kept is_filled (λ s. inner_buckets nested (documents_at whole documents (spot s))) (inner_buckets nested [])
        (λ s e. ap (inner_buckets nested) (none_at s documents (none_above (count s) e))) (steps_of field interval offset 0 documents))

-- ---- of any aggregation

no_others : (a n v : ℕ) → a ≡ a + (n - n) * v
no_others a n v = let none : n - n ≡ 0 = omega arith in rw none (omega arith)

-- the spots of a histogram's answer
spots_sum : (f : Spot → ℕ) (interval offset : ℤ) (count : ℤ → ℕ) (steps : List ℤ)
    → sum_by f (map (λ b. key_spot b.key) (map (step_bucket interval offset count) steps)) ≡ sum_by (λ s. f (step (s *ℤ interval +ℤ offset))) steps
spots_sum f interval offset count steps =
    sum_mapped f (λ b. key_spot b.key) (map (step_bucket interval offset count) steps) ∙ sum_mapped (λ b. f (key_spot b.key)) (step_bucket interval offset count) steps

spots_long : (interval offset : ℤ) (count : ℤ → ℕ) (steps : List ℤ) → length (map (λ b. key_spot b.key) (map (step_bucket interval offset count) steps)) ≡ length steps
spots_long interval offset count steps = rw (length-map, length-map) refl

all_inner : (agg : FlatAgg) → HasStep agg → (nested : List NamedFlat) (documents : List (List DocField))
    → sum_by (λ spot. inner_buckets nested (documents_at agg documents spot)) (spots_in (flat_answer documents agg))
    ≡ sum_by (λ spot. inner_buckets nested (documents_at agg documents spot)) (spots_in (flat_answer documents (filled agg)))
    + (flat_buckets documents agg - length (spots_in (flat_answer documents (filled agg)))) * inner_buckets nested []
all_inner (Counted (Terms field size)) h nested documents =
    no_others (sum_by (λ spot. inner_buckets nested (documents_at (Counted (Terms field size)) documents spot)) (spots_in (flat_answer documents (Counted (Terms field size))))) (flat_buckets documents (Counted (Terms field size))) (inner_buckets nested [])
all_inner (Counted (Histogram field interval offset zero dated)) h nested documents =
    let f : Spot → ℕ = λ spot. inner_buckets nested (documents_at (Counted (Histogram field interval offset 0 dated)) documents spot) in
    let count : ℤ → ℕ = step_count field interval offset documents in
    let all : List ℤ = steps_of field interval offset 0 documents in
    let some : List ℤ = steps_of field interval offset 1 documents in
    spots_sum f interval offset count all ∙ steps_inner field interval offset dated h documents nested
    ∙ ap₂ (λ (a n : ℕ). a + n * inner_buckets nested []) (sym (spots_sum f interval offset count some))
    (ap₂ (λ (m n : ℕ). m - n) (sym (spots_long interval offset count all)) (sym (spots_long interval offset count some)))
all_inner (Counted (Histogram field interval offset (suc least) dated)) h nested documents =
    let agg : FlatAgg = Counted (Histogram field interval offset (suc least) dated) in
    let same : suc least ≡ max (suc least) 1 = omega arith in
    subst (λ (l : ℕ). sum_by (λ spot. inner_buckets nested (documents_at agg documents spot)) (spots_in (flat_answer documents agg))
    ≡ sum_by (λ spot. inner_buckets nested (documents_at agg documents spot)) (spots_in (flat_answer documents (Counted (Histogram field interval offset l dated))))
    + (flat_buckets documents agg - length (spots_in (flat_answer documents (Counted (Histogram field interval offset l dated))))) * inner_buckets nested []) same
    (no_others (sum_by (λ spot. inner_buckets nested (documents_at agg documents spot)) (spots_in (flat_answer documents agg))) (flat_buckets documents agg) (inner_buckets nested []))
all_inner (Metric kind field) h nested documents =
    no_others (sum_by (λ spot. inner_buckets nested (documents_at (Metric kind field) documents spot)) (spots_in (flat_answer documents (Metric kind field)))) (flat_buckets documents (Metric kind field)) (inner_buckets nested [])
all_inner (Ranges field ranges) h nested documents =
    no_others (sum_by (λ spot. inner_buckets nested (documents_at (Ranges field ranges) documents spot)) (spots_in (flat_answer documents (Ranges field ranges)))) (flat_buckets documents (Ranges field ranges)) (inner_buckets nested [])

-- the buckets that are counted are those of the aggregation without its empty steps
pub filled_spots : (agg shown : Agg) (asked : List NamedAgg) (partial : Partial) (documents : List (List DocField)) (answer : AggAnswer) → shown ≡ without_empty agg
    → ((name : List ℕ) (ds : List (List DocField)) → StandsFor (record { name = name; agg = shown } ∷ []) partial ds → IsAnswerOf shown ds answer)
    → CountsStand agg asked partial documents → spots_counted answer ≡ spots_in (flat_answer documents (filled (Counted agg)))
filled_spots agg shown asked partial documents answer is h s =
    let own = rw is at h in
    ap spots_counted (answer_one (without_empty agg) documents answer (own [] documents (stands_without agg partial documents s.stands)))

-- all buckets of an aggregation, of which the empty steps are not walked
part_buckets : (asked : NestedAgg) → HasStep asked.agg → (documents : List (List DocField)) → nested_buckets documents asked
    ≡ flat_buckets documents asked.agg + sum_by (λ spot. inner_buckets asked.nested (documents_at asked.agg documents spot)) (spots_in (flat_answer documents (filled asked.agg)))
    + (flat_buckets documents asked.agg - length (spots_in (flat_answer documents (filled asked.agg)))) * inner_buckets asked.nested []
part_buckets asked h documents = let inner = all_inner asked.agg h asked.nested documents in omega (arith, inner)

pub part_told : (asked : NestedAgg) → HasStep asked.agg → (documents : List (List DocField)) (own inner each many empty sum product total : ℕ) (spots : List Spot)
    → own ≡ flat_buckets documents asked.agg → spots ≡ spots_in (flat_answer documents (filled asked.agg))
    → inner ≡ told (sum_by (λ spot. inner_buckets asked.nested (documents_at asked.agg documents spot)) spots) → each ≡ told (inner_buckets asked.nested [])
    → many ≡ length spots → empty ≡ own - many → sum ≡ min (own + inner) (2 ^ 128 - 1) → product ≡ min (empty * each) (2 ^ 128 - 1) → total ≡ min (sum + product) (2 ^ 128 - 1)
    → total ≡ told (nested_buckets documents asked)
part_told asked h documents own inner each many empty sum product total spots o sp i ea m em s p t =
    let buckets = part_buckets asked h documents in
    rw (t, s, p, em, m, i, ea, o, sp)
    (told_part (flat_buckets documents asked.agg) (sum_by (λ spot. inner_buckets asked.nested (documents_at asked.agg documents spot)) (spots_in (flat_answer documents (filled asked.agg))))
    (flat_buckets documents asked.agg - length (spots_in (flat_answer documents (filled asked.agg)))) (inner_buckets asked.nested []) ∙ ap told (sym buckets))
