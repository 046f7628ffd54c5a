-- The values of a part, listed, are those that some document has.
use Rattle.std.proofs.Common.{◌≡◌, ℕ, suc, ◌<◌, ◌+◌, Bool, true, false, cond, List, [], ◌∷◌, ◌++◌, append_assoc, length, get_or, Option, Some, None, refl, sym, ◌∙◌, ap, arith, ℤ, pos, negsuc, String, is_some, nat_lt, zero-add}
use Rattle.std.proofs.lemmas.Bool.{false≢true, lt-ltb}
use Rattle.std.proofs.lemmas.Bool.Decides.{Decides-int_eq}
use Rattle.std.proofs.lemmas.List.Elements.{All-map, All-append}
use Rattle.std.proofs.lemmas.List.Sorted.{All-permutation, sum_by-IsPermutation}
use Rattle.std.proofs.lemmas.List.Sums.{sum_by-append, sum_by-cons}
use Rattle.std.proofs.lemmas.Map.Entries.{hash_map_get_place}
use Rattle.std.proofs.lemmas.Map.Keys.{IsDistinct-head, IsDistinct-tail}
use Rattle.std.proofs.lemmas.Option.{slice_get-get_or, MatchOption-at_some, IfSome_then}
use Rattle.std.proofs.lemmas.Slice.Eq.{bytes_eq-Decides}
use Rattle.std.specs.Bool.{one_answer}
use Rattle.std.specs.Cmp.{IsEquivalence, int_eq_equiv}
use Rattle.std.specs.HashMap.{HashMap, get, IsUnique}
use Rattle.std.specs.List.{All, AllByRecursion, IsDistinct, count_by}
use Rattle.std.specs.List.Sorted.{IsPermutation}
use Rattle.std.specs.Map.{lookup, keys_of}
use Rattle.std.specs.Option.{IfSome}
use Rattle.std.specs.Ordering.{int_eq}
use Rattle.std.specs.Str.{bytes_eq}
use Rattle.std.specs.String.{string_bytes, string_eq, string_eq_equiv}
use Rattle.std.specs.declared.alloc.Global.{Global}
use Rattle.doc_value.specs.declared.doc.DocField.{DocField}
use Rattle.doc_value.specs.declared.doc.Value.{Value}
use Rattle.agg_model.specs.Answers.{AreCounted}
use Rattle.agg_model.specs.Counting.{Slot, text, signed, unsigned, truth, datetime, slot_of, same_slot, truth_number, value_count}
use Rattle.agg_model.specs.Listed.{value_at, counted, listed, text_slot, all_listed, AreUnique}
use Rattle.agg_model.specs.Partials.{IsSlotOfValue, IsTally, CountsFor, tally_at, tallied}
use Rattle.agg_model.specs.declared.counts.Counts.{Counts}
use Rattle.agg_model.specs.declared.ranking.ValueCount.{ValueCount}
use Rattle.agg_model.specs.declared.request.Agg.TheVariants.{Terms}
use Rattle.agg_model.specs.declared.tallies.Tally.{Tally}
use Rattle.agg_model.proofs.Values.{same_slot_is}

-- one more entry goes from what is left of a map to the list
pub listed_more : {K : Type 0} (slot : K → Slot) (all new whole : List ValueCount) (k : K) (t : Tally) (v : Value) (rest : List (K × Tally)) → new ≡ all ++ record { value = v; count = t.count } ∷ [] → v ≡ value_at (slot k)
    → all ++ listed slot ((k, t) ∷ rest) ≡ whole → new ++ listed slot rest ≡ whole
listed_more slot all new whole k t v rest pushed is h = rw (pushed, is) (append_assoc all (counted (slot k) t ∷ []) (listed slot rest) ∙ h)

-- a value is counted at its slot, and at no other
slot_round : (s : Slot) → IsSlotOfValue s → slot_of (value_at s) ≡ s
slot_round (text t) h = refl
slot_round (signed z) h = refl
slot_round (unsigned (pos n)) h = refl
slot_round (unsigned (negsuc n)) h = absurd (let e : negsuc n ≡ pos h.0 = h.1 in cc)
slot_round (truth z) h = rw h.1 (at h.0)
  where
    at : (b : Bool) → truth (truth_number (int_eq (truth_number b) (pos 1))) ≡ truth (truth_number b)
    at true = refl
    at false = refl
slot_round (datetime z) h = refl

-- none passes
none_in : {X : Type 0} (p : X → Bool) → ((x : X) → p x ≡ false) → (xs : List X) → count_by p xs ≡ 0
none_in p none [] = refl
none_in p none (x ∷ xs) = sum_by-cons (λ y. cond (p y) 1 0) x xs ∙ rw (none x, none_in p none xs) refl

module _ {K : Type 0} (eq : K → K → Bool) where
  -- no key behind passes
  passed_once : {X : Type 0} (test : K → Bool) → ((k l : K) → test k ≡ true → test l ≡ true → eq k l ≡ true) → (k : K) → test k ≡ true
      → (es : List (K × X)) → AllByRecursion (λ y. eq k y ≡ false) (keys_of es) → count_by (λ e. test e.0) es ≡ 0
  passed_once test one k h [] apart = refl
  passed_once test one k h (e ∷ es) apart = sum_by-cons (λ x. cond (test x.0) 1 0) e es ∙ at (test e.0) refl (passed_once test one k h es apart.1)
    where
      at : (b : Bool) → b ≡ test e.0 → count_by (λ x. test x.0) es ≡ 0 → cond b 1 0 + count_by (λ x. test x.0) es ≡ 0
      at true t n = absurd (false≢true (sym apart.0 ∙ one k e.0 h (sym t)))
      at false t n = rw n refl

  -- of keys that differ at most one passes
  once_in : {X : Type 0} (test : K → Bool) → ((k l : K) → test k ≡ true → test l ≡ true → eq k l ≡ true) → (es : List (K × X)) → IsDistinct eq (keys_of es)
      → count_by (λ e. test e.0) es ≡ cond (is_some (lookup test es)) 1 0
  once_in test one [] apart = refl
  once_in test one (e ∷ es) apart = sum_by-cons (λ x. cond (test x.0) 1 0) e es ∙ at (test e.0) refl (once_in test one es (IsDistinct-tail eq e.0 (keys_of es) apart))
    where
      at : (b : Bool) → b ≡ test e.0 → count_by (λ x. test x.0) es ≡ cond (is_some (lookup test es)) 1 0 → cond b 1 0 + count_by (λ x. test x.0) es ≡ cond (is_some (cond b (Some e.1) (lookup test es))) 1 0
      at true t n = rw (passed_once test one e.0 (sym t) es (IsDistinct-head eq e.0 (keys_of es) apart)) refl
      at false t n = zero-add (count_by (λ x. test x.0) es) ∙ n

-- two tests that agree find the same
lookup_same : {K X : Type 0} (p q : K → Bool) → ((k : K) → p k ≡ q k) → (es : List (K × X)) → lookup p es ≡ lookup q es
lookup_same p q same [] = refl
lookup_same p q same (e ∷ es) = rw (same e.0, lookup_same p q same es) refl

-- as many values are the same as keys have the slot
listed_count : {K : Type 0} (slot : K → Slot) (s : Slot) (es : List (K × Tally)) → ((i : ℕ) (d : K × Tally) → i < length es → IsSlotOfValue (slot (get_or es i d).0))
    → count_by (λ r. same_slot (slot_of r.value) s) (listed slot es) ≡ count_by (λ e. same_slot (slot e.0) s) es
listed_count slot s [] fits = refl
listed_count slot s (e ∷ es) fits =
    let own : slot_of (value_at (slot e.0)) ≡ slot e.0 = slot_round (slot e.0) (fits 0 e (omega arith)) in
    sum_by-cons (λ r. cond (same_slot (slot_of r.value) s) 1 0) (counted (slot e.0) e.1) (listed slot es)
    ∙ rw (own, listed_count slot s es (λ i d l. fits (suc i) d (omega arith))) refl
    ∙ sym (sum_by-cons (λ x. cond (same_slot (slot x.0) s) 1 0) e es)

module _ {K S : Type 0} (eq : K → K → Bool) (laws : IsEquivalence eq) (slot : K → Slot) (m : HashMap K Tally S) (unique : IsUnique eq m) where
  -- what holds of each entry that a key finds holds of each value
  right_in : (P : ValueCount → Type 0) → ((k : K) (v : Tally) → get eq m k ≡ Some v → P (counted (slot k) v)) → All P (listed slot m.entries)
  right_in P h = All-map P (λ e. counted (slot e.0) e.1) m.entries
      (λ i d l. h (get_or m.entries i d).0 (get_or m.entries i d).1 (hash_map_get_place laws m i (get_or m.entries i d).0 (get_or m.entries i d).1 unique (slice_get-get_or m.entries i d l)))

  fits_in : ((k : K) → IfSome (get eq m k) (λ _. IsSlotOfValue (slot k))) → (i : ℕ) (d : K × Tally) → i < length m.entries → IsSlotOfValue (slot (get_or m.entries i d).0)
  fits_in h i d l =
      MatchOption-at_some (Unit {0}) (λ _. IsSlotOfValue (slot (get_or m.entries i d).0)) (get_or m.entries i d).1
      (hash_map_get_place laws m i (get_or m.entries i d).0 (get_or m.entries i d).1 unique (slice_get-get_or m.entries i d l)) (h (get_or m.entries i d).0)

  -- a slot of these keys is listed once where a key finds it
  here : (s : Slot) → ((k l : K) → slot k ≡ slot l → eq k l ≡ true) → ((k : K) → IfSome (get eq m k) (λ _. IsSlotOfValue (slot k)))
      → count_by (λ r. same_slot (slot_of r.value) s) (listed slot m.entries) ≡ cond (is_some (lookup (λ k. same_slot (slot k) s) m.entries)) 1 0
  here s inside h =
      listed_count slot s m.entries (fits_in h)
      ∙ once_in eq (λ k. same_slot (slot k) s) (λ k l p q. inside k l (same_slot_is (slot k) s p ∙ sym (same_slot_is (slot l) s q))) m.entries unique

  -- a slot of other keys is not listed
  away : (s : Slot) → ((k : K) → same_slot (slot k) s ≡ false) → ((k : K) → IfSome (get eq m k) (λ _. IsSlotOfValue (slot k)))
      → count_by (λ r. same_slot (slot_of r.value) s) (listed slot m.entries) ≡ 0
  away s none h = listed_count slot s m.entries (fits_in h) ∙ none_in (λ e. same_slot (slot e.0) s) (λ e. none e.0) m.entries

-- a slot is listed once where it has a tally
pub listed_once : (counts : Counts) → AreUnique counts → ((slot : Slot) → IfSome (tally_at counts slot) (λ _. IsSlotOfValue slot))
    → (s : Slot) → count_by (λ r. same_slot (slot_of r.value) s) (all_listed counts) ≡ cond (is_some (tally_at counts s)) 1 0
listed_once counts unique fits s =
    let p : ValueCount → ℕ = λ r. cond (same_slot (slot_of r.value) s) 1 0 in
    let a = listed text_slot counts.texts.entries in
    let b = listed signed counts.signed.entries in
    let c = listed unsigned counts.unsigned.entries in
    let d = listed truth counts.truths.entries in
    let e = listed datetime counts.datetimes.entries in
    rw (sum_by-append p (a ++ b ++ c ++ d) e, sum_by-append p (a ++ b ++ c) d, sum_by-append p (a ++ b) c, sum_by-append p a b) (at s)
  where
    texts_at : (k : String Global) → IfSome (get string_eq counts.texts k) (λ _. IsSlotOfValue (text_slot k))
    texts_at k = fits (text_slot k)

    text_inside : (k l : String Global) → text_slot k ≡ text_slot l → string_eq k l ≡ true
    text_inside k l e = (bytes_eq-Decides (string_bytes k) (string_bytes l)).1 cc

    text_turn : (t : List ℕ) (k : String Global) → bytes_eq (string_bytes k) t ≡ bytes_eq t (string_bytes k)
    text_turn t k = one_answer (bytes_eq (string_bytes k) t) (bytes_eq t (string_bytes k)) (bytes_eq-Decides (string_bytes k) t) ((λ e. sym ((bytes_eq-Decides t (string_bytes k)).0 e)), (λ e. (bytes_eq-Decides t (string_bytes k)).1 (sym e)))

    whole_inside : (slot : ℤ → Slot) → ((a b : ℤ) → slot a ≡ slot b → a ≡ b) → (k l : ℤ) → slot k ≡ slot l → int_eq k l ≡ true
    whole_inside slot one k l e = (Decides-int_eq k l).1 (one k l e)

    at : (s : Slot) → count_by (λ r. same_slot (slot_of r.value) s) (listed text_slot counts.texts.entries) + count_by (λ r. same_slot (slot_of r.value) s) (listed signed counts.signed.entries)
        + count_by (λ r. same_slot (slot_of r.value) s) (listed unsigned counts.unsigned.entries) + count_by (λ r. same_slot (slot_of r.value) s) (listed truth counts.truths.entries)
        + count_by (λ r. same_slot (slot_of r.value) s) (listed datetime counts.datetimes.entries) ≡ cond (is_some (tally_at counts s)) 1 0
    at (text t) =
        let h = here string_eq string_eq_equiv text_slot counts.texts unique.texts (text t) text_inside texts_at
        ∙ ap (λ o. cond (is_some o) 1 0) (lookup_same (λ k. bytes_eq (string_bytes k) t) (λ k. bytes_eq t (string_bytes k)) (text_turn t) counts.texts.entries) in
        let s0 = away int_eq int_eq_equiv signed counts.signed unique.signed (text t) (λ k. refl) (λ k. fits (signed k)) in
        let u0 = away int_eq int_eq_equiv unsigned counts.unsigned unique.unsigned (text t) (λ k. refl) (λ k. fits (unsigned k)) in
        let t0 = away int_eq int_eq_equiv truth counts.truths unique.truths (text t) (λ k. refl) (λ k. fits (truth k)) in
        let d0 = away int_eq int_eq_equiv datetime counts.datetimes unique.datetimes (text t) (λ k. refl) (λ k. fits (datetime k)) in
        omega arith
    at (signed z) =
        let h = here int_eq int_eq_equiv signed counts.signed unique.signed (signed z) (whole_inside signed (λ a b e. cc)) (λ k. fits (signed k))
        ∙ ap (λ o. cond (is_some o) 1 0) (lookup_same (λ k. int_eq k z) (int_eq z) (λ k. int_eq_equiv.symm k z) counts.signed.entries) in
        let x0 = away string_eq string_eq_equiv text_slot counts.texts unique.texts (signed z) (λ k. refl) texts_at in
        let u0 = away int_eq int_eq_equiv unsigned counts.unsigned unique.unsigned (signed z) (λ k. refl) (λ k. fits (unsigned k)) in
        let t0 = away int_eq int_eq_equiv truth counts.truths unique.truths (signed z) (λ k. refl) (λ k. fits (truth k)) in
        let d0 = away int_eq int_eq_equiv datetime counts.datetimes unique.datetimes (signed z) (λ k. refl) (λ k. fits (datetime k)) in
        omega arith
    at (unsigned z) =
        let h = here int_eq int_eq_equiv unsigned counts.unsigned unique.unsigned (unsigned z) (whole_inside unsigned (λ a b e. cc)) (λ k. fits (unsigned k))
        ∙ ap (λ o. cond (is_some o) 1 0) (lookup_same (λ k. int_eq k z) (int_eq z) (λ k. int_eq_equiv.symm k z) counts.unsigned.entries) in
        let x0 = away string_eq string_eq_equiv text_slot counts.texts unique.texts (unsigned z) (λ k. refl) texts_at in
        let s0 = away int_eq int_eq_equiv signed counts.signed unique.signed (unsigned z) (λ k. refl) (λ k. fits (signed k)) in
        let t0 = away int_eq int_eq_equiv truth counts.truths unique.truths (unsigned z) (λ k. refl) (λ k. fits (truth k)) in
        let d0 = away int_eq int_eq_equiv datetime counts.datetimes unique.datetimes (unsigned z) (λ k. refl) (λ k. fits (datetime k)) in
        omega arith
    at (truth z) =
        let h = here int_eq int_eq_equiv truth counts.truths unique.truths (truth z) (whole_inside truth (λ a b e. cc)) (λ k. fits (truth k))
        ∙ ap (λ o. cond (is_some o) 1 0) (lookup_same (λ k. int_eq k z) (int_eq z) (λ k. int_eq_equiv.symm k z) counts.truths.entries) in
        let x0 = away string_eq string_eq_equiv text_slot counts.texts unique.texts (truth z) (λ k. refl) texts_at in
        let s0 = away int_eq int_eq_equiv signed counts.signed unique.signed (truth z) (λ k. refl) (λ k. fits (signed k)) in
        let u0 = away int_eq int_eq_equiv unsigned counts.unsigned unique.unsigned (truth z) (λ k. refl) (λ k. fits (unsigned k)) in
        let d0 = away int_eq int_eq_equiv datetime counts.datetimes unique.datetimes (truth z) (λ k. refl) (λ k. fits (datetime k)) in
        omega arith
    at (datetime z) =
        let h = here int_eq int_eq_equiv datetime counts.datetimes unique.datetimes (datetime z) (whole_inside datetime (λ a b e. cc)) (λ k. fits (datetime k))
        ∙ ap (λ o. cond (is_some o) 1 0) (lookup_same (λ k. int_eq k z) (int_eq z) (λ k. int_eq_equiv.symm k z) counts.datetimes.entries) in
        let x0 = away string_eq string_eq_equiv text_slot counts.texts unique.texts (datetime z) (λ k. refl) texts_at in
        let s0 = away int_eq int_eq_equiv signed counts.signed unique.signed (datetime z) (λ k. refl) (λ k. fits (signed k)) in
        let u0 = away int_eq int_eq_equiv unsigned counts.unsigned unique.unsigned (datetime z) (λ k. refl) (λ k. fits (unsigned k)) in
        let t0 = away int_eq int_eq_equiv truth counts.truths unique.truths (datetime z) (λ k. refl) (λ k. fits (truth k)) in
        omega arith

-- what holds where a slot has a tally holds of each value
listed_right : (counts : Counts) → AreUnique counts → (P : ValueCount → Type 0) → ((s : Slot) (v : Tally) → tally_at counts s ≡ Some v → P (counted s v)) → All P (all_listed counts)
listed_right counts unique P h =
    let a = listed text_slot counts.texts.entries in
    let b = listed signed counts.signed.entries in
    let c = listed unsigned counts.unsigned.entries in
    let d = listed truth counts.truths.entries in
    let e = listed datetime counts.datetimes.entries in
    All-append P (a ++ b ++ c ++ d) e (All-append P (a ++ b ++ c) d (All-append P (a ++ b) c (All-append P a b
    (right_in string_eq string_eq_equiv text_slot counts.texts unique.texts P (λ k v f. h (text_slot k) v f))
    (right_in int_eq int_eq_equiv signed counts.signed unique.signed P (λ k v f. h (signed k) v f)))
    (right_in int_eq int_eq_equiv unsigned counts.unsigned unique.unsigned P (λ k v f. h (unsigned k) v f)))
    (right_in int_eq int_eq_equiv truth counts.truths unique.truths P (λ k v f. h (truth k) v f)))
    (right_in int_eq int_eq_equiv datetime counts.datetimes unique.datetimes P (λ k v f. h (datetime k) v f))

-- the values of a part are those of the documents for which it stands
pub listed_counted : (number field size : ℕ) (counts : Counts) (documents : List (List DocField)) (all : List ValueCount) → AreUnique counts
    → ((slot : Slot) → IfSome (tally_at counts slot) (IsTally number slot)) → CountsFor (Terms field size) counts documents → IsPermutation (all_listed counts) all
    → AreCounted field documents all
listed_counted number field size counts documents all unique tallies stands moved = record {
  right = All-permutation (λ r. r.count ≡ value_count field documents r.value) (all_listed counts) all moved (listed_right counts unique (λ r. r.count ≡ value_count field documents r.value) right);
  once = λ value. sum_by-IsPermutation (λ r. cond (same_slot (slot_of r.value) (slot_of value)) 1 0) (all_listed counts) all moved
      ∙ listed_once counts unique (λ s. IfSome_then (tally_at counts s) (tallies s) (λ t h. h.fits)) (slot_of value)
      ∙ ap (λ b. cond b 1 0) (there (slot_of value) (value_count field documents value) (tally_at counts (slot_of value)) (tallies (slot_of value)) (stands value));
}
  where
    right : (s : Slot) (v : Tally) → tally_at counts s ≡ Some v → v.count ≡ value_count field documents (value_at s)
    right s v f =
        let h : IsTally number s v = MatchOption-at_some (Unit {0}) (IsTally number s) v f (tallies s) in
        let own : tally_at counts (slot_of (value_at s)) ≡ Some v = ap (tally_at counts) (slot_round s h.fits) ∙ f in
        sym (ap tallied own) ∙ stands (value_at s)

    there : (s : Slot) (n : ℕ) (o : Option Tally) → IfSome o (IsTally number s) → tallied o ≡ n → is_some o ≡ nat_lt 0 n
    there s n None h e = ap (nat_lt 0) e
    there s n (Some t) h e = let some = h.some in sym (lt-ltb 0 n (omega arith))
