-- Parts of documents by their numbers.
use Rattle.std.proofs.Common.{nat_lt, ◌≡◌, ◌≢◌, ℕ, zero, suc, ◌==◌, ◌+◌, ◌<◌, ◌≤◌, Bool, true, false, List, [], ◌∷◌, ◌++◌, take, drop, length, slice_get, get_or, Option, Some, None, refl, ap, sym, ◌∙◌, subst, arith, ◌⊎◌, inl, inr}
use Rattle.std.specs.Cmp.{unsigned_Decides}
use Rattle.std.proofs.lemmas.Bool.{cases_Bool}
use Rattle.std.proofs.lemmas.Bool.Decides.{nat_tests}
use Rattle.std.proofs.lemmas.Option.{slice_get-get_or}
use Rattle.serde_json.specs.Data.{Data}
use Rattle.doc_value.specs.declared.schema.Field.{Field}
use Rattle.doc_value.specs.declared.doc.Value.{Value}
use Rattle.doc_value.specs.declared.doc.DocField.{DocField}
use Rattle.doc_mapping.specs.Documents.{part_of, values_from, doc_from}
use Rattle.doc_mapping.specs.Held.{values_at}
use Rattle.doc_mapping.specs.Walk.{RiseFrom, Enters}

apart : (m n : ℕ) → n < m → (m == n) ≡ false
apart m n l = grind (arith, nat_tests)

apart_above : (m n : ℕ) → m < n → (m == n) ≡ false
apart_above m n l = grind (arith, nat_tests)

pub not_same : (m n : ℕ) → m ≢ n → (m == n) ≡ false
not_same m n l = grind (arith, nat_tests)

same : (n : ℕ) → (n == n) ≡ true
same n = (unsigned_Decides n n).1 refl

-- below the first number there is nothing
pub values_below : (parts : List DocField) (least n : ℕ) → RiseFrom least parts → n < least → values_at parts n ≡ []
values_below [] least n h l = refl
values_below (p ∷ ps) least n h l = rw (apart p.number n (omega arith)) (values_below ps (suc p.number) n h.2 (omega arith))

values_first : (p : DocField) (ps : List DocField) → values_at (p ∷ ps) p.number ≡ p.values
values_first p ps = rw (same p.number) refl

pub number_cases : (a b : ℕ) → (a ≡ b) ⊎ ((a < b) ⊎ (b < a))
number_cases a b = elim (cases_Bool (a == b)) [
  | inl equal ↦ inl (grind (arith, nat_tests))
  | inr other ↦ elim (cases_Bool (nat_lt a b)) [ inl less ↦ inr (inl (grind (arith, nat_tests))) | inr more ↦ inr (inr (grind (arith, nat_tests))) ]
]

no_first : {B : Type 0} (p q : DocField) (ps qs : List DocField) → p.values ≢ [] → RiseFrom (suc p.number) (q ∷ qs)
    → values_at (p ∷ ps) p.number ≡ values_at (q ∷ qs) p.number → B
no_first p q ps qs some h e = absurd (some (sym (values_first p ps) ∙ e ∙ values_below (q ∷ qs) (suc p.number) p.number h (omega arith)))

later : (p : DocField) (ps : List DocField) (n : ℕ) → p.number < n → values_at (p ∷ ps) n ≡ values_at ps n
later p ps n l = rw (apart_above p.number n l) refl

-- parts that rise are the same where they have the same values of each field
pub same_parts : (xs ys : List DocField) (least : ℕ) → RiseFrom least xs → RiseFrom least ys → ((n : ℕ) → values_at xs n ≡ values_at ys n) → xs ≡ ys
same_parts [] [] least h g e = refl
same_parts [] (b ∷ ys) least h g e = absurd (g.1 (sym (values_first b ys) ∙ sym (e b.number)))
same_parts (a ∷ xs) [] least h g e = absurd (h.1 (sym (values_first a xs) ∙ e a.number))
same_parts (a ∷ xs) (b ∷ ys) least h g e = by (λ r s. same_parts xs ys (suc a.number) h.2 r s) (number_cases a.number b.number)
  where
    tails : a.number ≡ b.number → (n : ℕ) → values_at xs n ≡ values_at ys n
    tails same n = elim (number_cases a.number n) [
      | inl equal ↦ values_below xs (suc a.number) n h.2 (omega arith) ∙ sym (values_below ys (suc b.number) n g.2 (omega arith))
      | inr other ↦ elim other [
        | inl less ↦ sym (later a xs n less) ∙ e n ∙ later b ys n (omega arith)
        | inr more ↦ values_below xs (suc a.number) n h.2 (omega arith) ∙ sym (values_below ys (suc b.number) n g.2 (omega arith))
      ]
    ]

    heads : a.number ≡ b.number → a ≡ b
    heads same =
        let own : a.values ≡ b.values = sym (values_first a xs) ∙ e a.number ∙ ap (values_at (b ∷ ys)) same ∙ values_first b ys in
        λ i. record { number = same i; values = own i }

    by : (RiseFrom (suc a.number) ys → ((n : ℕ) → values_at xs n ≡ values_at ys n) → xs ≡ ys)
        → (a.number ≡ b.number) ⊎ ((a.number < b.number) ⊎ (b.number < a.number)) → a ∷ xs ≡ b ∷ ys
    by more (inl same) =
        let rest : xs ≡ ys = more (subst (λ (k : ℕ). RiseFrom (suc k) ys) (sym same) g.2) (tails same) in
        λ i. heads same i ∷ rest i
    by more (inr (inl less)) = no_first a b xs ys h.1 (less, g.1, g.2) (e a.number)
    by more (inr (inr above)) = no_first b a ys xs g.1 (above, h.1, h.2) (sym (e b.number))

-- the document by its definition
pub doc_rises : (o : Option ℕ) (ls : List Value) (n least : ℕ) (fs : List Field) (d : Data) → least ≤ n → RiseFrom least (doc_from o ls n fs d)
doc_rises o ls n least [] d l = tt
doc_rises o ls n least (f ∷ fs) d l =
    by (λ low le. doc_rises o ls (suc n) low fs d le) (values_from o ls n f d)
  where
    by : ((low : ℕ) → low ≤ suc n → RiseFrom low (doc_from o ls (suc n) fs d)) → (vs : List Value) → RiseFrom least (part_of n vs ++ doc_from o ls (suc n) fs d)
    by more [] = more least (omega arith)
    by more (v ∷ vs) = (l, λ e. cc, more (suc n) (omega arith))

pub values_past : (o : Option ℕ) (ls : List Value) (fs : List Field) (m k n : ℕ) (d : Data) → slice_get fs k ≡ None → n ≡ m + k → values_at (doc_from o ls m fs d) n ≡ []
values_past o ls [] m k n d a e = refl
values_past o ls (g ∷ fs) m zero n d a e = absurd (cc)
values_past o ls (g ∷ fs) m (suc k) n d a e = by (values_from o ls m g d) (values_past o ls fs (suc m) k n d a (omega arith))
  where
    by : (vs : List Value) → values_at (doc_from o ls (suc m) fs d) n ≡ [] → values_at (part_of m vs ++ doc_from o ls (suc m) fs d) n ≡ []
    by [] h = h
    by (v ∷ vs) h = rw (apart_above m n (omega arith)) h

-- one part more at its place
abbrev pub StandsAbove : ℕ → List DocField → Type 0
StandsAbove n [] = Unit {0}
StandsAbove n (p ∷ ps) = n < p.number

abbrev pub AreBelow : ℕ → List DocField → Type 0
AreBelow n [] = Unit {0}
AreBelow n (p ∷ ps) = (p.number < n) × AreBelow n ps

entered_rises : (n least : ℕ) (vs : List Value) (xs ys : List DocField) → vs ≢ [] → least ≤ n → RiseFrom least (xs ++ ys) → AreBelow n xs → StandsAbove n ys
    → RiseFrom least (xs ++ record { number = n; values = vs } ∷ ys)
entered_rises n least vs [] [] some l h low high = (l, some, tt)
entered_rises n least vs [] (y ∷ ys) some l h low high = (l, some, (high, h.1, h.2))
entered_rises n least vs (x ∷ xs) ys some l h low high = (h.0, h.1, entered_rises n (suc x.number) vs xs ys some (omega (arith, low.0)) h.2 low.1 high)

entered_own : (n : ℕ) (vs : List Value) (xs ys : List DocField) → AreBelow n xs → values_at (xs ++ record { number = n; values = vs } ∷ ys) n ≡ vs
entered_own n vs [] ys low = values_first (record { number = n; values = vs }) ys
entered_own n vs (x ∷ xs) ys low = later x (xs ++ record { number = n; values = vs } ∷ ys) n low.0 ∙ entered_own n vs xs ys low.1

skipped : (p : DocField) (xs ys : List DocField) (n : ℕ) → values_at xs n ≡ values_at ys n → values_at (p ∷ xs) n ≡ values_at (p ∷ ys) n
skipped p xs ys n e = by (p.number == n) refl
  where
    by : (b : Bool) → (p.number == n) ≡ b → values_at (p ∷ xs) n ≡ values_at (p ∷ ys) n
    by true here = rw here refl
    by false other = rw other e

entered_others : (n m : ℕ) (vs : List Value) (xs ys : List DocField) → m ≢ n → values_at (xs ++ record { number = n; values = vs } ∷ ys) m ≡ values_at (xs ++ ys) m
entered_others n m vs [] ys other = rw (not_same n m (λ e. other (sym e))) refl
entered_others n m vs (x ∷ xs) ys other = skipped x (xs ++ record { number = n; values = vs } ∷ ys) (xs ++ ys) m (entered_others n m vs xs ys other)

number_least : (parts : List DocField) (least i : ℕ) (p : DocField) → RiseFrom least parts → slice_get parts i ≡ Some p → least ≤ p.number
number_least [] least i p h a = absurd (cc)
number_least (x ∷ xs) least zero p h a = let here : x ≡ p = cc in subst (λ (q : DocField). least ≤ q.number) here h.0
number_least (x ∷ xs) least (suc i) p h a = let more = number_least xs (suc x.number) i p h.2 a in omega (arith, h.0)

-- what stands below a number that has no values
below_all : (n least : ℕ) (parts : List DocField) (i : ℕ) (p : DocField) → RiseFrom least parts → slice_get parts i ≡ Some p → p.number ≤ n → values_at parts n ≡ []
    → AreBelow n (take (suc i) parts)
below_all n least [] i p h a l e = tt
below_all n least (x ∷ xs) zero p h a l e =
    let here : x ≡ p = cc in
    elim (number_cases x.number n) [
      | inl equal ↦ absurd (h.1 (sym (values_first x xs) ∙ ap (values_at (x ∷ xs)) equal ∙ e))
      | inr other ↦ elim other [ inl less ↦ (less, tt) | inr more ↦ absurd (let k : x.number ≤ n = subst (λ (q : DocField). q.number ≤ n) (sym here) l in omega arith) ]
    ]
below_all n least (x ∷ xs) (suc i) p h a l e =
    let lower : x.number < p.number = number_least xs (suc x.number) i p h.2 a in
    (omega arith, below_all n (suc x.number) xs i p h.2 a l (sym (later x xs n (omega arith)) ∙ e))

above_from : (n : ℕ) (parts : List DocField) (i : ℕ) → ((p : DocField) → slice_get parts i ≡ Some p → n < p.number) → StandsAbove n (drop i parts)
above_from n [] zero h = tt
above_from n [] (suc i) h = tt
above_from n (x ∷ xs) zero h = h x refl
above_from n (x ∷ xs) (suc i) h = above_from n xs i h

split_at : (i : ℕ) (parts : List DocField) → take i parts ++ drop i parts ≡ parts
split_at zero parts = refl
split_at (suc i) [] = refl
split_at (suc i) (x ∷ xs) = ap (λ z. x ∷ z) (split_at i xs)

abbrev pub LiesBetween : ℕ → List DocField → ℕ → Type 0
LiesBetween n parts i = (p : DocField) → slice_get parts i ≡ Some p → n < p.number

no_part : {B : Type 0} (parts : List DocField) (i : ℕ) (p : DocField) → length parts ≤ i → slice_get parts i ≡ Some p → B
no_part [] i p l e = absurd (cc)
no_part (q ∷ ps) zero p l e = absurd (omega arith)
no_part (q ∷ ps) (suc i) p l e = no_part ps i p (omega arith) e

pub at_end : (n : ℕ) (parts : List DocField) (i : ℕ) → length parts ≤ i → LiesBetween n parts i
at_end n parts i l = λ p at. no_part parts i p l at

pub before_one : (n : ℕ) (parts : List DocField) (i : ℕ) (p : DocField) → i < length parts → p ≡ get_or parts i p → n < p.number → LiesBetween n parts i
before_one n parts i p l e more = λ q at.
    let both : Some p ≡ Some q = ap Some e ∙ sym (slice_get-get_or parts i p l) ∙ at in
    let same : p ≡ q = cc in
    subst (λ (x : DocField). n < x.number) same more

low_ones : (n i : ℕ) (parts : List DocField) → RiseFrom 0 parts → values_at parts n ≡ [] → (i ≡ 0) ⊎ ((j : ℕ) × (p : DocField) × ((i ≡ suc j) × (slice_get parts j ≡ Some p) × (p.number ≤ n)))
    → AreBelow n (take i parts)
low_ones n i parts h e (inl none) = subst (λ (k : ℕ). AreBelow n (take k parts)) (sym none) tt
low_ones n i parts h e (inr (j, p, (k, a, l))) = subst (λ (m : ℕ). AreBelow n (take m parts)) (sym k) (below_all n 0 parts j p h a l e)

pub put_at : (n i : ℕ) (vs : List Value) (old new : List DocField) → vs ≢ [] → new ≡ take i old ++ record { number = n; values = vs } ∷ drop i old
    → LiesBetween n old i → (i ≡ 0) ⊎ ((j : ℕ) × (p : DocField) × ((i ≡ suc j) × (slice_get old j ≡ Some p) × (p.number ≤ n)))
    → RiseFrom 0 old → values_at old n ≡ [] → Enters n vs old new
put_at n i vs old new some made high low h e =
    let below : AreBelow n (take i old) = low_ones n i old h e low in
    let above : StandsAbove n (drop i old) = above_from n old i high in
    let again : take i old ++ drop i old ≡ old = split_at i old in
    record {
      rise = subst (RiseFrom 0) (sym made) (entered_rises n 0 vs (take i old) (drop i old) some (omega arith) (subst (RiseFrom 0) (sym again) h) below above);
      own = ap (λ xs. values_at xs n) made ∙ entered_own n vs (take i old) (drop i old) below;
      others = λ m other. ap (λ xs. values_at xs m) made ∙ entered_others n m vs (take i old) (drop i old) other ∙ ap (λ xs. values_at xs m) again;
    }

abbrev pub HasLower : ℕ → List DocField → ℕ → Type 0
HasLower n parts i = (i ≡ 0) ⊎ ((j : ℕ) × (p : DocField) × ((i ≡ suc j) × (slice_get parts j ≡ Some p) × (p.number ≤ n)))

pub at_start : (n : ℕ) (parts : List DocField) (i : ℕ) → i ≤ 0 → HasLower n parts i
at_start n parts i l = inl (omega arith)

pub behind_one : (n : ℕ) (parts : List DocField) (i j : ℕ) (p : DocField) → i ≡ j + 1 → j < length parts → p ≡ get_or parts j p → p.number ≤ n → HasLower n parts i
behind_one n parts i j p e w a l = inr (j, p, (omega arith, slice_get-get_or parts j p w ∙ ap Some (sym a), l))
