-- Ranges that are apart have together no more bytes than the parts that have all their bytes.
use Rattle.std.proofs.Common.{◌≡◌, ℕ, zero, suc, ◌+◌, ◌-◌, ◌<◌, ◌≤◌, ◌⊎◌, inl, inr, List, [], ◌∷◌, length, get_or, min, Contains, refl, sym, subst, arith}
use Rattle.std.specs.Prelude.{sum_by}
use Rattle.std.specs.List.{AllByRecursion}
use Rattle.std.proofs.lemmas.Bool.{cases_lt}
use Rattle.std.proofs.lemmas.List.Sums.{sum_by-cons}
use Rattle.leaf_search.specs.FileRanges.{AreApart, HasByte, SomeRange, total}
use Rattle.leaf_search.specs.declared.file_ranges.FileRange.{FileRange}

-- how many places below one a range has
abbrev places : ℕ → ℕ → ℕ → ℕ
places n start len = min n (start + len) - min n start

-- whether it has that place: 1 or 0
abbrev step : ℕ → ℕ → ℕ → ℕ
step n start len = places (suc n) start len - places n start len

abbrev all_places : ℕ → List FileRange → ℕ
all_places n [] = 0
all_places n (r ∷ rs) = places n r.start r.len + all_places n rs

abbrev all_steps : ℕ → List FileRange → ℕ
all_steps n [] = 0
all_steps n (r ∷ rs) = step n r.start r.len + all_steps n rs

abbrev ends : List FileRange → ℕ
ends [] = 0
ends (r ∷ rs) = r.start + r.len + ends rs

all_suc : (n : ℕ) (rs : List FileRange) → all_places (suc n) rs ≡ all_places n rs + all_steps n rs
all_suc n [] = refl
all_suc n (r ∷ rs) = let h = all_suc n rs in omega (arith, h)

all_none : (rs : List FileRange) → all_places 0 rs ≡ 0
all_none [] = refl
all_none (r ∷ rs) = let h = all_none rs in omega (arith, h)

all_total : (n : ℕ) (rs : List FileRange) → ends rs ≤ n → all_places n rs ≡ total rs
all_total n [] le = refl
all_total n (r ∷ rs) le =
    let h = all_total n rs (omega (arith, le)) in
    let both : total (r ∷ rs) ≡ r.len + total rs = sum_by-cons (λ (x : FileRange). x.len) r rs in
    omega (arith, h, both, le)

behind_none : (n m : ℕ) (rs : List FileRange) → n ≤ m → AllByRecursion (λ next. m < next.start) rs → all_steps n rs ≡ 0
behind_none n m [] le all = refl
behind_none n m (r ∷ rs) le all = let h = behind_none n m rs le all.1 in omega (arith, h, le, all.0)

step_cases : (n start len : ℕ) → ((start ≤ n) × (n < start + len) × (step n start len ≡ 1)) ⊎ (step n start len ≡ 0)
step_cases n start len = elim (cases_lt n start) [
  | inl before ↦ inr (omega (arith, before))
  | inr from ↦ elim (cases_lt n (start + len)) [
    | inl within ↦ inl (from, within, omega (arith, from, within))
    | inr behind ↦ inr (omega (arith, behind))
  ]
]

at_most_one : (n : ℕ) (rs : List FileRange) → AreApart rs → (all_steps n rs ≡ 0) ⊎ ((all_steps n rs ≡ 1) × SomeRange (HasByte n) rs)
at_most_one n [] apart = inl refl
at_most_one n (r ∷ rs) apart = elim (step_cases n r.start r.len) [
  | inl here ↦ let none = behind_none n (r.start + r.len) rs (omega (arith, here.1)) apart.0 in inr (omega (arith, none, here.2), inl (here.0, here.1))
  | inr away ↦ elim (at_most_one n rs apart.1) [
    | inl none ↦ inl (omega (arith, away, none))
    | inr one ↦ inr (omega (arith, away, one.0), inr one.1)
  ]
]

module _ (at len : ℕ → ℕ) where
  abbrev each_places : ℕ → List ℕ → ℕ
  each_places n [] = 0
  each_places n (k ∷ ks) = places n (at k) (len k) + each_places n ks

  abbrev each_steps : ℕ → List ℕ → ℕ
  each_steps n [] = 0
  each_steps n (k ∷ ks) = step n (at k) (len k) + each_steps n ks

  each_suc : (n : ℕ) (ks : List ℕ) → each_places (suc n) ks ≡ each_places n ks + each_steps n ks
  each_suc n [] = refl
  each_suc n (k ∷ ks) = let h = each_suc n ks in omega (arith, h)

  each_within : (n : ℕ) (ks : List ℕ) → each_places n ks ≤ sum_by len ks
  each_within n [] = omega arith
  each_within n (k ∷ ks) =
      let h = each_within n ks in
      let both : sum_by len (k ∷ ks) ≡ len k + sum_by len ks = sum_by-cons len k ks in
      omega (arith, h, both)

  each_least : (n : ℕ) (ks : List ℕ) (k i : ℕ) → i < length ks → get_or ks i k ≡ k → at k ≤ n → n < at k + len k → 1 ≤ each_steps n ks
  each_least n [] k i lt e from until = absurd (omega arith)
  each_least n (x ∷ xs) k zero lt e from until =
      let a : at x ≤ n = subst (λ y. at y ≤ n) (sym e) from in
      let u : n < at x + len x = subst (λ y. n < at y + len y) (sym e) until in
      omega (arith, a, u)
  each_least n (x ∷ xs) k (suc i) lt e from until = let h = each_least n xs k i (omega (arith, lt)) e from until in omega (arith, h)

  -- each byte of the ranges is one of the part of one of some numbers
  abbrev pub AreCovered : List FileRange → List ℕ → Type 0
  AreCovered rs ks = (place : ℕ) → SomeRange (HasByte place) rs → (k : ℕ) × Contains ks k × (at k ≤ place) × (place < at k + len k)

  covered_places : (rs : List FileRange) (ks : List ℕ) → AreApart rs → AreCovered rs ks → (n : ℕ) → all_places n rs ≤ each_places n ks
  covered_places rs ks apart covered zero = let none = all_none rs in omega (arith, none)
  covered_places rs ks apart covered (suc n) =
      let before = covered_places rs ks apart covered n in
      let more = all_suc n rs in
      let others = each_suc n ks in
      elim (at_most_one n rs apart) [
        | inl none ↦ omega (arith, before, more, others, none)
        | inr one ↦
            let it = covered n one.1 in
            let least = each_least n ks it.0 it.1.0 it.1.1 it.1.2 it.2 it.3 in
            omega (arith, before, more, others, one.0, least)
      ]

  pub total_covered : (rs : List FileRange) (ks : List ℕ) → AreApart rs → AreCovered rs ks → total rs ≤ sum_by len ks
  total_covered rs ks apart covered =
      let whole = all_total (ends rs) rs (omega arith) in
      let le = covered_places rs ks apart covered (ends rs) in
      let within = each_within (ends rs) ks in
      omega (arith, whole, le, within)
