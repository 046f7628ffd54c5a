-- Rising texts are known by their members.
use Rattle.std.proofs.Common.{◌≡◌, ℕ, zero, suc, Bool, true, false, cond, List, [], ◌∷◌, refl, sym, ◌∙◌, ap, subst, arith, inl, inr}
use Rattle.std.specs.Prelude.{◌↔◌, ◌⊎◌, Contains}
use Rattle.std.specs.List.{AllByRecursion}
use Rattle.term_dict.specs.Keys.{is_below}
use Rattle.fast_fields.proofs.Below.{below_then, neither_below, below_itself}
use Rattle.split_bundle.specs.Splits.{AreRising}
use Rattle.split_form.specs.Sorted.{with_text, sorted}

-- ---- members

pub none_in : (x : List ℕ) → Contains [] x → ⊥
none_in x h = omega (arith, h.1)

pub here : {X : Type 0} (x : X) (xs : List X) → Contains (x ∷ xs) x
here x xs = (0, omega arith, refl)

pub later : {X : Type 0} (y : X) (xs : List X) (x : X) → Contains xs x → Contains (y ∷ xs) x
later y xs x h = (suc h.0, omega (arith, h.1), h.2)

pub first_or : {X : Type 0} (y : X) (xs : List X) (x : X) → Contains (y ∷ xs) x → (y ≡ x) ⊎ Contains xs x
first_or y xs x (zero, lt, is) = inl is
first_or y xs x (suc n, lt, is) = inr (n, omega (arith, lt), is)

pub all_in : (P : List ℕ → Type 0) (xs : List (List ℕ)) (x : List ℕ) → AllByRecursion P xs → Contains xs x → P x
all_in P [] x h c = absurd (none_in x c)
all_in P (y ∷ ys) x h c = elim (first_or y ys x c) [ inl same ↦ subst P same h.0 | inr there ↦ all_in P ys x h.1 there ]

-- ---- two rising lists with the same members are one

first_same : (x y : List ℕ) (xs ys : List (List ℕ)) → AreRising (x ∷ xs) → AreRising (y ∷ ys) → Contains (y ∷ ys) x → Contains (x ∷ xs) y → x ≡ y
first_same x y xs ys rx ry c d = elim (first_or y ys x c) [
  | inl same ↦ sym same
  | inr there ↦ elim (first_or x xs y d) [
    | inl same ↦ same
    | inr other ↦ absurd (below_itself x (below_then x y x (all_in (λ u. is_below x u ≡ true) xs y rx.0 other) (all_in (λ u. is_below y u ≡ true) ys x ry.0 there)))
  ]
]

pub rest_in : (x y : List ℕ) (xs ys : List (List ℕ)) → x ≡ y → AllByRecursion (λ u. is_below x u ≡ true) xs → ((t : List ℕ) → Contains (x ∷ xs) t → Contains (y ∷ ys) t) → (t : List ℕ) → Contains xs t → Contains ys t
rest_in x y xs ys same above to t c = elim (first_or y ys t (to t (later x xs t c))) [
  | inl is ↦ absurd (below_itself x (subst (λ (u : List ℕ). is_below x u ≡ true) (sym (same ∙ is)) (all_in (λ u. is_below x u ≡ true) xs t above c)))
  | inr there ↦ there
]

pub rising_one : (xs ys : List (List ℕ)) → AreRising xs → AreRising ys → ((t : List ℕ) → Contains xs t → Contains ys t) → ((t : List ℕ) → Contains ys t → Contains xs t) → xs ≡ ys
rising_one [] [] rx ry to from = refl
rising_one [] (y ∷ ys) rx ry to from = absurd (none_in y (from y (here y ys)))
rising_one (x ∷ xs) [] rx ry to from = absurd (none_in x (to x (here x xs)))
rising_one (x ∷ xs) (y ∷ ys) rx ry to from =
    let same : x ≡ y = first_same x y xs ys rx ry (to x (here x xs)) (from y (here y ys)) in
    ap (λ (t : List ℕ). t ∷ xs) same
    ∙ ap (λ (l : List (List ℕ)). y ∷ l) (rising_one xs ys rx.1 ry.1 (rest_in x y xs ys same rx.0 to) (rest_in y x ys xs (sym same) ry.0 from))

-- ---- a text at its place

abbrev by_tests : Bool → Bool → List ℕ → List ℕ → List (List ℕ) → List (List ℕ)
by_tests b c t o os = cond b (t ∷ o ∷ os) (cond c (o ∷ with_text t os) (o ∷ os))

with_in : (t : List ℕ) (ts : List (List ℕ)) (x : List ℕ) → Contains (with_text t ts) x → (t ≡ x) ⊎ Contains ts x
with_in t [] x h = first_or t [] x h
with_in t (o ∷ os) x h = by (is_below t o) (is_below o t) (with_in t os x) h
  where
    by : (b c : Bool) → (Contains (with_text t os) x → (t ≡ x) ⊎ Contains os x) → Contains (by_tests b c t o os) x → (t ≡ x) ⊎ Contains (o ∷ os) x
    by true c rest h = first_or t (o ∷ os) x h
    by false true rest h = elim (first_or o (with_text t os) x h) [
      | inl same ↦ inr (subst (λ (y : List ℕ). Contains (o ∷ os) y) same (here o os))
      | inr more ↦ elim (rest more) [ inl same ↦ inl same | inr there ↦ inr (later o os x there) ]
    ]
    by false false rest h = inr h

in_with : (t : List ℕ) (ts : List (List ℕ)) (x : List ℕ) → Contains ts x → Contains (with_text t ts) x
in_with t [] x h = absurd (none_in x h)
in_with t (o ∷ os) x h = by (is_below t o) (is_below o t) (in_with t os x) h
  where
    by : (b c : Bool) → (Contains os x → Contains (with_text t os) x) → Contains (o ∷ os) x → Contains (by_tests b c t o os) x
    by true c rest h = later t (o ∷ os) x h
    by false true rest h = elim (first_or o os x h) [
      | inl same ↦ subst (λ (y : List ℕ). Contains (o ∷ with_text t os) y) same (here o (with_text t os))
      | inr more ↦ later o (with_text t os) x (rest more)
    ]
    by false false rest h = h

in_new : (t : List ℕ) (ts : List (List ℕ)) → Contains (with_text t ts) t
in_new t [] = here t []
in_new t (o ∷ os) = by (is_below t o) (is_below o t) refl refl (in_new t os)
  where
    by : (b c : Bool) → is_below t o ≡ b → is_below o t ≡ c → Contains (with_text t os) t → Contains (by_tests b c t o os) t
    by true c p q rest = here t (o ∷ os)
    by false true p q rest = later o (with_text t os) t rest
    by false false p q rest = subst (λ (y : List ℕ). Contains (y ∷ os) t) (neither_below t o p q) (here t os)

above_all : (x y : List ℕ) (ks : List (List ℕ)) → is_below x y ≡ true → AllByRecursion (λ u. is_below y u ≡ true) ks → AllByRecursion (λ u. is_below x u ≡ true) ks
above_all x y [] lt h = tt
above_all x y (k ∷ ks) lt h = (below_then x y k lt h.0, above_all x y ks lt h.1)

all_with : (P : List ℕ → Type 0) (t : List ℕ) (ts : List (List ℕ)) → P t → AllByRecursion P ts → AllByRecursion P (with_text t ts)
all_with P t [] p h = (p, tt)
all_with P t (o ∷ os) p h = by (is_below t o) (is_below o t) (all_with P t os p h.1)
  where
    by : (b c : Bool) → AllByRecursion P (with_text t os) → AllByRecursion P (by_tests b c t o os)
    by true c rest = (p, h)
    by false true rest = (h.0, rest)
    by false false rest = h

with_rises : (t : List ℕ) (ts : List (List ℕ)) → AreRising ts → AreRising (with_text t ts)
with_rises t [] h = (tt, tt)
with_rises t (o ∷ os) h = by (is_below t o) (is_below o t) refl refl (with_rises t os h.1)
  where
    by : (b c : Bool) → is_below t o ≡ b → is_below o t ≡ c → AreRising (with_text t os) → AreRising (by_tests b c t o os)
    by true c p q rest = ((p, above_all t o os p h.0), h)
    by false true p q rest = (all_with (λ u. is_below o u ≡ true) t os q h.0, rest)
    by false false p q rest = h

-- ---- sorted texts

pub sorted_rises : (ts : List (List ℕ)) → AreRising (sorted ts)
sorted_rises [] = tt
sorted_rises (t ∷ ts) = with_rises t (sorted ts) (sorted_rises ts)

pub sorted_in : (ts : List (List ℕ)) (x : List ℕ) → Contains (sorted ts) x → Contains ts x
sorted_in [] x h = h
sorted_in (t ∷ ts) x h = elim (with_in t (sorted ts) x h) [
  | inl same ↦ subst (λ (y : List ℕ). Contains (t ∷ ts) y) same (here t ts)
  | inr there ↦ later t ts x (sorted_in ts x there)
]

pub in_sorted : (ts : List (List ℕ)) (x : List ℕ) → Contains ts x → Contains (sorted ts) x
in_sorted [] x h = h
in_sorted (t ∷ ts) x h = elim (first_or t ts x h) [
  | inl same ↦ subst (λ (y : List ℕ). Contains (with_text t (sorted ts)) y) same (in_new t (sorted ts))
  | inr there ↦ in_with t (sorted ts) x (in_sorted ts x there)
]

-- rising texts with the members of some texts are these, sorted
pub sorted_one : (xs ts : List (List ℕ)) → AreRising xs → ((x : List ℕ) → Contains xs x ↔ Contains ts x) → xs ≡ sorted ts
sorted_one xs ts rising same =
    rising_one xs (sorted ts) rising (sorted_rises ts) (λ x c. in_sorted ts x ((same x).0 c)) (λ x c. (same x).1 (sorted_in ts x c))
