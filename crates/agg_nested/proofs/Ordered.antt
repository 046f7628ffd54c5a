-- The distinct ones of a list, in order, rise and are those of the list.
use Rattle.std.proofs.Common.{◌≡◌, zero, suc, Bool, true, false, cond, List, [], ◌∷◌, refl, sym, ◌∙◌, subst, arith, inl, inr}
use Rattle.std.specs.Prelude.{◌⊎◌, Contains}
use Rattle.std.specs.List.{AllByRecursion}
use Rattle.std.proofs.lemmas.Bool.{false≢true}
use Rattle.agg_nested.specs.Ordered.{with_item, ordered}

-- ---- members

pub none_in : {X : Type 0} (x : X) → Contains [] x → ⊥
none_in x h = omega (arith, h.1)

pub here : {X : Type 0} (x : X) (xs : List X) → Contains (x ∷ xs) x
here x xs = (0, omega arith, refl)

pub later : {X : Type 0} (y : X) (xs : List X) (x : X) → Contains xs x → Contains (y ∷ xs) x
later y xs x h = (suc h.0, omega (arith, h.1), h.2)

pub first_or : {X : Type 0} (y : X) (xs : List X) (x : X) → Contains (y ∷ xs) x → (y ≡ x) ⊎ Contains xs x
first_or y xs x (zero, lt, is) = inl is
first_or y xs x (suc n, lt, is) = inr (n, omega (arith, lt), is)

pub all_in : {X : Type 0} (P : X → Type 0) (xs : List X) (x : X) → AllByRecursion P xs → Contains xs x → P x
all_in P [] x h c = absurd (none_in x c)
all_in P (y ∷ ys) x h c = elim (first_or y ys x c) [ inl same ↦ subst P same h.0 | inr there ↦ all_in P ys x h.1 there ]

pub all_weaker : {X : Type 0} (P Q : X → Type 0) → ((x : X) → P x → Q x) → (xs : List X) → AllByRecursion P xs → AllByRecursion Q xs
all_weaker P Q w [] h = tt
all_weaker P Q w (x ∷ xs) h = (w x h.0, all_weaker P Q w xs h.1)

-- a test that orders all items
pub record IsOrder {X : Type 0} (below : X → X → Bool) : Type 0 where
  pub one_way : (x y : X) → below x y ≡ true → below y x ≡ false
  pub trans : (x y z : X) → below x y ≡ true → below y z ≡ true → below x z ≡ true
  pub neither : (x y : X) → below x y ≡ false → below y x ≡ false → x ≡ y

-- each item is below those behind it
abbrev pub Rises : {X : Type 0} → (X → X → Bool) → List X → Type 0
Rises below [] = Unit {0}
Rises below (x ∷ xs) = AllByRecursion (λ y. below x y ≡ true) xs × Rises below xs

-- ---- an item at its place

module _ {X : Type 0} (below : X → X → Bool) where
  abbrev by_tests : Bool → Bool → X → X → List X → List X
  by_tests b c x y ys = cond b (x ∷ y ∷ ys) (cond c (y ∷ with_item below x ys) (y ∷ ys))

  with_in : (x : X) (xs : List X) (z : X) → Contains (with_item below x xs) z → (x ≡ z) ⊎ Contains xs z
  with_in x [] z h = first_or x [] z h
  with_in x (y ∷ ys) z h = by (below x y) (below y x) (with_in x ys z) h
    where
      by : (b c : Bool) → (Contains (with_item below x ys) z → (x ≡ z) ⊎ Contains ys z) → Contains (by_tests b c x y ys) z → (x ≡ z) ⊎ Contains (y ∷ ys) z
      by true c rest h = first_or x (y ∷ ys) z h
      by false true rest h = elim (first_or y (with_item below x ys) z h) [
        | inl same ↦ inr (subst (λ (w : X). Contains (y ∷ ys) w) same (here y ys))
        | inr more ↦ elim (rest more) [ inl same ↦ inl same | inr there ↦ inr (later y ys z there) ]
      ]
      by false false rest h = inr h

  in_with : (x : X) (xs : List X) (z : X) → Contains xs z → Contains (with_item below x xs) z
  in_with x [] z h = absurd (none_in z h)
  in_with x (y ∷ ys) z h = by (below x y) (below y x) (in_with x ys z) h
    where
      by : (b c : Bool) → (Contains ys z → Contains (with_item below x ys) z) → Contains (y ∷ ys) z → Contains (by_tests b c x y ys) z
      by true c rest h = later x (y ∷ ys) z h
      by false true rest h = elim (first_or y ys z h) [
        | inl same ↦ subst (λ (w : X). Contains (y ∷ with_item below x ys) w) same (here y (with_item below x ys))
        | inr more ↦ later y (with_item below x ys) z (rest more)
      ]
      by false false rest h = h

  all_with : (P : X → Type 0) (x : X) (xs : List X) → P x → AllByRecursion P xs → AllByRecursion P (with_item below x xs)
  all_with P x [] p h = (p, tt)
  all_with P x (y ∷ ys) p h = by (below x y) (below y x) (all_with P x ys p h.1)
    where
      by : (b c : Bool) → AllByRecursion P (with_item below x ys) → AllByRecursion P (by_tests b c x y ys)
      by true c rest = (p, h)
      by false true rest = (h.0, rest)
      by false false rest = h

  pub all_ordered : (P : X → Type 0) (xs : List X) → AllByRecursion P xs → AllByRecursion P (ordered below xs)
  all_ordered P [] h = tt
  all_ordered P (x ∷ xs) h = all_with P x (ordered below xs) h.0 (all_ordered P xs h.1)

  pub ordered_in : (xs : List X) (z : X) → Contains (ordered below xs) z → Contains xs z
  ordered_in [] z h = h
  ordered_in (x ∷ xs) z h = elim (with_in x (ordered below xs) z h) [
    | inl same ↦ subst (λ (w : X). Contains (x ∷ xs) w) same (here x xs)
    | inr there ↦ later x xs z (ordered_in xs z there)
  ]

  module _ (laws : IsOrder below) where
    pub itself : (x : X) → below x x ≡ true → ⊥
    itself x h = false≢true (sym (laws.one_way x x h) ∙ h)

    in_new : (x : X) (xs : List X) → Contains (with_item below x xs) x
    in_new x [] = here x []
    in_new x (y ∷ ys) = by (below x y) (below y x) refl refl (in_new x ys)
      where
        by : (b c : Bool) → below x y ≡ b → below y x ≡ c → Contains (with_item below x ys) x → Contains (by_tests b c x y ys) x
        by true c p q rest = here x (y ∷ ys)
        by false true p q rest = later y (with_item below x ys) x rest
        by false false p q rest = subst (λ (w : X). Contains (w ∷ ys) x) (laws.neither x y p q) (here x ys)

    pub in_ordered : (xs : List X) (z : X) → Contains xs z → Contains (ordered below xs) z
    in_ordered [] z h = h
    in_ordered (x ∷ xs) z h = elim (first_or x xs z h) [
      | inl same ↦ subst (λ (w : X). Contains (with_item below x (ordered below xs)) w) same (in_new x (ordered below xs))
      | inr there ↦ in_with x (ordered below xs) z (in_ordered xs z there)
    ]

    with_rises : (x : X) (xs : List X) → Rises below xs → Rises below (with_item below x xs)
    with_rises x [] h = (tt, tt)
    with_rises x (y ∷ ys) h = by (below x y) (below y x) refl refl (with_rises x ys h.1)
      where
        by : (b c : Bool) → below x y ≡ b → below y x ≡ c → Rises below (with_item below x ys) → Rises below (by_tests b c x y ys)
        by true c p q rest = ((p, all_weaker (λ z. below y z ≡ true) (λ z. below x z ≡ true) (λ z. laws.trans x y z p) ys h.0), h)
        by false true p q rest = (all_with (λ z. below y z ≡ true) x ys q h.0, rest)
        by false false p q rest = h

    pub ordered_rises : (xs : List X) → Rises below (ordered below xs)
    ordered_rises [] = tt
    ordered_rises (x ∷ xs) = with_rises x (ordered below xs) (ordered_rises xs)
