-- A filter of a list in another order.
use Rattle.std.proofs.Common.{◌≡◌, ℕ, zero, suc, ◌<◌, Bool, true, false, cond, List, [], ◌∷◌, ◌++◌, filter, flat_map, length, get_or, set, swap, IsPermutation, refl, ap, sym, subst, append_assoc, le_of_suc-le-suc, not-suc-le-zero}
use Rattle.std.proofs.lemmas.List.Edits.{swap_is}
use Rattle.std.proofs.lemmas.List.Sorted.{IsPermutation-refl, IsPermutation-trans, IsPermutation-append_left, IsPermutation-append_right, IsPermutation-append_comm, IsPermutation-keeps}

IsPermutation-same : {X : Type 0} (xs ys : List X) → xs ≡ ys → IsPermutation xs ys
IsPermutation-same xs ys e = subst (IsPermutation xs) e (IsPermutation-refl xs)

-- two pieces in front change places
pub IsPermutation-exchange : {X : Type 0} (xs ys zs : List X) → IsPermutation (xs ++ (ys ++ zs)) (ys ++ (xs ++ zs))
IsPermutation-exchange xs ys zs =
    let first : IsPermutation (xs ++ (ys ++ zs)) ((xs ++ ys) ++ zs) = IsPermutation-same _ _ (sym (append_assoc xs ys zs)) in
    let second = IsPermutation-append_left zs (xs ++ ys) (ys ++ xs) (IsPermutation-append_comm xs ys) in
    let third : IsPermutation ((ys ++ xs) ++ zs) (ys ++ (xs ++ zs)) = IsPermutation-same _ _ (append_assoc ys xs zs) in
    IsPermutation-trans _ _ _ first (IsPermutation-trans _ _ _ second third)

module _ {X A : Type 0} (c : X → List A) where
  -- an element in front changes places with one of the list
  front_exchanged : (xs : List X) (j : ℕ) (x d : X) → j < length xs → IsPermutation (c x ++ flat_map c xs) (c (get_or xs j d) ++ flat_map c (set xs j x))
  front_exchanged [] j x d h = absurd (not-suc-le-zero h)
  front_exchanged (z ∷ zs) zero x d h = IsPermutation-exchange (c x) (c z) (flat_map c zs)
  front_exchanged (z ∷ zs) (suc j) x d h =
      let y : X = get_or zs j d in
      let rest = front_exchanged zs j x d (le_of_suc-le-suc h) in
      IsPermutation-trans _ _ _ (IsPermutation-exchange (c x) (c z) (flat_map c zs))
      (IsPermutation-trans _ _ _ (IsPermutation-append_right (c z) (c x ++ flat_map c zs) (c y ++ flat_map c (set zs j x)) rest)
      (IsPermutation-exchange (c z) (c y) (flat_map c (set zs j x))))

  flat_map_exchanged : (xs : List X) (i j : ℕ) (d : X) → i < length xs → j < length xs → IsPermutation (flat_map c xs) (flat_map c (set (set xs i (get_or xs j d)) j (get_or xs i d)))
  flat_map_exchanged [] i j d p q = absurd (not-suc-le-zero p)
  flat_map_exchanged (x ∷ xs) zero zero d p q = IsPermutation-refl (flat_map c (x ∷ xs))
  flat_map_exchanged (x ∷ xs) zero (suc j) d p q = front_exchanged xs j x d (le_of_suc-le-suc q)
  flat_map_exchanged (x ∷ xs) (suc i) zero d p q = front_exchanged xs i x d (le_of_suc-le-suc p)
  flat_map_exchanged (x ∷ xs) (suc i) (suc j) d p q = IsPermutation-append_right (c x) (flat_map c xs) _ (flat_map_exchanged xs i j d (le_of_suc-le-suc p) (le_of_suc-le-suc q))

  flat_map_swapped : (xs : List X) (i j : ℕ) → i < length xs → j < length xs → IsPermutation (flat_map c xs) (flat_map c (swap xs i j))
  flat_map_swapped [] i j p q = absurd (not-suc-le-zero p)
  flat_map_swapped (d ∷ xs) i j p q = subst (λ l. IsPermutation (flat_map c (d ∷ xs)) (flat_map c l)) (swap_is (d ∷ xs) i j d p q) (flat_map_exchanged (d ∷ xs) i j d p q)

  IsPermutation-flat_map : (xs ys : List X) → IsPermutation xs ys → IsPermutation (flat_map c xs) (flat_map c ys)
  IsPermutation-flat_map xs ys p =
      IsPermutation-keeps xs (λ l. IsPermutation (flat_map c xs) (flat_map c l)) (IsPermutation-refl (flat_map c xs))
      (λ l i j a b h. IsPermutation-trans _ _ _ h (flat_map_swapped l i j a b)) ys p

-- an element where a test holds
abbrev alone_if : {X : Type 0} → Bool → X → List X
alone_if b x = cond b (x ∷ []) []

filter_is : {X : Type 0} (test : X → Bool) (xs : List X) → flat_map (λ x. alone_if (test x) x) xs ≡ filter test xs
filter_is test [] = refl
filter_is test (x ∷ xs) =
    elim (test x) as (λ b. alone_if b x ++ flat_map (λ y. alone_if (test y) y) xs ≡ cond b (x ∷ filter test xs) (filter test xs)) [
      | true ↦ ap (λ rest. x ∷ rest) (filter_is test xs)
      | false ↦ filter_is test xs
    ]

pub IsPermutation-filter : {X : Type 0} (test : X → Bool) (xs ys : List X) → IsPermutation xs ys → IsPermutation (filter test xs) (filter test ys)
IsPermutation-filter test xs ys p =
    let joined = IsPermutation-flat_map (λ x. alone_if (test x) x) xs ys p in
    rw (filter_is test xs, filter_is test ys) at joined
