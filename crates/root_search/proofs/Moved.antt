-- The same items in another order are sorted to one list, where the order tells any two of them apart.
use Rattle.std.proofs.Common.{◌≡◌, ◌⊎◌, inl, inr, ℕ, zero, suc, ◌<◌, Bool, true, false, List, [], ◌∷◌, length, get_or, set, swap, IsPermutation, refl, ap, sym, subst, ◌∙◌, le_of_suc-le-suc, not-suc-le-zero}
use Rattle.std.specs.Cmp.{IsStrictWeakOrder}
use Rattle.std.specs.List.{All}
use Rattle.std.proofs.lemmas.List.Edits.{swap_is}
use Rattle.std.proofs.lemmas.List.Elements.{All-get_or, All-head, All-tail}
use Rattle.std.proofs.lemmas.List.Sorted.{All-permutation, IsPermutation-keeps, IsPermutation-swap}
use Rattle.doc_tallies.specs.Firsts.{put_by, sorted_by}
use Rattle.doc_tallies.proofs.Putting.{through}

-- two items are one, or one of them comes before the other
abbrev pub IsTold : {X : Type 0} → (X → X → Bool) → X → X → Type 0
IsTold b x y = (x ≡ y) ⊎ ((b x y ≡ true) ⊎ (b y x ≡ true))

put_before : {X : Type 0} (b : X → X → Bool) → IsStrictWeakOrder b → (x y : X) → b x y ≡ true → (zs : List X) → put_by b x (put_by b y zs) ≡ put_by b y (put_by b x zs)
put_before b o x y h [] = let back = o.one_way x y h in simp (h, back)
put_before b o x y h (z ∷ zs) = go (b z x) refl (b z y) refl (put_before b o x y h zs)
  where
    go : (p : Bool) → b z x ≡ p → (q : Bool) → b z y ≡ q → put_by b x (put_by b y zs) ≡ put_by b y (put_by b x zs)
        → put_by b x (put_by b y (z ∷ zs)) ≡ put_by b y (put_by b x (z ∷ zs))
    go true e true f ih = simp (e, f) (ap (λ ws. z ∷ ws) ih)
    go true e false f ih = let w = through b o z x y e h in absurd (cc)
    go false e true f ih = simp (e, f, h)
    go false e false f ih = let back = o.one_way x y h in simp (e, f, h, back)

module _ {X : Type 0} (b : X → X → Bool) (o : IsStrictWeakOrder b) (M : X → Type 0) (told : (x y : X) → M x → M y → IsTold b x y) where
  put_either : (x y : X) (zs : List X) → IsTold b x y → put_by b x (put_by b y zs) ≡ put_by b y (put_by b x zs)
  put_either x y zs (inl e) = subst (λ (w : X). put_by b x (put_by b w zs) ≡ put_by b w (put_by b x zs)) e refl
  put_either x y zs (inr (inl h)) = put_before b o x y h zs
  put_either x y zs (inr (inr h)) = sym (put_before b o y x h zs)

  -- an item in front changes places with one of the list
  front_exchanged : (xs : List X) (j : ℕ) (x d : X) → j < length xs → M x → All M xs → put_by b (get_or xs j d) (sorted_by b (set xs j x)) ≡ put_by b x (sorted_by b xs)
  front_exchanged [] j x d h m all = absurd (not-suc-le-zero h)
  front_exchanged (z ∷ zs) zero x d h m all = put_either z x (sorted_by b zs) (told z x (All-head M z zs all) m)
  front_exchanged (z ∷ zs) (suc j) x d h m all =
      let y : X = get_or zs j d in
      let here = All-head M z zs all in
      let rest = All-tail M z zs all in
      let other : M (get_or zs j d) = All-get_or M zs j d (le_of_suc-le-suc h) rest in
      put_either y z (sorted_by b (set zs j x)) (told y z other here)
      ∙ (ap (put_by b z) (front_exchanged zs j x d (le_of_suc-le-suc h) m rest) ∙ put_either z x (sorted_by b zs) (told z x here m))

  exchanged : (xs : List X) (i j : ℕ) (d : X) → i < length xs → j < length xs → All M xs → sorted_by b (set (set xs i (get_or xs j d)) j (get_or xs i d)) ≡ sorted_by b xs
  exchanged [] i j d p q all = absurd (not-suc-le-zero p)
  exchanged (x ∷ xs) zero zero d p q all = refl
  exchanged (x ∷ xs) zero (suc j) d p q all = front_exchanged xs j x d (le_of_suc-le-suc q) (All-head M x xs all) (All-tail M x xs all)
  exchanged (x ∷ xs) (suc i) zero d p q all = front_exchanged xs i x d (le_of_suc-le-suc p) (All-head M x xs all) (All-tail M x xs all)
  exchanged (x ∷ xs) (suc i) (suc j) d p q all = ap (put_by b x) (exchanged xs i j d (le_of_suc-le-suc p) (le_of_suc-le-suc q) (All-tail M x xs all))

  swapped : (xs : List X) (i j : ℕ) → i < length xs → j < length xs → All M xs → sorted_by b (swap xs i j) ≡ sorted_by b xs
  swapped [] i j p q all = absurd (not-suc-le-zero p)
  swapped (d ∷ xs) i j p q all = subst (λ (l : List X). sorted_by b l ≡ sorted_by b (d ∷ xs)) (swap_is (d ∷ xs) i j d p q) (exchanged (d ∷ xs) i j d p q all)

  pub sorted_moved : (xs ys : List X) → IsPermutation xs ys → All M xs → sorted_by b ys ≡ sorted_by b xs
  sorted_moved xs ys same all =
      let both = IsPermutation-keeps xs (λ (l : List X). All M l × (sorted_by b l ≡ sorted_by b xs)) (all, refl)
      (λ l i j p q h. (All-permutation M l (swap l i j) (IsPermutation-swap l (swap l i j) i j p q refl) h.0, swapped l i j p q h.0 ∙ h.1)) ys same in
      both.1
