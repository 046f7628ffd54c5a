-- Members of mapped and joined lists, and how many of a list pass a test.
use Rattle.std.proofs.Common.{◌≡◌, ◌<◌, ◌+◌, Bool, true, false, cond, List, [], ◌∷◌, map, refl, sym, ◌∙◌, ap, subst, arith, get_or, inl, inr, All}
use Rattle.std.specs.Prelude.{Contains, count_by}
use Rattle.std.specs.List.{AllByRecursion, flat_map}
use Rattle.std.proofs.lemmas.Bool.{false_from_ne_true}
use Rattle.std.proofs.lemmas.List.Elements.{Contains-append_cases, Contains-append_left, Contains-append_right, Contains-get_or}
use Rattle.std.proofs.lemmas.List.Sums.{sum_by-cons}
use Rattle.doc_value.specs.declared.doc.DocField.{DocField}
use Rattle.agg_nested.proofs.Ordered.{IsOrder, Rises, none_in, here, later, first_or, all_in, itself}

abbrev pub Documents : Type 0
Documents = List (List DocField)

-- ---- what holds of each member

pub all_from : {X : Type 0} (P : X → Type 0) (xs : List X) → ((x : X) → Contains xs x → P x) → AllByRecursion P xs
all_from P [] h = tt
all_from P (x ∷ xs) h = (h x (here x xs), all_from P xs (λ y c. h y (later x xs y c)))

pub each_from : {X : Type 0} (P : X → Type 0) (xs : List X) → ((x : X) → Contains xs x → P x) → All P xs
each_from P xs h = λ k d l. h (get_or xs k d) (Contains-get_or xs k d l)

-- ---- members of mapped and joined lists

pub in_map : {X Y : Type 0} (f : X → Y) (xs : List X) (x : X) → Contains xs x → Contains (map f xs) (f x)
in_map f [] x c = absurd (none_in x c)
in_map {X} {Y} f (z ∷ zs) x c = elim (first_or z zs x c) [
  | inl same ↦ subst (λ (y : Y). Contains (f z ∷ map f zs) y) (ap f same) (here (f z) (map f zs))
  | inr there ↦ later (f z) (map f zs) (f x) (in_map f zs x there)
]

pub map_in : {X Y : Type 0} (f : X → Y) (xs : List X) (y : Y) → Contains (map f xs) y → (x : X) × Contains xs x × (f x ≡ y)
map_in f [] y c = absurd (none_in y c)
map_in f (z ∷ zs) y c = elim (first_or (f z) (map f zs) y c) [
  | inl same ↦ (z, here z zs, same)
  | inr there ↦ let m = map_in f zs y there in (m.0, later z zs m.0 m.1, m.2)
]

pub in_flat : {X Y : Type 0} (f : X → List Y) (xs : List X) (x : X) (y : Y) → Contains xs x → Contains (f x) y → Contains (flat_map f xs) y
in_flat f [] x y c d = absurd (none_in x c)
in_flat {X} f (z ∷ zs) x y c d = elim (first_or z zs x c) [
  | inl same ↦ Contains-append_left (f z) (flat_map f zs) y (subst (λ (w : X). Contains (f w) y) (sym same) d)
  | inr there ↦ Contains-append_right (f z) (flat_map f zs) y (in_flat f zs x y there d)
]

pub flat_in : {X Y : Type 0} (f : X → List Y) (xs : List X) (y : Y) → Contains (flat_map f xs) y → (x : X) × Contains xs x × Contains (f x) y
flat_in f [] y c = absurd (none_in y c)
flat_in f (z ∷ zs) y c = elim (Contains-append_cases (f z) (flat_map f zs) y c) [
  | inl this ↦ (z, here z zs, this)
  | inr more ↦ let m = flat_in f zs y more in (m.0, later z zs m.0 m.1, m.2)
]

-- ---- how many pass

module _ {X : Type 0} (p : X → Bool) where
  pub count_more : (x : X) (xs : List X) → count_by p (x ∷ xs) ≡ cond (p x) 1 0 + count_by p xs
  count_more x xs = sum_by-cons (λ y. cond (p y) 1 0) x xs

  pub count_with : (x : X) (xs : List X) → p x ≡ true → count_by p (x ∷ xs) ≡ 1 + count_by p xs
  count_with x xs t = count_more x xs ∙ ap (λ b. cond b 1 0 + count_by p xs) t

  pub count_without : (x : X) (xs : List X) → p x ≡ false → count_by p (x ∷ xs) ≡ 0 + count_by p xs
  count_without x xs t = count_more x xs ∙ ap (λ b. cond b 1 0 + count_by p xs) t

  pub none_passes : (xs : List X) → AllByRecursion (λ x. p x ≡ false) xs → count_by p xs ≡ 0
  none_passes [] h = refl
  none_passes (x ∷ xs) h = let rest = none_passes xs h.1 in omega (arith, count_without x xs h.0, rest)

  pub some_passes : (xs : List X) (x : X) → Contains xs x → p x ≡ true → 0 < count_by p xs
  some_passes [] x c t = absurd (none_in x c)
  some_passes (y ∷ ys) x c t = elim (first_or y ys x c) [
    | inl same ↦ omega (arith, count_with y ys (ap p same ∙ t))
    | inr there ↦ let rest = some_passes ys x there t in omega (arith, count_more y ys, rest)
  ]

  pub passes_some : (xs : List X) → 0 < count_by p xs → (x : X) × Contains xs x × (p x ≡ true)
  passes_some [] h = absurd (omega (arith, h))
  passes_some (y ∷ ys) h = by (p y) refl (passes_some ys)
    where
      by : (b : Bool) → b ≡ p y → (0 < count_by p ys → (x : X) × Contains ys x × (p x ≡ true)) → (x : X) × Contains (y ∷ ys) x × (p x ≡ true)
      by true e rest = (y, here y ys, sym e)
      by false e rest =
          let m = rest (omega (arith, h, count_without y ys (sym e))) in
          (m.0, later y ys m.0 m.1, m.2)

  -- of rising items one alone passes
  pub one_passes : (below : X → X → Bool) → IsOrder below → (t : X) (xs : List X) → Rises below xs → ((x : X) → Contains xs x → p x ≡ true → x ≡ t) → p t ≡ true → Contains xs t → count_by p xs ≡ 1
  one_passes below laws t [] rises only own c = absurd (none_in t c)
  one_passes below laws t (x ∷ xs) rises only own c = elim (first_or x xs t c) [
    | inl same ↦
        let none : AllByRecursion (λ y. p y ≡ false) xs = all_from (λ y. p y ≡ false) xs (λ y d. false_from_ne_true (p y) (λ e.
        itself below laws x (subst (λ (z : X). below x z ≡ true) (only y (later x xs y d) e ∙ sym same) (all_in (λ z. below x z ≡ true) xs y rises.0 d)))) in
        omega (arith, count_with x xs (ap p same ∙ own), none_passes xs none)
    | inr there ↦
        let other : p x ≡ false = false_from_ne_true (p x) (λ e.
        itself below laws x (subst (λ (z : X). below x z ≡ true) (sym (only x (here x xs) e)) (all_in (λ z. below x z ≡ true) xs t rises.0 there))) in
        let rest = one_passes below laws t xs rises.1 (λ y d e. only y (later x xs y d) e) own there in
        omega (arith, count_without x xs other, rest)
  ]
