-- The steps of a histogram that are shown are one list.
use Rattle.std.proofs.Common.{◌≡◌, ℕ, ◌<◌, Bool, true, false, cond, List, [], ◌∷◌, Option, Some, None, refl, sym, ◌∙◌, ap, subst, arith, inl, inr, ℤ, ◌<ℤ◌, int_lt, unwrap_or}
use Rattle.std.specs.Prelude.{Contains}
use Rattle.std.specs.List.{AllByRecursion, flat_map}
use Rattle.std.specs.List.Sorted.{IsPermutation}
use Rattle.std.specs.Map.{lookup, keys_of}
use Rattle.std.specs.Option.{IfSome, option_map, option_map_or, option_to_list}
use Rattle.std.specs.Ordering.{int_eq}
use Rattle.std.proofs.lemmas.Bool.{false≢true, cases_lt}
use Rattle.std.proofs.lemmas.Bool.Decides.{Decides-int_eq}
use Rattle.std.proofs.lemmas.Int.{ints}
use Rattle.std.proofs.lemmas.List.Sorted.{sum_by-IsPermutation}
use Rattle.std.proofs.lemmas.Option.{none-some, same_Some}
use Rattle.doc_value.specs.declared.doc.DocField.{DocField}
use Rattle.agg_model.specs.Answers.{AreShown, IsRising}
use Rattle.agg_model.specs.Counting.{first_whole, lies_in, step_count, step_of}
use Rattle.agg_model.proofs.Rising.{steps_are_shown}
use Rattle.agg_nested.specs.Steps.{step_in, steps_in, steps_of, with_counts}
use Rattle.agg_nested.proofs.Members.{Documents, in_flat, flat_in, some_passes, passes_some}
use Rattle.agg_nested.proofs.Ordered.{IsOrder, Rises, none_in, here, later, first_or, all_in, all_weaker, in_ordered, ordered_in, ordered_rises}

-- ---- two rising lists with the same members are one

first_same : (x y : ℤ) (xs ys : List ℤ) → IsRising (x ∷ xs) → IsRising (y ∷ ys) → Contains (y ∷ ys) x → Contains (x ∷ xs) y → x ≡ y
first_same x y xs ys rx ry c d = elim (first_or y ys x c) [
  | inl same ↦ sym same
  | inr there ↦ elim (first_or x xs y d) [
    | inl same ↦ same
    | inr other ↦ absurd (let one = all_in (λ z. x <ℤ z) xs y rx.0 other in let two = all_in (λ z. y <ℤ z) ys x ry.0 there in omega (arith, ints))
  ]
]

rest_in : (x y : ℤ) (xs ys : List ℤ) → x ≡ y → AllByRecursion (λ z. x <ℤ z) xs → ((z : ℤ) → Contains (x ∷ xs) z → Contains (y ∷ ys) z) → (z : ℤ) → Contains xs z → Contains ys z
rest_in x y xs ys same above to z c = elim (first_or y ys z (to z (later x xs z c))) [
  | inl is ↦ absurd (let one = all_in (λ w. x <ℤ w) xs z above c in omega (arith, ints))
  | inr there ↦ there
]

rising_one : (xs ys : List ℤ) → IsRising xs → IsRising ys → ((z : ℤ) → Contains xs z → Contains ys z) → ((z : ℤ) → Contains ys z → Contains xs z) → xs ≡ ys
rising_one [] [] rx ry to from = refl
rising_one [] (y ∷ ys) rx ry to from = absurd (none_in y (from y (here y ys)))
rising_one (x ∷ xs) [] rx ry to from = absurd (none_in x (to x (here x xs)))
rising_one (x ∷ xs) (y ∷ ys) rx ry to from =
    let same : x ≡ y = first_same x y xs ys rx ry (to x (here x xs)) (from y (here y ys)) in
    ap (λ (z : ℤ). z ∷ xs) same
    ∙ ap (λ (l : List ℤ). y ∷ l) (rising_one xs ys rx.1 ry.1 (rest_in x y xs ys same rx.0 to) (rest_in y x ys xs (sym same) ry.0 from))

pub shown_one : (least : ℕ) (count : ℤ → ℕ) (xs ys : List ℤ) → AreShown least count xs → AreShown least count ys → xs ≡ ys
shown_one least count xs ys hx hy = rising_one xs ys hx.rise hy.rise (λ z c. (hy.shown z).1 ((hx.shown z).0 c)) (λ z c. (hx.shown z).1 ((hy.shown z).0 c))

-- ---- steps with their counts

keys_same : (count : ℤ → ℕ) (steps : List ℤ) → keys_of (with_counts count steps) ≡ steps
keys_same count [] = refl
keys_same count (s ∷ ss) = ap (λ (l : List ℤ). s ∷ l) (keys_same count ss)

module _ (count : ℤ → ℕ) (s : ℤ) where
  is_found : (steps : List ℤ) → Contains steps s → lookup (int_eq s) (with_counts count steps) ≡ Some (count s)
  is_found [] c = absurd (none_in s c)
  is_found (x ∷ xs) c = by (int_eq s x) refl (is_found xs)
    where
      by : (b : Bool) → b ≡ int_eq s x → (Contains xs s → lookup (int_eq s) (with_counts count xs) ≡ Some (count s)) → cond b (Some (count x)) (lookup (int_eq s) (with_counts count xs)) ≡ Some (count s)
      by true e rest = ap (λ (z : ℤ). Some (count z)) (sym ((Decides-int_eq s x).0 (sym e)))
      by false e rest = elim (first_or x xs s c) [ inl same ↦ absurd (false≢true (e ∙ (Decides-int_eq s x).1 (sym same))) | inr there ↦ rest there ]

  found_is : (steps : List ℤ) (n : ℕ) → lookup (int_eq s) (with_counts count steps) ≡ Some n → Contains steps s × (n ≡ count s)
  found_is [] n f = absurd (none-some n f)
  found_is (x ∷ xs) n f = by (int_eq s x) refl f (found_is xs n)
    where
      by : (b : Bool) → b ≡ int_eq s x → cond b (Some (count x)) (lookup (int_eq s) (with_counts count xs)) ≡ Some n → (lookup (int_eq s) (with_counts count xs) ≡ Some n → Contains xs s × (n ≡ count s))
          → Contains (x ∷ xs) s × (n ≡ count s)
      by true e f rest =
          let same : s ≡ x = (Decides-int_eq s x).0 (sym e) in
          (subst (λ (z : ℤ). Contains (x ∷ xs) z) (sym same) (here x xs), sym (same_Some (count x) n f) ∙ ap count (sym same))
      by false e f rest = let m = rest f in (later x xs s m.0, m.1)

-- ---- the steps in which some document lies

int_order : IsOrder int_lt
int_order = record {
  one_way = λ x y p. grind (arith, ints);
  trans = λ x y z p q. grind (arith, ints);
  neither = λ x y p q. grind (arith, ints);
}

rising_is : (xs : List ℤ) → Rises int_lt xs → IsRising xs
rising_is [] h = tt
rising_is (x ∷ xs) h = (all_weaker (λ y. int_lt x y ≡ true) (λ y. x <ℤ y) (λ y p. grind (arith, ints)) xs h.0, rising_is xs h.1)

module _ (field : ℕ) (interval offset : ℤ) where
  step_lies : (doc : List DocField) (s : ℤ) → Contains (step_in field interval offset doc) s → lies_in field interval offset s doc ≡ true
  step_lies doc s c = at (first_whole field doc) c
    where
      at : (o : Option ℤ) → Contains (option_to_list (option_map (step_of interval offset) o)) s → option_map_or (λ z. int_eq (step_of interval offset z) s) o false ≡ true
      at None c = absurd (none_in s c)
      at (Some z) c = elim (first_or (step_of interval offset z) [] s c) [ inl same ↦ (Decides-int_eq (step_of interval offset z) s).1 same | inr none ↦ absurd (none_in s none) ]

  lies_step : (doc : List DocField) (s : ℤ) → lies_in field interval offset s doc ≡ true → Contains (step_in field interval offset doc) s
  lies_step doc s h = at (first_whole field doc) h
    where
      at : (o : Option ℤ) → option_map_or (λ z. int_eq (step_of interval offset z) s) o false ≡ true → Contains (option_to_list (option_map (step_of interval offset) o)) s
      at None h = absurd (false≢true h)
      at (Some z) h = subst (λ (w : ℤ). Contains (step_of interval offset z ∷ []) w) ((Decides-int_eq (step_of interval offset z) s).0 h) (here (step_of interval offset z) [])

  module _ (documents : Documents) where
    counts_step : (s : ℤ) → 0 < step_count field interval offset documents s → Contains (steps_in field interval offset documents) s
    counts_step s h =
        let m = passes_some (lies_in field interval offset s) documents h in
        in_ordered int_lt int_order (flat_map (step_in field interval offset) documents) s (in_flat (step_in field interval offset) documents m.0 s m.1 (lies_step m.0 s m.2))

    step_counts : (s : ℤ) → Contains (steps_in field interval offset documents) s → 0 < step_count field interval offset documents s
    step_counts s c =
        let m = flat_in (step_in field interval offset) documents s (ordered_in int_lt (flat_map (step_in field interval offset) documents) s c) in
        some_passes (lies_in field interval offset s) documents m.0 m.1 (step_lies m.0 s m.2)

    abbrev count : ℤ → ℕ
    count s = step_count field interval offset documents s

    abbrev steps : List ℤ
    steps = steps_in field interval offset documents

    found_counts : (s : ℤ) → unwrap_or (lookup (int_eq s) (with_counts count steps)) 0 ≡ count s
    found_counts s = at (lookup (int_eq s) (with_counts count steps)) refl
      where
        at : (o : Option ℕ) → o ≡ lookup (int_eq s) (with_counts count steps) → unwrap_or o 0 ≡ count s
        at None e = elim (cases_lt 0 (count s)) [
          | inl some ↦ absurd (none-some (count s) (e ∙ is_found count s steps (counts_step s some)))
          | inr none ↦ omega (arith, none)
        ]
        at (Some n) e = (found_is count s steps n (sym e)).1

    found_some : (s : ℤ) → IfSome (lookup (int_eq s) (with_counts count steps)) (λ n. 0 < n)
    found_some s = at (lookup (int_eq s) (with_counts count steps)) refl
      where
        at : (o : Option ℕ) → o ≡ lookup (int_eq s) (with_counts count steps) → IfSome o (λ n. 0 < n)
        at None e = tt
        at (Some n) e = let m = found_is count s steps n (sym e) in omega (arith, m.1, step_counts s m.0)

    steps_rise : IsRising (keys_of (with_counts count steps))
    steps_rise = subst IsRising (sym (keys_same count steps)) (rising_is steps (ordered_rises int_lt int_order (flat_map (step_in field interval offset) documents)))

    pub steps_shown_are : (least : ℕ) → AreShown least count (steps_of field interval offset least documents)
    unfolding steps_of
    steps_shown_are least = steps_are_shown least count (with_counts count steps) steps_rise found_counts found_some

  -- ---- the order of the documents

  pub step_count_moved : (documents others : Documents) → IsPermutation documents others → (s : ℤ) → step_count field interval offset documents s ≡ step_count field interval offset others s
  step_count_moved documents others moved s = sym (sum_by-IsPermutation (λ d. cond (lies_in field interval offset s d) 1 0) documents others moved)

  pub counts_moved : (documents others : Documents) → IsPermutation documents others → ◌≡◌ {A = ℤ → ℕ} (step_count field interval offset documents) (step_count field interval offset others)
  counts_moved documents others moved = λ i s. step_count_moved documents others moved s i

  pub steps_moved : (documents others : Documents) (least : ℕ) → IsPermutation documents others → steps_of field interval offset least documents ≡ steps_of field interval offset least others
  steps_moved documents others least moved =
      shown_one least (step_count field interval offset others) (steps_of field interval offset least documents) (steps_of field interval offset least others)
      (subst (λ (count : ℤ → ℕ). AreShown least count (steps_of field interval offset least documents)) (counts_moved documents others moved) (steps_shown_are documents least)) (steps_shown_are others least)
