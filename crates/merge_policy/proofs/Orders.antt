-- The order of rows and candidates, and that a list in strict order is the one sorted order of its elements.
use Rattle.std.proofs.Common.{◌≡◌, suc, Bool, true, false, not, cond, List, [], ◌∷◌, ◌++◌, filter, Option, Some, None, refl, sym, ap, ap₂, ◌∙◌, subst, arith, Ordering, Less, Equal, Greater, is_lt, is_gt, true≢false, IsPermutation, IsSorted, add-one}
use Rattle.std.specs.List.{AllByRecursion}
use Rattle.std.specs.List.Sorted.{IsStrictlySortedBy}
use Rattle.std.specs.Cmp.{IsTotalOrder}
use Rattle.std.specs.Ordering.{ordering_reverse, int_cmp}
use Rattle.std.proofs.lemmas.Cmp.{tied_itself, upto, alike_right, nat_cmp_total, int_cmp_total, on_total, then_total, back_total}
use Rattle.std.proofs.lemmas.List.Elements.{recursion_from_All, All-from_recursion}
use Rattle.std.proofs.lemmas.List.Sorted.{length_permutation, All-permutation}
use Rattle.std.proofs.lemmas.Map.Keys.{sorted_head, sorted_tail}
use Rattle.split_states.specs.declared.facts.Times.{Times}
use Rattle.split_states.specs.declared.rows.Row.{Row}
use Rattle.merge_policy.specs.declared.candidate.Candidate.{Candidate}
use Rattle.merge_policy.specs.Choice.{times_order, row_order}
use Rattle.merge_policy.specs.Walk.{candidate_order}
use Rattle.merge_policy.proofs.Permuted.{IsPermutation-filter}

-- ---- the orders are total

abbrev back : Times → Times → Ordering
back one other = int_cmp other.greatest one.greatest

back_is_total : IsTotalOrder back
back_is_total = back_total (on_total (λ (t : Times). t.greatest) int_cmp_total)

pub times_total : IsTotalOrder times_order
times_total = record { antisymm = turns; trans = goes_on; congr = ties }
  where
    turns : (x y : Option Times) → times_order x y ≡ ordering_reverse (times_order y x)
    turns (Some x) (Some y) = back_is_total.antisymm x y
    turns (Some x) None = refl
    turns None (Some y) = refl
    turns None None = refl

    goes_on : (x y z : Option Times) → times_order x y ≡ Less → times_order y z ≡ Less → times_order x z ≡ Less
    goes_on (Some x) (Some y) (Some z) p q = back_is_total.trans x y z p q
    goes_on (Some x) y None p q = refl
    goes_on (Some x) None (Some z) p q = cc
    goes_on None (Some y) z p q = cc
    goes_on None None z p q = cc

    ties : (x y z : Option Times) → times_order x y ≡ Equal → times_order x z ≡ times_order y z
    ties (Some x) (Some y) (Some z) p = back_is_total.congr x y z p
    ties (Some x) (Some y) None p = refl
    ties (Some x) None z p = cc
    ties None (Some y) z p = cc
    ties None None z p = refl

pub row_order_total : IsTotalOrder row_order
row_order_total = then_total (on_total (λ (r : Row). r.facts.times) times_total) (on_total (λ (r : Row). r.number) nat_cmp_total)

pub candidate_order_total : IsTotalOrder candidate_order
candidate_order_total = then_total (on_total (λ (c : Candidate). c.level) nat_cmp_total) (on_total (λ (c : Candidate). c.row.now) row_order_total)

-- ---- lists

pub All-each : {X : Type 0} (P Q : X → Type 0) (xs : List X) → ((x : X) → P x → Q x) → AllByRecursion P xs → AllByRecursion Q xs
All-each P Q [] f h = tt
All-each P Q (x ∷ xs) f h = (f x h.0, All-each P Q xs f h.1)

pub All-filter : {A : Type 0} (P : A → Type 0) (p : A → Bool) (xs : List A) → AllByRecursion P xs → AllByRecursion P (filter p xs)
All-filter P p [] h = tt
All-filter P p (x ∷ xs) h =
    elim (p x) as (λ b. AllByRecursion P (cond b (x ∷ filter p xs) (filter p xs))) [ true ↦ (h.0, All-filter P p xs h.1) | false ↦ All-filter P p xs h.1 ]

filter_all : {A : Type 0} (p : A → Bool) (xs : List A) → AllByRecursion (λ x. p x ≡ true) xs → filter p xs ≡ xs
filter_all p [] h = refl
filter_all p (x ∷ xs) h = rw (h.0, filter_all p xs h.1)

pub filter_none : {A : Type 0} (p : A → Bool) (xs : List A) → AllByRecursion (λ x. p x ≡ false) xs → filter p xs ≡ []
filter_none p [] h = refl
filter_none p (x ∷ xs) h = rw (h.0, filter_none p xs h.1)

-- each is R to those behind it
abbrev pub Ascends : {X : Type 0} → (X → X → Type 0) → List X → Type 0
Ascends R [] = Unit {0}
Ascends R (x ∷ xs) = AllByRecursion (R x) xs × Ascends R xs

ascends-filter : {X : Type 0} (R : X → X → Type 0) (p : X → Bool) (xs : List X) → Ascends R xs → Ascends R (filter p xs)
ascends-filter R p [] h = tt
ascends-filter R p (x ∷ xs) h =
    elim (p x) as (λ b. Ascends R (cond b (x ∷ filter p xs) (filter p xs))) [ true ↦ (All-filter (R x) p xs h.0, ascends-filter R p xs h.1) | false ↦ ascends-filter R p xs h.1 ]

abbrev pub AtMost : {X : Type 0} → (X → X → Ordering) → X → X → Type 0
AtMost cmp a b = is_gt (cmp a b) ≡ false

module _ {X : Type 0} (cmp : X → X → Ordering) (total : IsTotalOrder cmp) where
  turned : (o : Ordering) → is_lt o ≡ false → is_gt (ordering_reverse o) ≡ false
  turned Less h = h
  turned Equal h = refl
  turned Greater h = refl

  below_all : (x : X) (ys : List X) → IsSorted cmp (x ∷ ys) → Ascends (AtMost cmp) ys → AllByRecursion (AtMost cmp x) ys
  below_all x [] sorted up = tt
  below_all x (y ∷ ys) sorted up =
      let first : AtMost cmp x y = ap is_gt (total.antisymm x y) ∙ turned _ (sorted 0 x (omega arith) (omega arith)) in
      (first, All-each _ (AtMost cmp x) ys (λ z. upto total x y z first) up.0)

  pub ascends_sorted : (xs : List X) → IsSorted cmp xs → Ascends (AtMost cmp) xs
  ascends_sorted [] sorted = tt
  ascends_sorted (x ∷ xs) sorted =
      let tail : IsSorted cmp xs = λ k d p q. rw add-one (rw add-one at (sorted (suc k) d (omega arith) (omega arith))) in
      let up = ascends_sorted xs tail in
      (below_all x xs sorted up, up)

  abbrev is_above : X → X → Bool
  is_above x z = is_lt (cmp x z)

  still_above : (x y z : X) → is_above x y ≡ true → AtMost cmp y z → is_above x z ≡ true
  still_above x y z h up = go (cmp x y) (cmp y z) refl refl h up
    where
      go : (a b : Ordering) → cmp x y ≡ a → cmp y z ≡ b → is_lt a ≡ true → is_gt b ≡ false → is_above x z ≡ true
      go Less Less p q s t = ap is_lt (total.trans x y z p q)
      go Less Equal p q s t = ap is_lt (sym (alike_right total y z x q) ∙ p)
      go Less Greater p q s t = absurd (true≢false t)
      go Equal b p q s t = absurd (true≢false (sym s))
      go Greater b p q s t = absurd (true≢false (sym s))

  -- a sorted list is what is not above x, and then what is
  split : (x : X) (ys : List X) → Ascends (AtMost cmp) ys → ys ≡ filter (λ z. not (is_above x z)) ys ++ filter (is_above x) ys
  split x [] up = refl
  split x (y ∷ ys) up = go (is_above x y) refl (split x ys up.1)
    where
      go : (b : Bool) → is_above x y ≡ b → ys ≡ filter (λ z. not (is_above x z)) ys ++ filter (is_above x) ys
          → y ∷ ys ≡ filter (λ z. not (is_above x z)) (y ∷ ys) ++ filter (is_above x) (y ∷ ys)
      go false e more = rw e (ap (λ l. y ∷ l) more)
      go true e more =
          let above = All-each _ (λ z. is_above x z ≡ true) ys (λ z. still_above x y z e) up.0 in
          rw (e, filter_none _ ys (All-each _ (λ z. not (is_above x z) ≡ false) ys (λ z h. ap not h) above), filter_all _ ys above)

  one : (x : X) (ys : List X) → IsPermutation (x ∷ []) ys → ys ≡ x ∷ []
  one x [] same = absurd (omega (arith, length_permutation _ _ same))
  one x (y ∷ []) same = ap (λ z. z ∷ []) (recursion_from_All (λ z. z ≡ x) (y ∷ []) (All-permutation (λ z. z ≡ x) (x ∷ []) (y ∷ []) same (All-from_recursion (λ z. z ≡ x) (x ∷ []) (refl, tt)))).0
  one x (y ∷ z ∷ ys) same = absurd (omega (arith, length_permutation _ _ same))

  strict_ascends : (xs : List X) → IsStrictlySortedBy cmp xs → Ascends (AtMost cmp) xs
  strict_ascends [] strict = tt
  strict_ascends (x ∷ xs) strict = (All-each _ (AtMost cmp x) xs (λ z h. ap is_gt h) (sorted_head cmp x xs strict), strict_ascends xs (sorted_tail cmp x xs strict))

  -- the head is all that is not above the head, and the rest follows by induction
  same_order : (xs ys : List X) → IsStrictlySortedBy cmp xs → IsPermutation xs ys → Ascends (AtMost cmp) ys → ys ≡ xs
  same_order [] [] strict same up = refl
  same_order [] (y ∷ ys) strict same up = absurd (omega (arith, length_permutation _ _ same))
  same_order (x ∷ xs) ys strict same up =
      let here : is_above x x ≡ false = ap is_lt (tied_itself total x) in
      let above = All-each _ (λ z. is_above x z ≡ true) xs (λ z h. ap is_lt h) (sorted_head cmp x xs strict) in
      let first : filter (λ z. not (is_above x z)) (x ∷ xs) ≡ x ∷ [] =
      rw (here, filter_none _ xs (All-each _ (λ z. not (is_above x z) ≡ false) xs (λ z h. ap not h) above)) in
      let later : filter (is_above x) (x ∷ xs) ≡ xs = rw (here, filter_all _ xs above) in
      let head = one x _ (subst (λ l. IsPermutation l (filter (λ z. not (is_above x z)) ys)) first (IsPermutation-filter (λ z. not (is_above x z)) _ _ same)) in
      let tail = same_order xs _ (sorted_tail cmp x xs strict) (subst (λ l. IsPermutation l (filter (is_above x) ys)) later (IsPermutation-filter (is_above x) _ _ same)) (ascends-filter (AtMost cmp) _ ys up) in
      split x ys up ∙ ap₂ ◌++◌ head tail

  pub sorted_unique : (xs ys : List X) → IsStrictlySortedBy cmp xs → IsPermutation xs ys → IsStrictlySortedBy cmp ys → ys ≡ xs
  sorted_unique xs ys strict same sorted = same_order xs ys strict same (strict_ascends ys sorted)
