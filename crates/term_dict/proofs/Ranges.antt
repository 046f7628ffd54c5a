-- The terms of a range stand in a row.
use Rattle.std.proofs.Common.{◌≡◌, ℕ, ◌<◌, ◌≤◌, Bool, true, false, cond, not, ◌&&◌, List, [], ◌∷◌, refl, sym, ◌∙◌, ap, arith, inl, inr, one-add, ◌≢◌, eq-eqb}
use Rattle.std.specs.Prelude.{filter, nat_eq}
use Rattle.std.specs.List.{AllByRecursion, take_while, starts_with}
use Rattle.std.proofs.lemmas.Bool.{cases_lt, lt-ltb, le-ltb, ne_eqb, cases_eq}
use Rattle.term_dict.specs.Keys.{is_below}
use Rattle.term_dict.specs.Terms.{IsRising, from_key}
use Rattle.term_dict.specs.declared.term.Term.{Term}
use Rattle.term_dict.proofs.Orders.{below_then, at_most_below, below_not}

-- what a test refuses of all keys is not there
pub none_wanted : (wanted : List ℕ → Bool) (ts : List Term) → AllByRecursion (λ t. wanted t.key ≡ false) ts → filter (λ t. wanted t.key) ts ≡ []
none_wanted wanted [] h = refl
none_wanted wanted (t ∷ ts) h = rw h.0 (none_wanted wanted ts h.1)

-- two tests: which keys are wanted of all, and which stand before the end of those not below the first
pub record IsRange (low : List ℕ) (wanted before_end : List ℕ → Bool) : Type 0 where
  pub out : (k : List ℕ) → is_below k low ≡ true → wanted k ≡ false
  pub same : (k : List ℕ) → is_below k low ≡ false → wanted k ≡ before_end k
  pub shut : (k m : List ℕ) → is_below k low ≡ false → before_end k ≡ false → is_below k m ≡ true → before_end m ≡ false

all_shut : (low : List ℕ) (wanted before_end : List ℕ → Bool) (r : IsRange low wanted before_end) (k : List ℕ) (ts : List Term) → is_below k low ≡ false → before_end k ≡ false
    → AllByRecursion (λ u. is_below k u.key ≡ true) ts → AllByRecursion (λ t. wanted t.key ≡ false) ts
all_shut low wanted before_end r k [] from end h = tt
all_shut low wanted before_end r k (t ∷ ts) from end h =
    (r.same t.key (below_not low t.key (at_most_below low k t.key from h.0)) ∙ r.shut k t.key from end h.0, all_shut low wanted before_end r k ts from end h.1)

run_cases : (low : List ℕ) (wanted before_end : List ℕ → Bool) (r : IsRange low wanted before_end) (t : Term) (ts : List Term) (b : Bool) → before_end t.key ≡ b → is_below t.key low ≡ false
    → AllByRecursion (λ u. is_below t.key u.key ≡ true) ts → filter (λ t. wanted t.key) ts ≡ take_while (λ t. before_end t.key) ts
    → filter (λ t. wanted t.key) (t ∷ ts) ≡ take_while (λ t. before_end t.key) (t ∷ ts)
run_cases low wanted before_end r t ts true e from above more =
    rw (r.same t.key from ∙ e, e, one-add) (ap (λ (l : List Term). t ∷ l) more)
run_cases low wanted before_end r t ts false e from above more =
    rw (r.same t.key from ∙ e, e) (none_wanted wanted ts (all_shut low wanted before_end r t.key ts from e above))

-- where no key is below the first, the wanted ones stand in front
run_is : (low : List ℕ) (wanted before_end : List ℕ → Bool) (r : IsRange low wanted before_end) (ts : List Term) → IsRising ts → AllByRecursion (λ t. is_below t.key low ≡ false) ts
    → filter (λ t. wanted t.key) ts ≡ take_while (λ t. before_end t.key) ts
run_is low wanted before_end r [] h from = refl
run_is low wanted before_end r (t ∷ ts) h from = run_cases low wanted before_end r t ts (before_end t.key) refl from.0 h.0 (run_is low wanted before_end r ts h.1 from.1)

from_above : (low : List ℕ) (t : Term) (ts : List Term) → is_below t.key low ≡ false → AllByRecursion (λ u. is_below t.key u.key ≡ true) ts → AllByRecursion (λ t. is_below t.key low ≡ false) ts
from_above low t [] from h = tt
from_above low t (u ∷ us) from h = (below_not low u.key (at_most_below low t.key u.key from h.0), from_above low t us from h.1)

range_cases : (low : List ℕ) (wanted before_end : List ℕ → Bool) (r : IsRange low wanted before_end) (t : Term) (ts : List Term) (b : Bool) → is_below t.key low ≡ b → IsRising (t ∷ ts)
    → filter (λ t. wanted t.key) ts ≡ take_while (λ t. before_end t.key) (from_key low ts)
    → filter (λ t. wanted t.key) (t ∷ ts) ≡ take_while (λ t. before_end t.key) (cond b (from_key low ts) (t ∷ ts))
range_cases low wanted before_end r t ts true e h more = rw (r.out t.key e) more
range_cases low wanted before_end r t ts false e h more = run_is low wanted before_end r (t ∷ ts) h (e, from_above low t ts e h.0)

-- the wanted terms are those from the first one on, up to the end
pub range_is : (low : List ℕ) (wanted before_end : List ℕ → Bool) (r : IsRange low wanted before_end) (ts : List Term) → IsRising ts
    → filter (λ t. wanted t.key) ts ≡ take_while (λ t. before_end t.key) (from_key low ts)
range_is low wanted before_end r [] h = refl
range_is low wanted before_end r (t ∷ ts) h = range_cases low wanted before_end r t ts (is_below t.key low) refl h (range_is low wanted before_end r ts h.1)

-- ---- the keys from one up to another one

between_shut : (high k m : List ℕ) (b : Bool) → is_below m high ≡ b → is_below k high ≡ false → is_below k m ≡ true → b ≡ false
between_shut high k m false e end lt = refl
between_shut high k m true e end lt =
    let low : is_below k high ≡ true = below_then k m high lt e in
    absurd cc

pub between : (low high : List ℕ) → IsRange low (λ k. not (is_below k low) && is_below k high) (λ k. is_below k high)
between low high = record {
  out = λ k e. rw e refl;
  same = λ k e. rw e refl;
  shut = λ k m from end lt. between_shut high k m (is_below m high) refl end lt;
}

-- ---- the keys with a prefix

-- a byte before another one, the same, and behind it
cmp_less : (x y : ℕ) (xs ys : List ℕ) → x < y → is_below (x ∷ xs) (y ∷ ys) ≡ true
cmp_less x y xs ys lt = rw (lt-ltb x y lt) refl

cmp_same : (x y : ℕ) (xs ys : List ℕ) → x ≡ y → is_below (x ∷ xs) (y ∷ ys) ≡ is_below xs ys
cmp_same x y xs ys e = rw (e, le-ltb y y (omega arith), eq-eqb y y refl) refl

cmp_more : (x y : ℕ) (xs ys : List ℕ) → y < x → is_below (x ∷ xs) (y ∷ ys) ≡ false
cmp_more x y xs ys lt =
    let le : y ≤ x = omega arith in
    let ne : x ≢ y = omega arith in
    rw (le-ltb x y le, ne_eqb x y ne) refl

starts_same : (x y : ℕ) (xs ys : List ℕ) → y ≡ x → starts_with nat_eq (x ∷ xs) (y ∷ ys) ≡ starts_with nat_eq xs ys
starts_same x y xs ys e = rw (e, eq-eqb x x refl) refl

starts_other : (x y : ℕ) (xs ys : List ℕ) → y ≢ x → starts_with nat_eq (x ∷ xs) (y ∷ ys) ≡ false
starts_other x y xs ys ne = rw (ne_eqb y x ne) refl

-- a key before a prefix does not begin with it
before_prefix : (prefix k : List ℕ) → is_below k prefix ≡ true → starts_with nat_eq k prefix ≡ false
before_prefix [] [] e = absurd cc
before_prefix [] (x ∷ xs) e = absurd cc
before_prefix (y ∷ ys) [] e = refl
before_prefix (y ∷ ys) (x ∷ xs) e = elim (cases_eq y x) [
  | inl same ↦ starts_same x y xs ys same ∙ before_prefix ys xs (sym (cmp_same x y xs ys (sym same)) ∙ e)
  | inr other ↦ starts_other x y xs ys other
]

-- behind a key that does not begin with the prefix, and is not before it, no key does
pub behind_prefix : (prefix k m : List ℕ) → is_below k prefix ≡ false → starts_with nat_eq k prefix ≡ false → is_below k m ≡ true → starts_with nat_eq m prefix ≡ false
behind_prefix [] k m from other lt = absurd cc
behind_prefix (y ∷ ys) [] m from other lt = absurd cc
behind_prefix (y ∷ ys) (x ∷ xs) [] from other lt = absurd cc
behind_prefix (y ∷ ys) (x ∷ xs) (z ∷ zs) from other lt = elim (cases_lt x y) [
  | inl less ↦
      let e : is_below (x ∷ xs) (y ∷ ys) ≡ true = cmp_less x y xs ys less in
      absurd cc
  | inr le ↦ elim (cases_lt z x) [
    | inl less ↦
        let e : is_below (x ∷ xs) (z ∷ zs) ≡ false = cmp_more x z xs zs less in
        absurd cc
    | inr up ↦ elim (cases_eq y z) [
      | inl same ↦
          let x_is : x ≡ y = omega arith in
          let y_is : y ≡ x = sym x_is in
          let from_rest : is_below xs ys ≡ false = sym (cmp_same x y xs ys x_is) ∙ from in
          let other_rest : starts_with nat_eq xs ys ≡ false = sym (starts_same x y xs ys y_is) ∙ other in
          let lt_rest : is_below xs zs ≡ true = sym (cmp_same x z xs zs (x_is ∙ same)) ∙ lt in
          starts_same z y zs ys same ∙ behind_prefix ys xs zs from_rest other_rest lt_rest
      | inr different ↦ starts_other z y zs ys different
    ]
  ]
]

pub prefixed : (prefix : List ℕ) → IsRange prefix (λ k. starts_with nat_eq k prefix) (λ k. starts_with nat_eq k prefix)
prefixed prefix = record {
  out = λ k e. before_prefix prefix k e;
  same = λ k e. refl;
  shut = λ k m from end lt. behind_prefix prefix k m from end lt;
}
