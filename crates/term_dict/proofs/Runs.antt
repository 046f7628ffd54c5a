-- Terms by rising keys: what stands at a key, and the run of the terms from a key on.
use Rattle.std.proofs.Common.{◌≡◌, ℕ, zero, suc, Bool, true, false, cond, List, [], ◌∷◌, ◌++◌, take, drop, Option, Some, None, refl, ap, subst}
use Rattle.std.specs.Prelude.{slice_get}
use Rattle.std.specs.List.{AllByRecursion}
use Rattle.std.specs.Ordering.{is_eq}
use Rattle.term_dict.specs.Keys.{order, is_below}
use Rattle.term_dict.specs.Terms.{IsRising, lookup, from_key}
use Rattle.term_dict.specs.declared.term.Term.{Term}
use Rattle.term_dict.specs.declared.term.TermInfo.{TermInfo}
use Rattle.term_dict.proofs.Orders.{below_then, at_most_below, below_at_most, below_not, below_not_same, above_not_same}

abbrev pub AreBelow : List ℕ → List Term → Type 0
AreBelow key ts = AllByRecursion (λ t. is_below t.key key ≡ true) ts

abbrev pub AreAbove : List ℕ → List Term → Type 0
AreAbove key ts = AllByRecursion (λ t. is_below key t.key ≡ true) ts

-- what is behind a term is above what the term is above
pub above_then : (a : List ℕ) (t : Term) (ts : List Term) → is_below a t.key ≡ true → AreAbove t.key ts → AreAbove a ts
above_then a t [] p q = tt
above_then a t (u ∷ us) p q = (below_then a t.key u.key p q.0, above_then a t us p q.1)

pub above_at_most : (a : List ℕ) (t : Term) (ts : List Term) → is_below t.key a ≡ false → AreAbove t.key ts → AreAbove a ts
above_at_most a t [] p q = tt
above_at_most a t (u ∷ us) p q = (at_most_below a t.key u.key p q.0, above_at_most a t us p q.1)

-- ---- what stands at a key

pub lookup_behind : (key : List ℕ) (xs ys : List Term) → AreBelow key xs → lookup key (xs ++ ys) ≡ lookup key ys
lookup_behind key [] ys h = refl
lookup_behind key (x ∷ xs) ys h = rw (below_not_same x.key key h.0) (lookup_behind key xs ys h.1)

pub lookup_none : (key : List ℕ) (ys : List Term) → AreAbove key ys → lookup key ys ≡ None
lookup_none key [] h = refl
lookup_none key (y ∷ ys) h = rw (above_not_same y.key key h.0) (lookup_none key ys h.1)

pub lookup_front : (key : List ℕ) (xs ys : List Term) → AreAbove key ys → lookup key (xs ++ ys) ≡ lookup key xs
lookup_front key [] ys h = lookup_none key ys h
lookup_front key (x ∷ xs) ys h = ap (λ (o : Option TermInfo). cond (is_eq (order x.key key)) (Some x.info) o) (lookup_front key xs ys h)

-- what stands at the front of a run
abbrev pub front_at : List ℕ → List Term → Option TermInfo
front_at key [] = None
front_at key (t ∷ ts) = cond (is_eq (order t.key key)) (Some t.info) None

front_cases : (key : List ℕ) (t : Term) (ts : List Term) (b : Bool) → is_below t.key key ≡ b → AreAbove t.key ts → lookup key ts ≡ front_at key (from_key key ts)
    → lookup key (t ∷ ts) ≡ front_at key (cond b (from_key key ts) (t ∷ ts))
front_cases key t ts true e above more = rw (below_not_same t.key key e) more
front_cases key t ts false e above more = ap (λ (o : Option TermInfo). cond (is_eq (order t.key key)) (Some t.info) o) (lookup_none key ts (above_at_most key t ts e above))

pub lookup_first : (key : List ℕ) (ts : List Term) → IsRising ts → lookup key ts ≡ front_at key (from_key key ts)
lookup_first key [] h = refl
lookup_first key (t ∷ ts) h = front_cases key t ts (is_below t.key key) refl h.0 (lookup_first key ts h.1)

-- ---- the terms from a key on

pub from_key_behind : (low : List ℕ) (xs ys : List Term) → AreBelow low xs → from_key low (xs ++ ys) ≡ from_key low ys
from_key_behind low [] ys h = refl
from_key_behind low (x ∷ xs) ys h = rw h.0 (from_key_behind low xs ys h.1)

pub from_key_all : (low : List ℕ) (ys : List Term) → AreAbove low ys → from_key low ys ≡ ys
from_key_all low [] h = refl
from_key_all low (y ∷ ys) h = rw (below_not low y.key h.0) refl

from_cases : (low : List ℕ) (x : Term) (xs ys : List Term) (b : Bool) → from_key low (xs ++ ys) ≡ from_key low xs ++ ys
    → cond b (from_key low (xs ++ ys)) (x ∷ (xs ++ ys)) ≡ cond b (from_key low xs) (x ∷ xs) ++ ys
from_cases low x xs ys true e = e
from_cases low x xs ys false e = refl

pub from_key_front : (low : List ℕ) (xs ys : List Term) → AreAbove low ys → from_key low (xs ++ ys) ≡ from_key low xs ++ ys
from_key_front low [] ys h = from_key_all low ys h
from_key_front low (x ∷ xs) ys h = from_cases low x xs ys (is_below x.key low) (from_key_front low xs ys h)

-- ---- the terms before and behind a place

all_at : (a : List ℕ) (ts : List Term) (n : ℕ) (t : Term) → AreAbove a ts → slice_get ts n ≡ Some t → is_below a t.key ≡ true
all_at a [] n t h e = absurd cc
all_at a (x ∷ xs) zero t h e =
    let same : x ≡ t = cc in
    subst (λ (y : Term). is_below a y.key ≡ true) same h.0
all_at a (x ∷ xs) (suc n) t h e = all_at a xs n t h.1 e

pub take_below : (key : List ℕ) (ts : List Term) (n : ℕ) (t : Term) → IsRising ts → slice_get ts n ≡ Some t → is_below key t.key ≡ false → AreBelow key (take n ts)
take_below key [] n t h e p = absurd cc
take_below key (x ∷ xs) zero t h e p = tt
take_below key (x ∷ xs) (suc n) t h e p = (below_at_most x.key t.key key (all_at x.key xs n t h.0 e) p, take_below key xs n t h.1 e p)

pub drop_above : (key : List ℕ) (ts : List Term) (n : ℕ) (t : Term) → IsRising ts → slice_get ts n ≡ Some t → is_below key t.key ≡ true → AreAbove key (drop n ts)
drop_above key [] n t h e p = absurd cc
drop_above key (x ∷ xs) zero t h e p =
    let same : t ≡ x = cc in
    let here : is_below key x.key ≡ true = subst (λ (y : Term). is_below key y.key ≡ true) same p in
    (here, above_then key x xs here h.0)
drop_above key (x ∷ xs) (suc n) t h e p = drop_above key xs n t h.1 e p

-- a part of rising terms rises
pub drop_rising : (n : ℕ) (ts : List Term) → IsRising ts → IsRising (drop n ts)
drop_rising zero ts h = h
drop_rising (suc n) [] h = tt
drop_rising (suc n) (t ∷ ts) h = drop_rising n ts h.1

take_above : (a : List ℕ) (n : ℕ) (ts : List Term) → AreAbove a ts → AreAbove a (take n ts)
take_above a zero ts h = tt
take_above a (suc n) [] h = tt
take_above a (suc n) (t ∷ ts) h = (h.0, take_above a n ts h.1)

pub take_rising : (n : ℕ) (ts : List Term) → IsRising ts → IsRising (take n ts)
take_rising zero ts h = tt
take_rising (suc n) [] h = tt
take_rising (suc n) (t ∷ ts) h = (take_above t.key n ts h.0, take_rising n ts h.1)
