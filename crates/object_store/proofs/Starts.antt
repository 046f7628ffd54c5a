-- What stands before the place where a list begins.
use Rattle.std.proofs.Common.{◌≡◌, ℕ, zero, suc, ◌+◌, ◌-◌, ◌<◌, max, Bool, true, false, ◌&&◌, List, [], ◌∷◌, ◌++◌, length, take, drop, map, filter, All, Option, Some, refl, sym, ap, subst, ◌∙◌, arith, add-one, inl, inr}
use Rattle.std.specs.Prelude.{nat_eq}
use Rattle.std.specs.List.{starts_with}
use Rattle.std.specs.declared.cmp.Ordering.{Ordering}
use Rattle.std.specs.declared.cmp.Ordering.TheVariants.{Less, Equal, Greater}
use Rattle.std.specs.Ordering.{nat_cmp, is_lt, ordering_then}
use Rattle.std.specs.Cmp.{tied_itself, nat_cmp_total}
use Rattle.std.specs.Cmp.Lexicographic.{slice_cmp}
use Rattle.std.specs.FinMap.Entries.{by_order}
use Rattle.std.proofs.lemmas.Bool.{eqb-true, and_left, and_right, cases_lt}
use Rattle.std.proofs.lemmas.List.{take-append-drop, map-append, length-drop, take_all}
use Rattle.std.proofs.lemmas.List.Elements.{All-nil, All-cons, All-head, All-tail, All-weaker, filter-append}
use Rattle.object_store.specs.declared.objects.Object.{Object}
use Rattle.object_store.specs.Entries.{entry, entries, rank_of, AllBelow, IsInOrder, IsPlaceOf}
use Rattle.object_store.specs.Store.{is_behind, is_wanted}
use Rattle.object_store.proofs.Entries.{keys_of}
use Rattle.object_store.proofs.Positions.{turned_round, rest_in_order, first_below}

abbrev IsBelow : List ℕ → Object → Type 0
IsBelow key o = slice_cmp nat_cmp o.key key ≡ Less

-- ---- the keys before a place

pub below_place : (key : List ℕ) (os : List Object) (at : ℕ) → IsInOrder os → IsPlaceOf key os at → AllBelow key (take at os)
below_place key [] at h is = absurd (omega (arith, is.within))
below_place key (o ∷ os) zero h is = All-nil (IsBelow key)
below_place key (o ∷ os) (suc at) h is =
    let within : at < length os = omega (arith, is.within) in
    All-cons (IsBelow key) o (take at os) (subst (λ k. slice_cmp nat_cmp o.key k ≡ Less) (is.key_is o) (first_below o os at o h within))
    (below_place key os at (rest_in_order o os h) (record { within = within; key_is = is.key_is }))

pub below_rank : (key : List ℕ) (os : List Object) → AllBelow key (take (rank_of key (entries os)) os)
below_rank key [] = All-nil (IsBelow key)
below_rank key (o ∷ os) =
    elim (slice_cmp nat_cmp key o.key) as (λ r. slice_cmp nat_cmp key o.key ≡ r → AllBelow key (take (by_order r 0 0 (rank_of key (entries os) + 1)) (o ∷ os))) [
      | Less ↦ λ e. All-nil (IsBelow key)
      | Equal ↦ λ e. All-nil (IsBelow key)
      | Greater ↦ λ e. rw add-one (All-cons (IsBelow key) o (take (rank_of key (entries os)) os) (turned_round key o.key Greater e) (below_rank key os))
    ] refl

-- ---- none of them is wanted

below_no_prefix : (key prefix : List ℕ) → slice_cmp nat_cmp key prefix ≡ Less → starts_with nat_eq key prefix ≡ false
below_no_prefix [] [] less = absurd cc
below_no_prefix (x ∷ xs) [] less = absurd cc
below_no_prefix [] (y ∷ ys) less = refl
below_no_prefix (x ∷ xs) (y ∷ ys) less =
    elim (nat_eq y x) as (λ b. nat_eq y x ≡ b → (b && starts_with nat_eq xs ys) ≡ false) [
      | true ↦ λ same.
          let tie : nat_cmp x y ≡ Equal = ap (nat_cmp x) (eqb-true y x same) ∙ tied_itself nat_cmp_total x in
          below_no_prefix xs ys (sym (ap (λ (r : Ordering). ordering_then r (slice_cmp nat_cmp xs ys)) tie) ∙ less)
      | false ↦ λ other. refl
    ] refl

none_kept : (p : List ℕ → Bool) (os : List Object) → All (λ o. p o.key ≡ false) os → filter p (keys_of os) ≡ []
none_kept p [] none = refl
none_kept p (o ∷ os) none = rw (All-head (λ (x : Object). p x.key ≡ false) o os none) (none_kept p os (All-tail (λ (x : Object). p x.key ≡ false) o os none))

pub none_before_prefix : (prefix : List ℕ) (after : Option (List ℕ)) (os : List Object) → AllBelow prefix os → filter (is_wanted prefix after) (keys_of os) ≡ []
none_before_prefix prefix after os below =
    none_kept (is_wanted prefix after) os
    (All-weaker (IsBelow prefix) (λ o. is_wanted prefix after o.key ≡ false) (λ o less. and_left (starts_with nat_eq o.key prefix) (is_behind after o.key) (below_no_prefix o.key prefix less)) os below)

pub none_before_after : (prefix after : List ℕ) (os : List Object) → AllBelow after os → filter (is_wanted prefix (Some after)) (keys_of os) ≡ []
none_before_after prefix after os below =
    none_kept (is_wanted prefix (Some after)) os
    (All-weaker (IsBelow after) (λ o. is_wanted prefix (Some after) o.key ≡ false)
    (λ o less. and_right (starts_with nat_eq o.key prefix) (is_behind (Some after) o.key) (ap is_lt (turned_round o.key after Less less))) os below)

pub at_greater : (P : ℕ → Type 0) (a b : ℕ) → P a → P b → P (max a b)
at_greater P a b pa pb = elim (cases_lt a b) [
  | inl less ↦ let is : b ≡ max a b = omega arith in subst P is pb
  | inr more ↦ let is : a ≡ max a b = omega arith in subst P is pa
]

-- ---- so a list may begin there

pub listed_from : (p : List ℕ → Bool) (os : List Object) (start : ℕ) → filter p (keys_of (take start os)) ≡ [] → filter p (keys_of (drop start os)) ≡ filter p (keys_of os)
listed_from p os start none =
    let parts : keys_of os ≡ keys_of (take start os) ++ keys_of (drop start os) =
    ap keys_of (sym (take-append-drop start os)) ∙ ap (map (λ (e : List ℕ × List ℕ). e.0)) (map-append entry (take start os) (drop start os))
    ∙ map-append (λ (e : List ℕ × List ℕ). e.0) (entries (take start os)) (entries (drop start os)) in
    sym (ap (filter p) parts ∙ filter-append p (keys_of (take start os)) (keys_of (drop start os)) ∙ ap (λ (l : List (List ℕ)). l ++ filter p (keys_of (drop start os))) none)

pub to_end : (os : List Object) (start : ℕ) → take (length os - start) (drop start os) ≡ drop start os
to_end os start = take_all (length os - start) (drop start os) (omega (arith, length-drop start os))
