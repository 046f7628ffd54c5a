-- Names that wait, the greatest first.
use Rattle.std.proofs.Common.{◌≡◌, ◌⊎◌, ℕ, ◌+◌, ◌-◌, ◌<◌, ◌≤◌, Bool, false, Option, List, [], ◌∷◌, ◌++◌, length, get_or, take, refl, sym, ap, subst, ◌∙◌, inl, inr, arith, IsPermutation}
use Rattle.std.specs.Prelude.{Contains, IsSortedBy}
use Rattle.std.specs.Ordering.{nat_cmp, is_lt}
use Rattle.std.specs.Cmp.{IsStrictWeakOrder}
use Rattle.std.specs.Cmp.Lexicographic.{slice_cmp, nat_list_cmp_total}
use Rattle.std.proofs.lemmas.List.{length-append, get_or_append_left, get_or_default, get_or_push}
use Rattle.std.proofs.lemmas.List.Elements.{Contains-append_left, Contains-append_right, Contains-append_cases, Contains-push, Contains-push_cases}
use Rattle.std.proofs.lemmas.List.Sorted.{ranks_by, IsStrictWeakOrder-flip, sorted_far, Contains-permutation}
use Rattle.real_edge.specs.declared.waiting.Wait.{Wait}
use Rattle.real_edge.specs.Disk.{Files}
use Rattle.real_edge.specs.Waiting.{IsFirst, is_behind_key}
use Rattle.real_edge.specs.Walk.{Covers}

pub weak : IsStrictWeakOrder is_behind_key
weak = IsStrictWeakOrder-flip (λ (x y : Wait). is_lt (slice_cmp nat_cmp x.key y.key)) (ranks_by nat_list_cmp_total (λ (w : Wait). w.key))

-- what was added and what waited waits behind the sorting
pub sorted_found : (old found new : List Wait) → IsPermutation (old ++ found) new → (x : Wait) → Contains found x → Contains new x
sorted_found old found new p x h = Contains-permutation (old ++ found) new x p (Contains-append_right old found x h)

pub sorted_rest : (old found new : List Wait) → IsPermutation (old ++ found) new → (x : Wait) → Contains old x → Contains new x
sorted_rest old found new p x h = Contains-permutation (old ++ found) new x p (Contains-append_left old found x h)

-- the last of names in order is the first of all
pub last_first : (rest : List Wait) (w : Wait) → IsSortedBy is_behind_key (rest ++ w ∷ []) → IsFirst w.key rest
last_first rest w up x h =
    let len : length (rest ++ w ∷ []) ≡ length rest + 1 = length-append rest (w ∷ []) in
    let far : is_behind_key (get_or (rest ++ w ∷ []) (length rest) w) (get_or (rest ++ w ∷ []) h.0 w) ≡ false =
    sorted_far is_behind_key weak (rest ++ w ∷ []) up h.0 (length rest) w (omega (arith, h.1)) (omega (arith, len)) in
    let here : get_or (rest ++ w ∷ []) h.0 w ≡ x = get_or_append_left rest (w ∷ []) w h.0 h.1 ∙ get_or_default rest h.0 w x h.1 ∙ h.2 in
    let end : get_or (rest ++ w ∷ []) (length rest) w ≡ w = get_or_push rest w w (length rest) refl in
    subst (λ (y : Wait). is_behind_key w y ≡ false) here (subst (λ (y : Wait). is_behind_key y (get_or (rest ++ w ∷ []) h.0 w) ≡ false) end far)

pub order_kept : (rest : List Wait) (w : Wait) → IsSortedBy is_behind_key (rest ++ w ∷ []) → IsSortedBy is_behind_key rest
order_kept rest w up k d low high =
    let inside : k + 1 < length (rest ++ w ∷ []) = omega (arith, high, length-append rest (w ∷ [])) in
    let here : k < length rest = omega (arith, high) in
    subst (λ (x : Wait). is_behind_key x (get_or rest k d) ≡ false) (get_or_append_left rest (w ∷ []) d (k + 1) high)
    (subst (λ (x : Wait). is_behind_key (get_or (rest ++ w ∷ []) (k + 1) d) x ≡ false) (get_or_append_left rest (w ∷ []) d k here) (up k d low inside))

-- the first is taken, or another waits on
pub taken_or_waits : (rest : List Wait) (w x : Wait) → Contains (rest ++ w ∷ []) x → (x ≡ w) ⊎ Contains rest x
taken_or_waits rest w x h = elim (Contains-push_cases rest w x h) [ inl c ↦ inr c | inr e ↦ inl (sym e) ]

-- what was covered is covered by the one that is taken and the others
pub covers_popped : (prefix : List ℕ) (after : Option (List ℕ)) (ws new : List Wait) (n : Wait) (files : Files) → ((x : Wait) → Contains ws x → (x ≡ n) ⊎ Contains new x) → Covers prefix after ws files → Covers prefix after (n ∷ new) files
covers_popped prefix after ws new n files popped covers q is =
    let led = covers q is in
    (led.0, among led.0 (popped led.0 led.1), led.2)
  where
    among : (x : Wait) → (x ≡ n) ⊎ Contains new x → Contains (n ∷ new) x
    among x (inl e) = subst (λ (y : Wait). Contains (n ∷ new) y) (sym e) (Contains-append_left (n ∷ []) new n (Contains-push [] n))
    among x (inr c) = Contains-append_right (n ∷ []) new x c
