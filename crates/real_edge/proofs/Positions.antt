-- What a binary search finds among objects in order, and what is done at that place.
use Rattle.std.proofs.Common.{◌≡◌, ◌≢◌, ℕ, zero, suc, ◌+◌, ◌≤◌, ◌<◌, Bool, true, false, cond, ◌&&◌, List, [], ◌∷◌, length, get_or, Some, None, Result, Ok, Err, IfOk, IfErr, refl, sym, ap, subst, ◌∙◌, arith, not}
use Rattle.std.specs.Prelude.{remove}
use Rattle.std.specs.declared.cmp.Ordering.{Ordering}
use Rattle.std.specs.declared.cmp.Ordering.TheVariants.{Less, Equal, Greater}
use Rattle.std.specs.Ordering.{nat_cmp, eq_by_cmp, is_eq, is_lt, ordering_reverse}
use Rattle.std.specs.Cmp.Lexicographic.{slice_cmp, nat_list_cmp_total}
use Rattle.std.specs.List.Sorted.{IsSearchInRange, IsBinarySearchResult, IsSortedBy}
use Rattle.std.specs.FinMap.Entries.{below_all, by_order}
use Rattle.std.proofs.lemmas.List.Sorted.{searchable_from_sorted}
use Rattle.real_edge.specs.declared.shelf_files.Object.{Object}
use Rattle.real_edge.specs.Entries.{entry, entries, IsInOrder, found, removed, rank_of, IsPlaceOf, IsGapOf}
use Rattle.real_edge.proofs.Entries.{ties_itself, same_from_tie, not_tied, found_here, found_later}

abbrev order : List ℕ → List ℕ → Ordering
order a b = slice_cmp nat_cmp a b

left_of : (a b : Bool) → (a && b) ≡ true → a ≡ true
left_of true b e = refl
left_of false b e = absurd cc

right_of : (a b : Bool) → (a && b) ≡ true → b ≡ true
right_of true b e = e
right_of false b e = absurd cc

less_is : (r : Ordering) → is_lt r ≡ true → r ≡ Less
less_is Less e = refl
less_is Equal e = absurd cc
less_is Greater e = absurd cc

pub turned_round : (a b : List ℕ) (r : Ordering) → order a b ≡ r → order b a ≡ ordering_reverse r
turned_round a b r e = nat_list_cmp_total.antisymm b a ∙ ap ordering_reverse e

pub rest_in_order : (o : Object) (os : List Object) → IsInOrder (o ∷ os) → IsInOrder os
rest_in_order o os h = right_of _ _ h

-- a key below all of them is below each
below_at : (key : List ℕ) (os : List Object) (i : ℕ) (d : Object) → below_all (slice_cmp nat_cmp) key (entries os) ≡ true → i < length os → order key (get_or os i d).key ≡ Less
below_at key [] i d h lt = absurd (omega arith)
below_at key (o ∷ os) zero d h lt = less_is _ (left_of _ _ h)
below_at key (o ∷ os) (suc i) d h lt = below_at key os i d (right_of _ _ h) (omega arith)

pub first_below : (o : Object) (os : List Object) (i : ℕ) (d : Object) → IsInOrder (o ∷ os) → i < length os → order o.key (get_or os i d).key ≡ Less
first_below o os i d h lt = below_at o.key os i d (left_of _ _ h) lt

next_above : (os : List Object) (k : ℕ) (d : Object) → IsInOrder os → k + 1 < length os → is_lt (order (get_or os (k + 1) d).key (get_or os k d).key) ≡ false
next_above [] k d h lt = absurd (omega arith)
next_above (o ∷ os) zero d h lt = ap is_lt (turned_round o.key (get_or os 0 d).key Less (first_below o os 0 d h (omega arith)))
next_above (o ∷ os) (suc k) d h lt =
    let same : suc (k + 1) ≡ suc k + 1 = omega arith in
    subst (λ (n : ℕ). is_lt (order (get_or (o ∷ os) n d).key (get_or os k d).key) ≡ false) same (next_above os k d (rest_in_order o os h) (omega arith))

rises : (os : List Object) → IsInOrder os → IsSortedBy (λ (a b : Object). is_lt (order a.key b.key)) os
rises os h = λ k d low high. next_above os k d h high

-- ---- where the key stands

pub found_at : (key : List ℕ) (os : List Object) (i : ℕ) (d : Object) → IsInOrder os → i < length os → (get_or os i d).key ≡ key → found key (entries os) ≡ Some (get_or os i d).content
found_at key [] i d h lt is = absurd (omega arith)
found_at key (o ∷ os) zero d h lt is = found_here key o os is
found_at key (o ∷ os) (suc i) d h lt is =
    found_later key o os (λ same. let tie : order o.key (get_or os i d).key ≡ Equal = ap (order o.key) (is ∙ sym same) ∙ ties_itself o.key in let less = first_below o os i d h (omega arith) in cc)
    ∙ found_at key os i d (rest_in_order o os h) (omega arith) is

others_stay : (key : List ℕ) (os : List Object) → found key (entries os) ≡ None → removed key (entries os) ≡ entries os
others_stay key [] none = refl
others_stay key (o ∷ os) none =
    elim (eq_by_cmp (slice_cmp nat_cmp) key o.key) as (λ b. cond b (Some o.content) (found key (entries os)) ≡ None → cond (not b) (entry o ∷ removed key (entries os)) (removed key (entries os)) ≡ entry o ∷ entries os) [
      | true ↦ λ none. absurd cc
      | false ↦ λ none. ap (λ (l : List (List ℕ × List ℕ)). entry o ∷ l) (others_stay key os none)
    ] none

pub removed_absent : (key : List ℕ) (os : List Object) → found key (entries os) ≡ None → entries os ≡ removed key (entries os)
removed_absent key os none = sym (others_stay key os none)

none_below : (key : List ℕ) (os : List Object) → below_all (slice_cmp nat_cmp) key (entries os) ≡ true → found key (entries os) ≡ None
none_below key [] h = refl
none_below key (o ∷ os) h =
    let less : order key o.key ≡ Less = less_is _ (left_of _ _ h) in
    found_later key o os (λ same. let tie : order key o.key ≡ Equal = ap (order key) same ∙ ties_itself key in cc) ∙ none_below key os (right_of _ _ h)

pub removed_at : (key : List ℕ) (os : List Object) (i : ℕ) (d : Object) → IsInOrder os → i < length os → (get_or os i d).key ≡ key → entries (remove os i) ≡ removed key (entries os)
removed_at key [] i d h lt is = absurd (omega arith)
removed_at key (o ∷ os) zero d h lt is =
    let tie : eq_by_cmp (slice_cmp nat_cmp) key o.key ≡ true = ap (λ (k : List ℕ). eq_by_cmp (slice_cmp nat_cmp) key k) is ∙ ap is_eq (ties_itself key) in
    let below : below_all (slice_cmp nat_cmp) key (entries os) ≡ true = ap (λ (k : List ℕ). below_all (slice_cmp nat_cmp) k (entries os)) (sym is) ∙ left_of _ _ h in
    removed_absent key os (none_below key os below) ∙ sym (ap (λ (b : Bool). cond (not b) (entry o ∷ removed key (entries os)) (removed key (entries os))) tie)
removed_at key (o ∷ os) (suc i) d h lt is =
    let less : order o.key (get_or os i d).key ≡ Less = first_below o os i d h (omega arith) in
    let apart : key ≢ o.key = λ same. let tie : order o.key (get_or os i d).key ≡ Equal = ap (order o.key) (is ∙ same) ∙ ties_itself o.key in cc in
    ap (λ (l : List (List ℕ × List ℕ)). entry o ∷ l) (removed_at key os i d (rest_in_order o os h) (omega arith) is)
    ∙ sym (ap (λ (b : Bool). cond (not b) (entry o ∷ removed key (entries os)) (removed key (entries os))) (not_tied key o.key apart))

-- ---- where it would go

pub record Parts (key : List ℕ) (os : List Object) (at : ℕ) : Type 0 where
  pub less : (k : ℕ) (d : Object) → k < at → order (get_or os k d).key key ≡ Less
  pub greater : (k : ℕ) (d : Object) → at ≤ k → k < length os → order (get_or os k d).key key ≡ Greater

rest_parts_less : (key : List ℕ) (o : Object) (os : List Object) (at : ℕ) → Parts key (o ∷ os) (suc at) → Parts key os at
rest_parts_less key o os at p = record {
  less = λ k d lt. p.less (suc k) d (omega (arith, lt));
  greater = λ k d le lt. p.greater (suc k) d (omega (arith, le)) (omega (arith, lt));
}

rest_parts_greater : (key : List ℕ) (o : Object) (os : List Object) → Parts key (o ∷ os) 0 → Parts key os 0
rest_parts_greater key o os p = record {
  less = λ k d lt. absurd (omega (arith, lt));
  greater = λ k d le lt. p.greater (suc k) d (omega arith) (omega (arith, lt));
}

apart_from : (a b : List ℕ) (r : Ordering) → order a b ≡ r → r ≢ Equal → a ≢ b
apart_from a b r e ne same = ne (sym e ∙ ap (order a) (sym same) ∙ ties_itself a)

pub absent_in : (key : List ℕ) (os : List Object) (at : ℕ) → at ≤ length os → Parts key os at → found key (entries os) ≡ None
absent_in key [] at le p = refl
absent_in key (o ∷ os) zero le p =
    found_later key o os (apart_from o.key key Greater (p.greater 0 o (omega arith) (omega arith)) (λ e. cc)) ∙ absent_in key os 0 (omega arith) (rest_parts_greater key o os p)
absent_in key (o ∷ os) (suc at) le p =
    found_later key o os (apart_from o.key key Less (p.less 0 o (omega arith)) (λ e. cc)) ∙ absent_in key os at (omega arith) (rest_parts_less key o os at p)

pub rank_in : (key : List ℕ) (os : List Object) (at : ℕ) → at ≤ length os → Parts key os at → at ≡ rank_of key (entries os)
rank_in key [] at le p = omega arith
rank_in key (o ∷ os) zero le p =
    sym (ap (λ (r : Ordering). by_order r 0 0 (rank_of key (entries os) + 1)) (turned_round o.key key Greater (p.greater 0 o (omega arith) (omega arith))))
rank_in key (o ∷ os) (suc at) le p =
    let more : suc at ≡ rank_of key (entries os) + 1 = omega (arith, rank_in key os at (omega arith) (rest_parts_less key o os at p)) in
    more ∙ sym (ap (λ (r : Ordering). by_order r 0 0 (rank_of key (entries os) + 1)) (turned_round o.key key Less (p.less 0 o (omega arith))))

-- ---- what the search says

pub search_ok : (key : List ℕ) (os : List Object) (r : Result ℕ ℕ) → IsSearchInRange r (length os) → IsBinarySearchResult (λ (o : Object). order o.key key) os r → IfOk r (IsPlaceOf key os)
search_ok key os (Ok at) within equal = record { within = within; key_is = λ d. same_from_tie (get_or os at d).key key (equal d) }
search_ok key os (Err at) within parted = tt

pub search_err : (key : List ℕ) (os : List Object) (r : Result ℕ ℕ) → IsInOrder os → IsSearchInRange r (length os) → IsBinarySearchResult (λ (o : Object). order o.key key) os r → IfErr r (IsGapOf key os)
search_err key os (Ok at) h within equal = tt
search_err key os (Err at) h within parted =
    let p = parted (searchable_from_sorted nat_list_cmp_total (λ (o : Object). o.key) os key (rises os h)) in
    let parts : Parts key os at = record { less = λ k d lt. p.0 k d (omega arith) lt; greater = λ k d le lt. p.1 k d le lt } in
    record { absent = absent_in key os at within parts; rank_is = rank_in key os at within parts; within = within }
