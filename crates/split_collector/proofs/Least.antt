-- The least number of a page is the least that is left there.
use Rattle.std.proofs.Common.{◌≡◌, ◌⊎◌, inl, inr, ℕ, zero, suc, ◌+◌, ◌≤◌, ◌<◌, min, cond, Bool, true, false, List, [], ◌∷◌, refl, sym, ap, ◌∙◌, subst, arith, Option, Some, None, fold}
use Rattle.std.proofs.lemmas.Bool.{and_parts}
use Rattle.std.proofs.Math.Nat.{le_refl}
use Rattle.std.proofs.lemmas.Bool.Decides.{nat_tests}
use Rattle.std.proofs.lemmas.List.Elements.{All-contains, All-from_recursion}
use Rattle.std.specs.List.{AllByRecursion, reduce}
use Rattle.std.specs.Prelude.{Contains, IfSome, find, ◌&&◌, not, is_some, nat_lt}
use Rattle.meta_journal.specs.Places.{split_key}
use Rattle.meta_store.specs.History.{history, last_number}
use Rattle.meta_store.specs.Rows.{rows}
use Rattle.object_store.specs.Store.{is_behind}
use Rattle.split_states.specs.Rows.{row_at}
use Rattle.index_world.specs.Collecting.{IsSweepPage, is_left, is_past, is_swept}
use Rattle.index_world.specs.Core.{Core, file_at}
use Rattle.index_world.specs.declared.tokens.SweepPage.{SweepPage}
use Rattle.split_collector.specs.Steps.{least_left, numbers_from}

-- ---- the least of some numbers

least_le : (a : ℕ) (xs : List ℕ) → fold min a xs ≤ a
least_le a [] = le_refl a
least_le a (x ∷ xs) = let rest = least_le (min a x) xs in omega (arith, rest)

least_below : (a : ℕ) (xs : List ℕ) → AllByRecursion (λ n. fold min a xs ≤ n) xs
least_below a [] = tt
least_below a (x ∷ xs) = ((let rest = least_le (min a x) xs in omega (arith, rest)), least_below (min a x) xs)

min_among : (P : ℕ → Type 0) (a x : ℕ) → P a → P x → P (min a x)
min_among P a x one other = by (which a x)
  where
    which : (n m : ℕ) → (min n m ≡ n) ⊎ (min n m ≡ m)
    which n m = grind arith

    by : (min a x ≡ a) ⊎ (min a x ≡ x) → P (min a x)
    by (inl e) = subst P (sym e) one
    by (inr e) = subst P (sym e) other

least_among : (P : ℕ → Type 0) (a : ℕ) (xs : List ℕ) → P a → AllByRecursion P xs → P (fold min a xs)
least_among P a [] one all = one
least_among P a (x ∷ xs) one all = least_among P (min a x) xs (min_among P a x one all.0) all.1

-- ---- the first number that passes a test

pub found : (p : ℕ → Bool) (first count n : ℕ) → p n ≡ true → first ≤ n → n < first + count → ((m : ℕ) → p m ≡ true → n ≤ m) → find p (numbers_from first count) ≡ Some n
found p first zero n passes low high least = absurd (omega arith)
found p first (suc count) n passes low high least = by (p first) refl (λ above. found p (suc first) count n passes above (omega arith) least)
  where
    by : (b : Bool) → p first ≡ b → (suc first ≤ n → find p (numbers_from (suc first) count) ≡ Some n) → cond b (Some first) (find p (numbers_from (suc first) count)) ≡ Some n
    by true e rest = let le = least first e in ap (λ (m : ℕ). Some m) (omega (arith, le))
    by false e rest = rest (above (λ same. let wrong : true ≡ false = sym passes ∙ (ap p (sym same) ∙ e) in absurd (cc)))
      where
        above : (first ≡ n → ⊥) → suc first ≤ n
        above apart = omega (arith, apart)

pub none_found : (p : ℕ → Bool) (first count : ℕ) → ((m : ℕ) → p m ≡ true → ⊥) → find p (numbers_from first count) ≡ None
none_found p first zero none = refl
none_found p first (suc count) none = by (p first) refl (none_found p (suc first) count none)
  where
    by : (b : Bool) → p first ≡ b → find p (numbers_from (suc first) count) ≡ None → cond b (Some first) (find p (numbers_from (suc first) count)) ≡ None
    by true e rest = absurd (none first e)
    by false e rest = rest

-- ---- a page

-- what is left is to be swept
pub left_is_swept : (core : Core) (behind end : Option (List ℕ)) (n : ℕ) → is_left core behind end n ≡ true → is_swept core n ≡ true
left_is_swept core behind end n e = (and_parts (is_swept core n) (is_some (file_at core.files (split_key n)) && (is_behind behind (split_key n) && not (is_past end (split_key n)))) e).0

-- and was staged
pub in_range : (core : Core) (behind end : Option (List ℕ)) (n : ℕ) → is_left core behind end n ≡ true → (1 ≤ n) × (n < 1 + last_number (history core.history))
in_range core behind end n e =
    let last = last_number (history core.history) in
    let gone : Bool = not (is_some (row_at (rows (history core.history)) n)) in
    let swept = and_parts (nat_lt 0 n) (nat_lt n (last + 1) && gone) (left_is_swept core behind end n e) in
    let some : nat_lt 0 n ≡ true = swept.0 in
    let below : nat_lt n (last + 1) ≡ true = (and_parts (nat_lt n (last + 1)) gone swept.1).0 in
    (grind (arith, nat_tests), grind (arith, nat_tests))

-- the least number of a page is to be swept
pub least_is_swept : (behind : Option (List ℕ)) (page : SweepPage) (core : Core) → IsSweepPage behind page core → IfSome (reduce min page.numbers.items) (λ n. is_swept core n ≡ true)
least_is_swept behind page core s = by page.numbers.items s.only
  where
    by : (ns : List ℕ) → AllByRecursion (λ n. is_left core behind page.next n ≡ true) ns → IfSome (reduce min ns) (λ n. is_swept core n ≡ true)
    by [] only = tt
    by (n ∷ ns) only = left_is_swept core behind page.next (fold min n ns) (least_among (λ m. is_left core behind page.next m ≡ true) n ns only.0 only.1)

pub least_of_page : (behind : Option (List ℕ)) (page : SweepPage) (core : Core) → IsSweepPage behind page core → reduce min page.numbers.items ≡ least_left behind page.next core
least_of_page behind page core s = by page.numbers.items s.only s.all
  where
    by : (ns : List ℕ) → AllByRecursion (λ n. is_left core behind page.next n ≡ true) ns → ((n : ℕ) → is_left core behind page.next n ≡ true → Contains ns n) → reduce min ns ≡ find (is_left core behind page.next) (numbers_from 1 (last_number (history core.history)))
    by [] only all = sym (none_found (is_left core behind page.next) 1 (last_number (history core.history)) (λ m e. let none = all m e in omega (arith, none.1)))
    by (n ∷ ns) only all =
        let passes : is_left core behind page.next (fold min n ns) ≡ true = least_among (λ m. is_left core behind page.next m ≡ true) n ns only.0 only.1 in
        let range = in_range core behind page.next (fold min n ns) passes in
        let below : AllByRecursion (λ m. fold min n ns ≤ m) (n ∷ ns) = (least_le n ns, least_below n ns) in
        sym
        (found (is_left core behind page.next) 1 (last_number (history core.history)) (fold min n ns) passes range.0 range.1 (λ m e. All-contains (λ k. fold min n ns ≤ k) (n ∷ ns) m (All-from_recursion (λ k. fold min n ns ≤ k) (n ∷ ns) below) (all m e)))
