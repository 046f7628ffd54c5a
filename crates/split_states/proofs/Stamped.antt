-- Rows and their stamps: what a pass over the stamps finds is what stands in the rows.
use Rattle.std.proofs.Common.{◌≡◌, ℕ, zero, suc, ◌==◌, ◌+◌, ◌≤◌, ◌<◌, Bool, true, false, cond, not, List, [], ◌∷◌, length, map, get_or, drop, Result, Ok, Err, IfOk, MatchResult, refl, ap, sym, ◌∙◌, inl, inr, arith}
use Rattle.std.specs.Prelude.{slice_set, slice_index_or, filter, find, option_map, nat_le}
use Rattle.std.specs.Ordering.{nat_cmp, is_lt}
use Rattle.std.specs.Cmp.{nat_cmp_total}
use Rattle.std.specs.List.Sorted.{IsSearchInRange, IsBinarySearchResult, IsSortedBy}
use Rattle.std.proofs.lemmas.Bool.{le-leb, lt-leb, cases_Bool, cases_lt}
use Rattle.std.proofs.lemmas.List.{map-set, get_or-map, length-map}
use Rattle.std.proofs.lemmas.List.Sorted.{searchable_from_sorted}
use Rattle.split_states.specs.Answers.{Repeats}
use Rattle.split_states.specs.Rows.{Row, change, rising, row_numbers, without_each}
use Rattle.split_states.specs.Due.{stamp_of, stamp_number}
use Rattle.split_states.specs.declared.stamps.Stamp.{Stamp}
use Rattle.split_states.proofs.Rising.{Order, order_rest, at_least, not_less, equal_is, less_is, greater_is, left}

-- ---- a change of one row

pub stamped : (rows : List Row) (stamps : List Stamp) (i n : ℕ) (f : Row → Row) (d : Row) → stamps ≡ map stamp_of rows → change n f rows ≡ slice_set rows i (f (slice_index_or rows i d)) →
    slice_set stamps i (stamp_of (f (slice_index_or rows i d))) ≡ map stamp_of (change n f rows)
stamped rows stamps i n f d same changed =
    ap (λ (l : List Stamp). slice_set l i (stamp_of (f (slice_index_or rows i d)))) same
    ∙ sym (map-set stamp_of rows i (f (slice_index_or rows i d)))
    ∙ sym (ap (λ (l : List Row). map stamp_of l) changed)

pub stamps_stay : (n : ℕ) (f : Row → Row) (rows : List Row) → ((row : Row) → stamp_of (f row) ≡ stamp_of row) → map stamp_of (change n f rows) ≡ map stamp_of rows
stamps_stay n f [] keeps = refl
stamps_stay n f (r ∷ rows) keeps =
    elim (r.number == n) as (λ (b : Bool). map stamp_of (cond b (f r ∷ rows) (r ∷ change n f rows)) ≡ map stamp_of (r ∷ rows)) [
      | true ↦ ap (λ (s : Stamp). s ∷ map stamp_of rows) (keeps r)
      | false ↦ ap (λ (l : List Stamp). stamp_of r ∷ l) (stamps_stay n f rows keeps)
    ]

-- ---- passes

pub filter_stamped : (p : Stamp → Bool) (rows : List Row) → filter p (map stamp_of rows) ≡ map stamp_of (filter (λ row. p (stamp_of row)) rows)
filter_stamped p [] = refl
filter_stamped p (r ∷ rows) =
    let rest = filter_stamped p rows in
    elim (cases_Bool (p (stamp_of r))) [
      | inl so ↦ rw so (ap (λ (l : List Stamp). stamp_of r ∷ l) rest)
      | inr none ↦ rw none rest
    ]

pub numbers_stamped : (rows : List Row) → map stamp_number (map stamp_of rows) ≡ row_numbers rows
numbers_stamped [] = refl
numbers_stamped (r ∷ rows) = ap (λ (l : List ℕ). r.number ∷ l) (numbers_stamped rows)

pub find_stamped : (p : Stamp → Bool) (rows : List Row) → option_map stamp_number (find p (map stamp_of rows)) ≡ option_map (λ (row : Row). row.number) (find (λ row. p (stamp_of row)) rows)
find_stamped p [] = refl
find_stamped p (r ∷ rows) =
    let rest = find_stamped p rows in
    elim (cases_Bool (p (stamp_of r))) [
      | inl so ↦ rw so refl
      | inr none ↦ rw none rest
    ]

-- the numbers of those that pass
pub passing : (p : Stamp → Bool) (rows : List Row) → map stamp_number (filter p (map stamp_of rows)) ≡ row_numbers (filter (λ row. p (stamp_of row)) rows)
passing p rows = ap (λ (l : List Stamp). map stamp_number l) (filter_stamped p rows) ∙ numbers_stamped (filter (λ row. p (stamp_of row)) rows)

-- the first one from a number on
pub first_passing : (from : ℕ) (p : Stamp → Bool) (rows : List Row) → option_map stamp_number (find p (filter (λ s. nat_le from s.number) (map stamp_of rows)))
    ≡ option_map (λ (row : Row). row.number) (find (λ row. p (stamp_of row)) (filter (λ row. nat_le from row.number) rows))
first_passing from p rows =
    ap (λ (l : List Stamp). option_map stamp_number (find p l)) (filter_stamped (λ s. nat_le from s.number) rows)
    ∙ find_stamped p (filter (λ row. nat_le from row.number) rows)

-- ---- removal

pub left_stamped : (numbers : List ℕ) (rows : List Row) → filter (λ (s : Stamp). not (Repeats numbers s.number)) (map stamp_of rows) ≡ map stamp_of (without_each numbers rows)
left_stamped numbers rows =
    filter_stamped (λ (s : Stamp). not (Repeats numbers s.number)) rows
    ∙ ap (λ (l : List Row). map stamp_of l) (left numbers rows)

-- ---- from a number on, by halves

places_apart : (least : ℕ) (numbers : List ℕ) (i k d : ℕ) → Order least numbers → i < k → k < length numbers → get_or numbers i d < get_or numbers k d
places_apart least [] i k d h lt high = absurd (omega arith)
places_apart least (n ∷ numbers) i zero d h lt high = absurd (omega arith)
places_apart least (n ∷ numbers) zero (suc k) d h lt high =
    let p = order_rest least n numbers h in
    let far = at_least (n + 1) numbers k d p.1 (omega arith) in
    omega arith
places_apart least (n ∷ numbers) (suc i) (suc k) d h lt high =
    let p = order_rest least n numbers h in
    places_apart (n + 1) numbers i k d p.1 (omega arith) (omega arith)

stamps_apart : (stamps : List Stamp) (i k : ℕ) (d : Stamp) → rising (map stamp_number stamps) ≡ true → i < k → k < length stamps → (get_or stamps i d).number < (get_or stamps k d).number
stamps_apart stamps i k d h lt high =
    let one = get_or-map stamp_number stamps i d 0 (omega arith) in
    let other = get_or-map stamp_number stamps k d 0 high in
    let long : length (map stamp_number stamps) ≡ length stamps = length-map stamps stamp_number in
    let apart = places_apart 0 (map stamp_number stamps) i k 0 h lt (omega (arith, long, high)) in
    omega (arith, one, other, apart)

stamps_sorted : (stamps : List Stamp) → rising (map stamp_number stamps) ≡ true → IsSortedBy (λ (a b : Stamp). is_lt (nat_cmp a.number b.number)) stamps
stamps_sorted stamps h = λ k d low high.
    not_less (get_or stamps (k + 1) d).number (get_or stamps k d).number (let up = stamps_apart stamps k (k + 1) d h (omega arith) high in omega (arith, up))

behind : (stamps : List Stamp) (from place : ℕ) → ((k : ℕ) (d : Stamp) → k < length stamps → k < place → (get_or stamps k d).number < from) →
    ((k : ℕ) (d : Stamp) → place ≤ k → k < length stamps → from ≤ (get_or stamps k d).number) → drop place stamps ≡ filter (λ s. nat_le from s.number) stamps
behind [] from zero below above = refl
behind [] from (suc place) below above = refl
behind (s ∷ stamps) from zero below above =
    let first : from ≤ s.number = above 0 s (omega arith) (omega arith) in
    let here : nat_le from s.number ≡ true = le-leb from s.number first in
    rw here (ap (λ (l : List Stamp). s ∷ l) (behind stamps from zero (λ k d lt low. absurd (omega arith)) (λ k d low lt. above (suc k) d (omega arith) (omega arith))))
behind (s ∷ stamps) from (suc place) below above =
    let first : s.number < from = below 0 s (omega arith) (omega arith) in
    let here : nat_le from s.number ≡ false = lt-leb from s.number first in
    rw here (behind stamps from place (λ k d lt low. below (suc k) d (omega arith) (omega arith)) (λ k d low lt. above (suc k) d (omega arith) (omega arith)))

pub from_halves : (from : ℕ) (stamps : List Stamp) (r : Result ℕ ℕ) → rising (map stamp_number stamps) ≡ true → IsSearchInRange r (length stamps) →
    IsBinarySearchResult (λ (s : Stamp). nat_cmp s.number from) stamps r →
    MatchResult r (λ i. drop i stamps ≡ filter (λ s. nat_le from s.number) stamps) (λ i. drop i stamps ≡ filter (λ s. nat_le from s.number) stamps)
from_halves from stamps (Ok i) h within equal =
    behind stamps from i
    (λ k d lt low.
    let same = equal_is (get_or stamps i d).number from (equal d) in
    let apart = stamps_apart stamps k i d h low within in
    omega (arith, same, apart))
    (λ k d low lt.
    let same = equal_is (get_or stamps i d).number from (equal d) in
    elim (cases_lt i k) [
      | inl less ↦ let apart = stamps_apart stamps i k d h less lt in omega (arith, same, apart)
      | inr most ↦ let one : i ≡ k = omega (arith, low, most) in let at : (get_or stamps i d).number ≡ (get_or stamps k d).number = ap (λ (j : ℕ). (get_or stamps j d).number) one in omega (arith, same, at)
    ])
from_halves from stamps (Err at) h within parted =
    let both = parted (searchable_from_sorted nat_cmp_total (λ (s : Stamp). s.number) stamps from (stamps_sorted stamps h)) in
    behind stamps from at
    (λ k d lt low. less_is (get_or stamps k d).number from (both.0 k d (omega arith) low))
    (λ k d low lt. let above = greater_is (get_or stamps k d).number from (both.1 k d low lt) in omega (arith, above))

pub if_ok : {T E : Type 0} (r : Result T E) (P Q : T → Type 0) → ((x : T) → P x → Q x) → IfOk r P → IfOk r Q
if_ok (Ok x) P Q f h = f x h
if_ok (Err e) P Q f h = h
