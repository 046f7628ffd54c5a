-- Numbers that rise: a search by halves finds a number's row, or that there is none, and each change keeps the order.
use Rattle.std.proofs.Common.{◌≡◌, ℕ, zero, suc, ◌==◌, ◌+◌, ◌≤◌, ◌<◌, Bool, true, false, cond, not, List, [], ◌∷◌, ◌++◌, length, get_or, take, None, Result, Ok, Err, MatchResult, refl, ap, sym, ◌∙◌, subst, eq-eqb, ne_eqb, inl, inr, arith}
use Rattle.std.specs.Prelude.{slice_get, slice_set, filter, is_ok}
use Rattle.std.specs.declared.cmp.Ordering.TheVariants.{Less, Equal, Greater}
use Rattle.std.specs.Ordering.{nat_cmp, is_lt}
use Rattle.std.specs.Cmp.{nat_cmp_total}
use Rattle.std.specs.List.Sorted.{IsSearchInRange, IsBinarySearchResult, IsSortedBy}
use Rattle.std.proofs.lemmas.Bool.{and_parts, and_from, leb-true, le-leb, cases_Bool, cases_lt}
use Rattle.std.proofs.lemmas.Bool.Decides.{nat_tests}
use Rattle.std.proofs.lemmas.List.Folds.{list_any_at, list_any_none}
use Rattle.std.proofs.lemmas.List.Sorted.{searchable_from_sorted}
use Rattle.split_states.specs.Answers.{Repeats}
use Rattle.split_states.specs.Rows.{Row, row_at, change, without, without_each, rising, rising_from, row_numbers, RowsRise, IsAbove, IsPlace, IsAbsent}

abbrev pub Order : ℕ → List ℕ → Type 0
Order least numbers = rising_from least numbers ≡ true

pub order_rest : (least n : ℕ) (numbers : List ℕ) → Order least (n ∷ numbers) → (least ≤ n) × Order (n + 1) numbers
order_rest least n numbers h = let parts = and_parts _ (rising_from (n + 1) numbers) h in (leb-true least n parts.0, parts.1)

order_cons : (least n : ℕ) (numbers : List ℕ) → least ≤ n → Order (n + 1) numbers → Order least (n ∷ numbers)
order_cons least n numbers le h = and_from _ (rising_from (n + 1) numbers) (le-leb least n le) h

lower : (low high : ℕ) (numbers : List ℕ) → low ≤ high → Order high numbers → Order low numbers
lower low high [] le h = refl
lower low high (n ∷ numbers) le h = let p = order_rest high n numbers h in order_cons low n numbers (omega arith) p.1

pub at_least : (least : ℕ) (numbers : List ℕ) (k d : ℕ) → Order least numbers → k < length numbers → least + k ≤ get_or numbers k d
at_least least [] k d h lt = absurd (omega arith)
at_least least (n ∷ numbers) zero d h lt = let p = order_rest least n numbers h in omega arith
at_least least (n ∷ numbers) (suc k) d h lt =
    let p = order_rest least n numbers h in
    let rest = at_least (n + 1) numbers k d p.1 (omega arith) in
    omega arith

pub not_less : (a b : ℕ) → b ≤ a → is_lt (nat_cmp a b) ≡ false
not_less a b le = grind (arith, nat_tests)

pub equal_is : (a b : ℕ) → nat_cmp a b ≡ Equal → a ≡ b
equal_is a b e = grind (arith, nat_tests)

pub less_is : (a b : ℕ) → nat_cmp a b ≡ Less → a < b
less_is a b e = grind (arith, nat_tests)

pub greater_is : (a b : ℕ) → nat_cmp a b ≡ Greater → b < a
greater_is a b e = grind (arith, nat_tests)

-- ---- numbers

next_above : (least : ℕ) (numbers : List ℕ) (k d : ℕ) → Order least numbers → k + 1 < length numbers → get_or numbers k d < get_or numbers (k + 1) d
next_above least [] k d h lt = absurd (omega arith)
next_above least (n ∷ numbers) zero d h lt =
    let p = order_rest least n numbers h in
    let high = at_least (n + 1) numbers 0 d p.1 (omega arith) in
    omega arith
next_above least (n ∷ numbers) (suc k) d h lt =
    let p = order_rest least n numbers h in
    let same : suc (k + 1) ≡ suc k + 1 = omega arith in
    subst (λ (i : ℕ). get_or numbers k d < get_or (n ∷ numbers) i d) same (next_above (n + 1) numbers k d p.1 (omega arith))

numbers_rise : (numbers : List ℕ) → Order 0 numbers → IsSortedBy (λ (a b : ℕ). is_lt (nat_cmp a b)) numbers
numbers_rise numbers h = λ k d low high. not_less (get_or numbers (k + 1) d) (get_or numbers k d) (let up = next_above 0 numbers k d h high in omega arith)

pub found_by_halves : (numbers : List ℕ) (n : ℕ) (r : Result ℕ ℕ) → Order 0 numbers → IsSearchInRange r (length numbers) → IsBinarySearchResult (λ (m : ℕ). nat_cmp m n) numbers r → is_ok r ≡ Repeats numbers n
found_by_halves numbers n (Ok i) h within equal =
    sym (list_any_at (λ m. m == n) numbers i n within (eq-eqb (get_or numbers i n) n (equal_is (get_or numbers i n) n (equal n))))
found_by_halves numbers n (Err at) h within parted =
    let both = parted (searchable_from_sorted nat_cmp_total (λ (m : ℕ). m) numbers n (numbers_rise numbers h)) in
    sym (list_any_none (λ m. m == n) numbers (λ k d lt. ne_eqb (get_or numbers k d) n (elim (cases_lt k at) [
      | inl below ↦ λ e. let less = less_is (get_or numbers k d) n (both.0 k d (omega arith) below) in omega arith
      | inr above ↦ λ e. let greater = greater_is (get_or numbers k d) n (both.1 k d above lt) in omega arith
    ])))

-- a number among those before it
pub none_before : (least : ℕ) (numbers : List ℕ) (i d : ℕ) → Order least numbers → i < length numbers → Repeats (take i numbers) (get_or numbers i d) ≡ false
none_before least [] i d h lt = absurd (omega arith)
none_before least (n ∷ numbers) zero d h lt = refl
none_before least (n ∷ numbers) (suc i) d h lt =
    let p = order_rest least n numbers h in
    let high = at_least (n + 1) numbers i d p.1 (omega arith) in
    let other : (n == get_or numbers i d) ≡ false = ne_eqb n (get_or numbers i d) (λ e. omega arith) in
    rw other (none_before (n + 1) numbers i d p.1 (omega arith))

-- ---- the place of a row

row_above : (least : ℕ) (rows : List Row) (k : ℕ) (d : Row) → Order least (row_numbers rows) → k < length rows → least + k ≤ (get_or rows k d).number
row_above least [] k d h lt = absurd (omega arith)
row_above least (r ∷ rows) zero d h lt = let p = order_rest least r.number (row_numbers rows) h in omega arith
row_above least (r ∷ rows) (suc k) d h lt =
    let p = order_rest least r.number (row_numbers rows) h in
    let rest = row_above (r.number + 1) rows k d p.1 (omega arith) in
    omega arith

next_row : (least : ℕ) (rows : List Row) (k : ℕ) (d : Row) → Order least (row_numbers rows) → k + 1 < length rows → (get_or rows k d).number < (get_or rows (k + 1) d).number
next_row least [] k d h lt = absurd (omega arith)
next_row least (r ∷ rows) zero d h lt =
    let p = order_rest least r.number (row_numbers rows) h in
    let high = row_above (r.number + 1) rows 0 d p.1 (omega arith) in
    omega arith
next_row least (r ∷ rows) (suc k) d h lt =
    let p = order_rest least r.number (row_numbers rows) h in
    let same : suc (k + 1) ≡ suc k + 1 = omega arith in
    subst (λ (i : ℕ). (get_or rows k d).number < (get_or (r ∷ rows) i d).number) same (next_row (r.number + 1) rows k d p.1 (omega arith))

rows_sorted : (rows : List Row) → RowsRise rows → IsSortedBy (λ (a b : Row). is_lt (nat_cmp a.number b.number)) rows
rows_sorted rows h = λ k d low high. not_less (get_or rows (k + 1) d).number (get_or rows k d).number (let up = next_row 0 rows k d h high in omega arith)

other_first : (least : ℕ) (r : Row) (rows : List Row) (i n : ℕ) (d : Row) → Order least (row_numbers (r ∷ rows)) → i < length rows → (get_or rows i d).number ≡ n → (r.number == n) ≡ false
other_first least r rows i n d h lt is =
    let p = order_rest least r.number (row_numbers rows) h in
    let high = row_above (r.number + 1) rows i d p.1 lt in
    ne_eqb r.number n (λ e. omega arith)

listed_found : (least : ℕ) (rows : List Row) (i n : ℕ) (d : Row) → Order least (row_numbers rows) → i < length rows → (get_or rows i d).number ≡ n → row_at rows n ≡ slice_get rows i
listed_found least [] i n d h lt is = absurd (omega arith)
listed_found least (r ∷ rows) zero n d h lt is = let same : (r.number == n) ≡ true = eq-eqb r.number n is in rw same refl
listed_found least (r ∷ rows) (suc i) n d h lt is =
    let other = other_first least r rows i n d h (omega arith) is in
    let p = order_rest least r.number (row_numbers rows) h in
    rw other (listed_found (r.number + 1) rows i n d p.1 (omega arith) is)

found_within : (rows : List Row) (i n : ℕ) → RowsRise rows → i < length rows → ((d : Row) → (get_or rows i d).number ≡ n) → row_at rows n ≡ slice_get rows i
found_within [] i n h lt is = absurd (omega arith)
found_within (r ∷ rows) i n h lt is = listed_found 0 (r ∷ rows) i n r h lt (is r)

listed_changed : (least : ℕ) (rows : List Row) (i n : ℕ) (d : Row) (f : Row → Row) → Order least (row_numbers rows) → i < length rows → (get_or rows i d).number ≡ n → change n f rows ≡ slice_set rows i (f (get_or rows i d))
listed_changed least [] i n d f h lt is = absurd (omega arith)
listed_changed least (r ∷ rows) zero n d f h lt is = let same : (r.number == n) ≡ true = eq-eqb r.number n is in rw same refl
listed_changed least (r ∷ rows) (suc i) n d f h lt is =
    let other = other_first least r rows i n d h (omega arith) is in
    let p = order_rest least r.number (row_numbers rows) h in
    rw other (ap (λ (l : List Row). r ∷ l) (listed_changed (r.number + 1) rows i n d f p.1 (omega arith) is))

abbrev NoneHas : List Row → ℕ → Type 0
NoneHas rows n = (k : ℕ) (d : Row) → k < length rows → (get_or rows k d).number ≡ n → ⊥

absent_found : (rows : List Row) (n : ℕ) → NoneHas rows n → row_at rows n ≡ None
absent_found [] n h = refl
absent_found (r ∷ rows) n h =
    let other : (r.number == n) ≡ false = ne_eqb r.number n (h 0 r (omega arith)) in
    rw other (absent_found rows n (λ k d lt. h (suc k) d (omega arith)))

absent_changed : (rows : List Row) (n : ℕ) (f : Row → Row) → NoneHas rows n → change n f rows ≡ rows
absent_changed [] n f h = refl
absent_changed (r ∷ rows) n f h =
    let other : (r.number == n) ≡ false = ne_eqb r.number n (h 0 r (omega arith)) in
    rw other (ap (λ (l : List Row). r ∷ l) (absent_changed rows n f (λ k d lt. h (suc k) d (omega arith))))

-- what the search says
pub place_found : (n : ℕ) (rows : List Row) (r : Result ℕ ℕ) → RowsRise rows → IsSearchInRange r (length rows) → IsBinarySearchResult (λ (row : Row). nat_cmp row.number n) rows r
    → MatchResult r (IsPlace rows n) (λ at. IsAbsent rows n)
place_found n rows (Ok i) h within equal = record {
  within = within;
  found = found_within rows i n h within (λ d. equal_is (get_or rows i d).number n (equal d));
  changed = λ f d. listed_changed 0 rows i n d f h within (equal_is (get_or rows i d).number n (equal d));
}
place_found n rows (Err at) h within parted =
    let both = parted (searchable_from_sorted nat_cmp_total (λ (row : Row). row.number) rows n (rows_sorted rows h)) in
    let none : NoneHas rows n = λ k d lt is. elim (cases_lt k at) [
      | inl below ↦ let less = less_is (get_or rows k d).number n (both.0 k d (omega arith) below) in omega arith
      | inr above ↦ let greater = greater_is (get_or rows k d).number n (both.1 k d above lt) in omega arith
    ] in
    record { found = absent_found rows n none; changed = λ f. absent_changed rows n f none }

-- ---- changes keep the order

pub numbers_stay : (n : ℕ) (f : Row → Row) (rows : List Row) → ((row : Row) → (f row).number ≡ row.number) → row_numbers (change n f rows) ≡ row_numbers rows
numbers_stay n f [] keeps = refl
numbers_stay n f (r ∷ rows) keeps =
    elim (r.number == n) as (λ (b : Bool). row_numbers (cond b (f r ∷ rows) (r ∷ change n f rows)) ≡ row_numbers (r ∷ rows)) [
      | true ↦ ap (λ (m : ℕ). m ∷ row_numbers rows) (keeps r)
      | false ↦ ap (λ (l : List ℕ). r.number ∷ l) (numbers_stay n f rows keeps)
    ]

pub rise_change : (n : ℕ) (f : Row → Row) (rows : List Row) → ((row : Row) → (f row).number ≡ row.number) → RowsRise rows → RowsRise (change n f rows)
rise_change n f rows keeps h = ap rising (numbers_stay n f rows keeps) ∙ h

push_from : (least : ℕ) (rows : List Row) (row : Row) → Order least (row_numbers rows) → least ≤ row.number → IsAbove rows row.number → Order least (row_numbers (rows ++ row ∷ []))
push_from least [] row h le above = order_cons least row.number [] le refl
push_from least (r ∷ rows) row h le above =
    let p = order_rest least r.number (row_numbers rows) h in
    let low : r.number < row.number = above 0 r (omega arith) in
    order_cons least r.number (row_numbers (rows ++ row ∷ [])) p.0
    (push_from (r.number + 1) rows row p.1 (omega arith) (λ k d lt. above (suc k) d (omega arith)))

pub rise_push : (rows : List Row) (row : Row) → RowsRise rows → IsAbove rows row.number → RowsRise (rows ++ row ∷ [])
rise_push rows row h above = push_from 0 rows row h (omega arith) above

filter_from : (p : Row → Bool) (least : ℕ) (rows : List Row) → Order least (row_numbers rows) → Order least (row_numbers (filter p rows))
filter_from p least [] h = refl
filter_from p least (r ∷ rows) h =
    let parts = order_rest least r.number (row_numbers rows) h in
    let rest = filter_from p (r.number + 1) rows parts.1 in
    elim (p r) as (λ (b : Bool). Order least (row_numbers (cond b (r ∷ filter p rows) (filter p rows)))) [
      | true ↦ order_cons least r.number (row_numbers (filter p rows)) parts.0 rest
      | false ↦ lower least (r.number + 1) (row_numbers (filter p rows)) (omega arith) rest
    ]

pub rise_filter : (p : Row → Bool) (rows : List Row) → RowsRise rows → RowsRise (filter p rows)
rise_filter p rows h = filter_from p 0 rows h

-- ---- without several rows

abbrev pub is_left : List ℕ → Row → Bool
is_left numbers row = not (Repeats numbers row.number)

left_of_none : (rows : List Row) → rows ≡ filter (is_left []) rows
left_of_none [] = refl
left_of_none (r ∷ rows) = ap (λ (l : List Row). r ∷ l) (left_of_none rows)

turned : (a b : ℕ) → (a == b) ≡ (b == a)
turned a b = grind (arith, nat_tests)

left_next : (n : ℕ) (numbers : List ℕ) (rows : List Row) → filter (is_left numbers) (without n rows) ≡ filter (is_left (n ∷ numbers)) rows
left_next n numbers [] = refl
left_next n numbers (r ∷ rows) =
    let rest = left_next n numbers rows in
    elim (cases_Bool (r.number == n)) [
      | inl here ↦ let there : (n == r.number) ≡ true = turned n r.number ∙ here in rw (here, there) rest
      | inr away ↦
          let there : (n == r.number) ≡ false = turned n r.number ∙ away in
          rw (away, there) (elim (Repeats numbers r.number) as (λ (b : Bool).
          cond (not b) (r ∷ filter (is_left numbers) (without n rows)) (filter (is_left numbers) (without n rows))
          ≡ cond (not b) (r ∷ filter (is_left (n ∷ numbers)) rows) (filter (is_left (n ∷ numbers)) rows)) [
            | true ↦ rest
            | false ↦ ap (λ (l : List Row). r ∷ l) rest
          ])
    ]

pub left : (numbers : List ℕ) (rows : List Row) → filter (is_left numbers) rows ≡ without_each numbers rows
left [] rows = sym (left_of_none rows)
left (n ∷ numbers) rows = sym (left_next n numbers rows) ∙ left numbers (without n rows)
