-- The rows that are stale or due, and the conditions of the entries that name them.
use Rattle.std.proofs.Common.{◌≡◌, ℕ, ◌==◌, ◌+◌, ◌≤◌, ◌||◌, Bool, true, false, List, [], ◌∷◌, Option, Some, None, IsSomeAnd, refl, ap, sym, subst, inl, inr, eq-eqb, eqb-true, ne_eqb, arith}
use Rattle.std.specs.Prelude.{filter, find, nat_le}
use Rattle.std.specs.List.{AllByRecursion}
use Rattle.std.proofs.lemmas.Bool.{and_parts, and_from, leb-true, le-leb, cases_Bool}
use Rattle.split_states.specs.Answers.{MayMark, MayRemove, Repeats}
use Rattle.split_states.specs.Due.{is_staged, is_marked, is_stale, is_due, stale_rows, next_due}
use Rattle.split_states.specs.Rows.{Row, RowState, row_at, row_numbers, rising, RowsRise}
use Rattle.split_states.specs.declared.rows.RowState.TheVariants.{Staged, Published, Marked}
use Rattle.split_states.proofs.Rising.{Order, order_rest, rise_filter}

each : {X : Type 0} (P Q : X → Type 0) (xs : List X) → ((x : X) → P x → Q x) → AllByRecursion P xs → AllByRecursion Q xs
each P Q [] f h = tt
each P Q (x ∷ xs) f h = (f x h.0, each P Q xs f h.1)

true_false : true ≡ false → ⊥
true_false e = cc

-- each row is the one of its number
own_from : (least : ℕ) (rows : List Row) → Order least (row_numbers rows) → AllByRecursion (λ x. (row_at rows x.number ≡ Some x) × (least ≤ x.number)) rows
own_from least [] h = tt
own_from least (r ∷ rows) h =
    let p = order_rest least r.number (row_numbers rows) h in (
      (rw (eq-eqb r.number r.number refl) refl, p.0),
      each (λ x. (row_at rows x.number ≡ Some x) × (r.number + 1 ≤ x.number)) (λ x. (row_at (r ∷ rows) x.number ≡ Some x) × (least ≤ x.number)) rows
          (λ x k.
          let other : (r.number == x.number) ≡ false = ne_eqb r.number x.number (λ e. omega (arith, e, k.1)) in
          (rw other k.0, omega (arith, p.0, k.1)))
          (own_from (r.number + 1) rows p.1),
    )

own_rows : (rows : List Row) → RowsRise rows → AllByRecursion (λ x. row_at rows x.number ≡ Some x) rows
own_rows rows h = each (λ x. (row_at rows x.number ≡ Some x) × (0 ≤ x.number)) (λ x. row_at rows x.number ≡ Some x) rows (λ x k. k.0) (own_from 0 rows h)

at_above : (least : ℕ) (rows : List Row) (n : ℕ) (x : Row) → Order least (row_numbers rows) → row_at rows n ≡ Some x → least ≤ n
at_above least [] n x h e = cc
at_above least (r ∷ rows) n x h e =
    let p = order_rest least r.number (row_numbers rows) h in
    elim (cases_Bool (r.number == n)) [
      | inl same ↦ let is : r.number ≡ n = eqb-true r.number n same in omega (arith, p.0, is)
      | inr other ↦ let low = at_above (r.number + 1) rows n x p.1 (rw other at e) in omega (arith, p.0, low)
    ]

-- ---- states

staged_so : (s : RowState) → is_staged s ≡ true → s ≡ Staged
staged_so Staged e = refl
staged_so Published e = absurd (true_false (sym e))
staged_so Marked e = absurd (true_false (sym e))

marked_so : (s : RowState) → is_marked s ≡ true → s ≡ Marked
marked_so Staged e = absurd (true_false (sym e))
marked_so Published e = absurd (true_false (sym e))
marked_so Marked e = refl

stale_so : (now grace : ℕ) (row : Row) → is_stale now grace row ≡ true → (row.state ≡ Staged) × (row.staged_at + grace ≤ now)
stale_so now grace row e = let p = and_parts (is_staged row.state) (nat_le (row.staged_at + grace) now) e in (staged_so row.state p.0, leb-true (row.staged_at + grace) now p.1)

stale_true : (now grace : ℕ) (row : Row) → row.state ≡ Staged → row.staged_at + grace ≤ now → is_stale now grace row ≡ true
stale_true now grace row is le = and_from (is_staged row.state) (nat_le (row.staged_at + grace) now) (ap is_staged is) (le-leb (row.staged_at + grace) now le)

due_so : (now grace : ℕ) (row : Row) → is_due now grace row ≡ true → (row.state ≡ Marked) × (row.marked_at + grace ≤ now)
due_so now grace row e = let p = and_parts (is_marked row.state) (nat_le (row.marked_at + grace) now) e in (marked_so row.state p.0, leb-true (row.marked_at + grace) now p.1)

due_true : (now grace : ℕ) (row : Row) → row.state ≡ Marked → row.marked_at + grace ≤ now → is_due now grace row ≡ true
due_true now grace row is le = and_from (is_marked row.state) (nat_le (row.marked_at + grace) now) (ap is_marked is) (le-leb (row.marked_at + grace) now le)

-- ---- stale rows

stale_of : (now grace : ℕ) (whole list : List Row) → AllByRecursion (λ x. row_at whole x.number ≡ Some x) list → AllByRecursion (MayMark now grace whole) (row_numbers (filter (is_stale now grace) list))
stale_of now grace whole [] h = tt
stale_of now grace whole (r ∷ list) h =
    let rest = stale_of now grace whole list h.1 in
    elim (cases_Bool (is_stale now grace r)) [
      | inl so ↦ let p = stale_so now grace r so in rw so (rw h.0 p, rest)
      | inr none ↦ rw none rest
    ]

pub stale_marked : (rows : List Row) (now grace : ℕ) → RowsRise rows → AllByRecursion (MayMark now grace rows) (stale_rows now grace rows)
stale_marked rows now grace h = stale_of now grace rows rows (own_rows rows h)

or_last : (a b : Bool) → b ≡ true → (a || b) ≡ true
or_last true b e = refl
or_last false b e = e

pub stale_all : (rows : List Row) (now grace n : ℕ) → MayMark now grace rows n → Repeats (stale_rows now grace rows) n ≡ true
stale_all [] now grace n may = absurd may
stale_all (r ∷ rows) now grace n may = elim (cases_Bool (r.number == n)) [
  | inl same ↦ let k : (r.state ≡ Staged) × (r.staged_at + grace ≤ now) = rw same at may in rw (stale_true now grace r k.0 k.1, same) refl
  | inr other ↦
      let rest = stale_all rows now grace n (rw other at may) in
      elim (cases_Bool (is_stale now grace r)) [
        | inl so ↦ rw so (or_last (r.number == n) (Repeats (stale_rows now grace rows) n) rest)
        | inr none ↦ rw none rest
      ]
]

pub stale_rise : (rows : List Row) (now grace : ℕ) → RowsRise rows → rising (stale_rows now grace rows) ≡ true
stale_rise rows now grace h = rise_filter (is_stale now grace) rows h

-- ---- rows that are due

found_so : (P : Row → Type 0) (test q : Row → Bool) (list : List Row) (row : Row) → find test (filter q list) ≡ Some row → AllByRecursion P list → (test row ≡ true) × (q row ≡ true) × P row
found_so P test q [] row e h = cc
found_so P test q (r ∷ list) row e h = elim (cases_Bool (q r)) [
  | inl within ↦ elim (cases_Bool (test r)) [
    | inl so ↦ let here : Some r ≡ Some row = rw (within, so) at e in let is : r ≡ row = cc here in subst (λ x. (test x ≡ true) × (q x ≡ true) × P x) is (so, within, h.0)
    | inr none ↦ found_so P test q list row (rw (within, none) at e) h.1
  ]
  | inr out ↦ found_so P test q list row (rw out at e) h.1
]

pub due_removed : (rows : List Row) (from now grace : ℕ) (row : Row) → RowsRise rows → next_due from now grace rows ≡ Some row → (from ≤ row.number) × MayRemove now grace rows row.number
due_removed rows from now grace row h e =
    let f = found_so (λ x. row_at rows x.number ≡ Some x) (is_due now grace) (λ x. nat_le from x.number) rows row e (own_rows rows h) in
    let p = due_so now grace row f.0 in
    (leb-true from row.number f.1, rw f.2 p)

least_from : (least : ℕ) (rows : List Row) (from now grace n : ℕ) → Order least (row_numbers rows) → MayRemove now grace rows n → from ≤ n → IsSomeAnd (next_due from now grace rows) (λ row. row.number ≤ n)
least_from least [] from now grace n h may le = absurd may
least_from least (r ∷ rows) from now grace n h may le =
    let p = order_rest least r.number (row_numbers rows) h in
    elim (cases_Bool (r.number == n)) [
      | inl same ↦
          let is : r.number ≡ n = eqb-true r.number n same in
          let k : (r.state ≡ Marked) × (r.marked_at + grace ≤ now) = rw same at may in
          rw (le-leb from r.number (omega (arith, is, le)), due_true now grace r k.0 k.1) (omega (arith, is))
      | inr other ↦
          let there : MayRemove now grace rows n = rw other at may in
          let rest = least_from (r.number + 1) rows from now grace n p.1 there le in
          let low = below (r.number + 1) rows n p.1 there in
          elim (cases_Bool (nat_le from r.number)) [
            | inl within ↦ elim (cases_Bool (is_due now grace r)) [
              | inl so ↦ rw (within, so) (omega (arith, low))
              | inr none ↦ rw (within, none) rest
            ]
            | inr out ↦ rw out rest
          ]
    ]
  where
    some_at : (o : Option Row) (P : Row → Type 0) → IsSomeAnd o P → (x : Row) × (o ≡ Some x)
    some_at None P k = absurd k
    some_at (Some x) P k = (x, refl)

    below : (low : ℕ) (list : List Row) (n : ℕ) → Order low (row_numbers list) → MayRemove now grace list n → low ≤ n
    below low list n h may = let x = some_at (row_at list n) _ may in at_above low list n x.0 h x.1

pub due_least : (rows : List Row) (from now grace n : ℕ) → RowsRise rows → MayRemove now grace rows n → from ≤ n → IsSomeAnd (next_due from now grace rows) (λ row. row.number ≤ n)
due_least rows from now grace n h may le = least_from 0 rows from now grace n h may le
