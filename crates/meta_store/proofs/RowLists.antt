-- Lists of rows in which each number stands once.
use Rattle.std.proofs.Common.{◌≡◌, ℕ, ◌==◌, ◌≤◌, ◌<◌, ◌+◌, true, false, cond, not, List, [], ◌∷◌, ◌++◌, Option, Some, None, IsSomeAnd, refl, ap, sym, ◌∙◌, inl, inr, eqb-true, ne_eqb, arith, option_map}
use Rattle.std.specs.Prelude.{⊤}
use Rattle.std.specs.List.{AllByRecursion}
use Rattle.std.proofs.lemmas.Bool.{cases_Bool, eqb-false}
use Rattle.split_states.specs.Rows.{row_at, change, change_each, without, without_each}
use Rattle.split_states.specs.declared.rows.Row.{Row}

abbrev pub AllOf : {X : Type 0} → (X → Type 0) → List X → Type 0
AllOf = AllByRecursion

-- each number stands once
abbrev pub EachNumberOnce : List Row → Type 0
EachNumberOnce [] = ⊤
EachNumberOnce (row ∷ rows) = (row_at rows row.number ≡ None) × EachNumberOnce rows

-- what a fact of a row that stands says
pub the_row : {X : Type 0} (o : Option X) (P : X → Type 0) → IsSomeAnd o P → (x : X) × (o ≡ Some x) × P x
the_row None P h = absurd h
the_row (Some x) P h = (x, refl, h)

pub change_absent : (rows : List Row) (n : ℕ) (f : Row → Row) → row_at rows n ≡ None → change n f rows ≡ rows
change_absent [] n f h = refl
change_absent (r ∷ rows) n f h =
    (elim (r.number == n) as (λ b. cond b (Some r) (row_at rows n) ≡ None → cond b (f r ∷ rows) (r ∷ change n f rows) ≡ r ∷ rows) [
      | true ↦ λ e. cc
      | false ↦ λ e. ap (λ rest. r ∷ rest) (change_absent rows n f e)
    ]) h

pub without_absent : (rows : List Row) (n : ℕ) → row_at rows n ≡ None → without n rows ≡ rows
without_absent [] n h = refl
without_absent (r ∷ rows) n h =
    (elim (r.number == n) as (λ b. cond b (Some r) (row_at rows n) ≡ None → cond (not b) (r ∷ without n rows) (without n rows) ≡ r ∷ rows) [
      | true ↦ λ e. cc
      | false ↦ λ e. ap (λ rest. r ∷ rest) (without_absent rows n e)
    ]) h

-- the row of a number, with what stands before it and behind it
pub record StandsIn (rows : List Row) (n : ℕ) (row : Row) : Type 0 where
  pub before : List Row
  pub behind : List Row
  pub is : rows ≡ before ++ (row ∷ behind)
  pub number : row.number ≡ n
  pub changed : (f : Row → Row) → change n f rows ≡ before ++ (f row ∷ behind)
  pub gone : without n rows ≡ before ++ behind

later_stands : (r : Row) (rows : List Row) (n : ℕ) (row : Row) → (r.number == n) ≡ false → StandsIn rows n row → StandsIn (r ∷ rows) n row
later_stands r rows n row other s = record {
  before = r ∷ s.before;
  behind = s.behind;
  is = ap (λ rest. r ∷ rest) s.is;
  number = s.number;
  changed = λ f. rw other (ap (λ rest. r ∷ rest) (s.changed f));
  gone = rw other (ap (λ rest. r ∷ rest) s.gone);
}

first_stands : (r : Row) (rows : List Row) (n : ℕ) (row : Row) → (r.number == n) ≡ true → r ≡ row → row_at rows r.number ≡ None → StandsIn (r ∷ rows) n row
first_stands r rows n row same e absent =
    let number : r.number ≡ n = eqb-true r.number n same in
    let none : row_at rows n ≡ None = rw number at absent in
    record {
      before = [];
      behind = rows;
      is = ap (λ x. x ∷ rows) e;
      number = ap (λ x. x.number) (sym e) ∙ number;
      changed = λ f. rw same (ap (λ x. x ∷ rows) (ap f e));
      gone = rw same (without_absent rows n none);
    }

pub row_stands : (rows : List Row) (n : ℕ) (row : Row) → EachNumberOnce rows → row_at rows n ≡ Some row → StandsIn rows n row
row_stands [] n row once h = cc
row_stands (r ∷ rows) n row once h =
    elim (cases_Bool (r.number == n)) [
      | inl same ↦ first_stands r rows n row same (let e : Some r ≡ Some row = rw same at h in cc) once.0
      | inr other ↦ later_stands r rows n row other (row_stands rows n row once.1 (rw other at h))
    ]

-- a change that keeps numbers
abbrev pub KeepsNumber : (Row → Row) → Type 0
KeepsNumber f = (row : Row) → (f row).number ≡ row.number

pub absent-change : (rows : List Row) (n m : ℕ) (f : Row → Row) → KeepsNumber f → row_at rows m ≡ None → row_at (change n f rows) m ≡ None
absent-change [] n m f keeps h = refl
absent-change (r ∷ rows) n m f keeps h =
    elim (cases_Bool (r.number == m)) [
      | inl same ↦ let e : Some r ≡ None = rw same at h in cc
      | inr other ↦
          let behind : row_at rows m ≡ None = rw other at h in
          let rest : row_at (change n f rows) m ≡ None = absent-change rows n m f keeps behind in
          elim (cases_Bool (r.number == n)) [
            | inl here ↦ let as_before : ((f r).number == m) ≡ false = rw (keeps r) other in rw (here, as_before) behind
            | inr there ↦ rw (there, other) rest
          ]
    ]

pub once-change : (rows : List Row) (n : ℕ) (f : Row → Row) → KeepsNumber f → EachNumberOnce rows → EachNumberOnce (change n f rows)
once-change [] n f keeps once = tt
once-change (r ∷ rows) n f keeps once =
    elim (cases_Bool (r.number == n)) [
      | inl here ↦ rw here (rw (keeps r) once.0, once.1)
      | inr there ↦ rw there (absent-change rows n r.number f keeps once.0, once-change rows n f keeps once.1)
    ]

-- a row of a new number at the end
pub absent-push : (rows : List Row) (row : Row) (m : ℕ) → row_at rows m ≡ None → (row.number == m) ≡ false → row_at (rows ++ row ∷ []) m ≡ None
absent-push [] row m h other = rw other
absent-push (r ∷ rows) row m h other =
    (elim (r.number == m) as (λ b. cond b (Some r) (row_at rows m) ≡ None → cond b (Some r) (row_at (rows ++ row ∷ []) m) ≡ None) [
      | true ↦ λ e. e
      | false ↦ λ e. absent-push rows row m e other
    ]) h

pub once-push : (rows : List Row) (row : Row) → AllOf (λ r. r.number < row.number) rows → EachNumberOnce rows → EachNumberOnce (rows ++ row ∷ [])
once-push [] row below once = (refl, tt)
once-push (r ∷ rows) row below once =
    let lower : r.number < row.number = below.0 in
    (absent-push rows row r.number once.0 (ne_eqb row.number r.number (λ e. omega arith)), once-push rows row below.1 once.1)

-- what holds of each
pub AllOf-append : {X : Type 0} (P : X → Type 0) (xs ys : List X) → AllOf P xs → AllOf P ys → AllOf P (xs ++ ys)
AllOf-append P [] ys h k = k
AllOf-append P (x ∷ xs) ys h k = (h.0, AllOf-append P xs ys h.1 k)

pub AllOf-front : {X : Type 0} (P : X → Type 0) (xs ys : List X) → AllOf P (xs ++ ys) → AllOf P xs
AllOf-front P [] ys h = tt
AllOf-front P (x ∷ xs) ys h = (h.0, AllOf-front P xs ys h.1)

pub AllOf-back : {X : Type 0} (P : X → Type 0) (xs ys : List X) → AllOf P (xs ++ ys) → AllOf P ys
AllOf-back P [] ys h = h
AllOf-back P (x ∷ xs) ys h = AllOf-back P xs ys h.1

pub AllOf-weaker : {X : Type 0} (P Q : X → Type 0) (xs : List X) → ((x : X) → P x → Q x) → AllOf P xs → AllOf Q xs
AllOf-weaker P Q [] f h = tt
AllOf-weaker P Q (x ∷ xs) f h = (f x h.0, AllOf-weaker P Q xs f h.1)

pub AllOf-at : {X : Type 0} (P : X → Type 0) (xs : List X) (x : X) (ys : List X) → AllOf P (xs ++ (x ∷ ys)) → P x
AllOf-at P xs x ys h = (AllOf-back P xs (x ∷ ys) h).0

pub AllOf-replace : {X : Type 0} (P : X → Type 0) (xs : List X) (x y : X) (ys : List X) → AllOf P (xs ++ (x ∷ ys)) → P y → AllOf P (xs ++ (y ∷ ys))
AllOf-replace P xs x y ys h k = AllOf-append P xs (y ∷ ys) (AllOf-front P xs (x ∷ ys) h) (k, (AllOf-back P xs (x ∷ ys) h).1)

pub AllOf-both : {X : Type 0} (P Q : X → Type 0) (xs : List X) → AllOf P xs → AllOf Q xs → AllOf (λ x. P x × Q x) xs
AllOf-both P Q [] h k = tt
AllOf-both P Q (x ∷ xs) h k = ((h.0, k.0), AllOf-both P Q xs h.1 k.1)

-- each number stands once and is at most the last, and this holds of each row
pub record HoldRows (P : Row → Type 0) (last : ℕ) (rows : List Row) : Type 0 where
  pub apart : EachNumberOnce rows
  pub below : AllOf (λ row. row.number ≤ last) rows
  pub each : AllOf P rows

pub held : (P : Row → Type 0) (last : ℕ) (rows : List Row) (n : ℕ) (row : Row) → StandsIn rows n row → HoldRows P last rows → P row
held P last rows n row r s = AllOf-at P r.before row r.behind (rw r.is at s.each)

pub HoldRows-change : (P : Row → Type 0) (last : ℕ) (rows : List Row) (n : ℕ) (row : Row) (f : Row → Row) → KeepsNumber f → StandsIn rows n row → HoldRows P last rows → P (f row) → HoldRows P last (change n f rows)
HoldRows-change P last rows n row f keeps r s new =
    let low : row.number ≤ last = AllOf-at (λ x. x.number ≤ last) r.before row r.behind (rw r.is at s.below) in
    record {
      apart = once-change rows n f keeps s.apart;
      below = rw (r.changed f) (AllOf-replace (λ x. x.number ≤ last) r.before row (f row) r.behind (rw r.is at s.below) (rw keeps low));
      each = rw (r.changed f) (AllOf-replace P r.before row (f row) r.behind (rw r.is at s.each) new);
    }

-- the rows stay, and something else holds of each
pub HoldRows-weaker : (P Q : Row → Type 0) (last next : ℕ) (rows : List Row) → last ≤ next → ((row : Row) → row.number ≤ last → P row → Q row) → HoldRows P last rows → HoldRows Q next rows
HoldRows-weaker P Q last next rows le f s = record {
  apart = s.apart;
  below = AllOf-weaker (λ row. row.number ≤ last) (λ row. row.number ≤ next) rows (λ row h. omega arith) s.below;
  each = AllOf-weaker (λ row. (row.number ≤ last) × P row) Q rows (λ row h. f row h.0 h.1) (AllOf-both (λ row. row.number ≤ last) P rows s.below s.each);
}

pub HoldRows-push : (P : Row → Type 0) (last : ℕ) (rows : List Row) (row : Row) → row.number ≡ last + 1 → HoldRows P last rows → P row → HoldRows P (last + 1) (rows ++ row ∷ [])
HoldRows-push P last rows row next s new = record {
  apart = once-push rows row (AllOf-weaker (λ x. x.number ≤ last) (λ x. x.number < row.number) rows (λ x h. omega arith) s.below) s.apart;
  below = AllOf-append (λ x. x.number ≤ last + 1) rows (row ∷ []) (AllOf-weaker (λ x. x.number ≤ last) (λ x. x.number ≤ last + 1) rows (λ x h. omega arith) s.below) (omega arith, tt);
  each = AllOf-append P rows (row ∷ []) s.each (new, tt);
}

-- a row as a change at n leaves it
abbrev pub changed_at : ℕ → (Row → Row) → Row → Row
changed_at n f row = cond (row.number == n) (f row) row

pub row_at-change : (rows : List Row) (n m : ℕ) (f : Row → Row) → KeepsNumber f → EachNumberOnce rows → row_at (change n f rows) m ≡ option_map (changed_at n f) (row_at rows m)
row_at-change [] n m f keeps once = refl
row_at-change (r ∷ rows) n m f keeps once =
    let rest = row_at-change rows n m f keeps once.1 in
    elim (cases_Bool (r.number == n)) [
      | inl here ↦ elim (cases_Bool (r.number == m)) [
        | inl found ↦ let as_before : ((f r).number == m) ≡ true = rw (keeps r) found in rw (here, as_before, found) (rw here refl)
        | inr other ↦
            let as_before : ((f r).number == m) ≡ false = rw (keeps r) other in
            let none : row_at rows n ≡ None = rw (eqb-true r.number n here) at once.0 in
            rw (here, as_before, other) (ap (λ l. row_at l m) (sym (change_absent rows n f none)) ∙ rest)
      ]
      | inr there ↦ elim (cases_Bool (r.number == m)) [
        | inl found ↦ rw (there, found) (rw there refl)
        | inr other ↦ rw (there, other) rest
      ]
    ]

-- a change of one row, where what holds of the others and of that one is known
pub HoldRows-to : (P Q : Row → Type 0) (last next : ℕ) (rows : List Row) (n : ℕ) (f : Row → Row) → KeepsNumber f → last ≤ next → ((row : Row) → (row.number == n) ≡ false → P row → Q row) → ((row : Row) → row.number ≡ n → P row → Q (f row)) → HoldRows P last rows → HoldRows Q next (change n f rows)
HoldRows-to P Q last next rows n f keeps le others this s = record {
  apart = once-change rows n f keeps s.apart;
  below = below_changed rows s.below;
  each = each_changed rows s.apart s.each;
}
  where
    below_changed : (xs : List Row) → AllOf (λ row. row.number ≤ last) xs → AllOf (λ row. row.number ≤ next) (change n f xs)
    below_changed [] h = tt
    below_changed (x ∷ xs) h =
        let low : x.number ≤ last = h.0 in
        let raised : AllOf (λ row. row.number ≤ next) xs = AllOf-weaker (λ row. row.number ≤ last) (λ row. row.number ≤ next) xs (λ row k. omega arith) h.1 in
        let rest = below_changed xs h.1 in
        elim (cases_Bool (x.number == n)) [
          | inl here ↦ rw (here, keeps x) (omega arith, raised)
          | inr there ↦ rw there (omega arith, rest)
        ]

    behind : (xs : List Row) → row_at xs n ≡ None → AllOf P xs → AllOf Q xs
    behind [] none h = tt
    behind (x ∷ xs) none h =
        elim (cases_Bool (x.number == n)) [
          | inl here ↦ let e : Some x ≡ None = rw here at none in cc
          | inr there ↦ (others x there h.0, behind xs (rw there at none) h.1)
        ]

    each_changed : (xs : List Row) → EachNumberOnce xs → AllOf P xs → AllOf Q (change n f xs)
    each_changed [] once h = tt
    each_changed (x ∷ xs) once h =
        let rest = each_changed xs once.1 h.1 in
        elim (cases_Bool (x.number == n)) [
          | inl here ↦
              let e : x.number ≡ n = eqb-true x.number n here in
              let none : row_at xs n ≡ None = rw e at once.0 in
              rw here (this x e h.0, behind xs none h.1)
          | inr there ↦ rw there (others x there h.0, rest)
        ]

pub HoldRows-change_each : (P : Row → Type 0) (last : ℕ) (numbers : List ℕ) (rows : List Row) (f : Row → Row) → KeepsNumber f → ((row : Row) → P row → P (f row)) → HoldRows P last rows → HoldRows P last (change_each numbers f rows)
HoldRows-change_each P last [] rows f keeps stays s = s
HoldRows-change_each P last (n ∷ numbers) rows f keeps stays s =
    HoldRows-change_each P last numbers (change n f rows) f keeps stays
    (HoldRows-to P P last last rows n f keeps (omega arith) (λ row other h. h) (λ row e h. stays row h) s)

-- without the row of a number
pub row_at-without : (rows : List Row) (n m : ℕ) → (m == n) ≡ false → row_at (without n rows) m ≡ row_at rows m
row_at-without [] n m other = refl
row_at-without (r ∷ rows) n m other =
    let rest = row_at-without rows n m other in
    elim (cases_Bool (r.number == n)) [
      | inl here ↦
          let e : r.number ≡ n = eqb-true r.number n here in
          let away : (r.number == m) ≡ false = ne_eqb r.number m (λ x. eqb-false m n other (sym x ∙ e)) in
          rw (here, away) rest
      | inr there ↦ rw there (elim (cases_Bool (r.number == m)) [
        | inl found ↦ rw found refl
        | inr miss ↦ rw miss rest
      ])
    ]

pub row_at-gone : (rows : List Row) (n : ℕ) → row_at (without n rows) n ≡ None
row_at-gone [] n = refl
row_at-gone (r ∷ rows) n = elim (cases_Bool (r.number == n)) [
  | inl here ↦ rw here (row_at-gone rows n)
  | inr there ↦ rw (there, there) (row_at-gone rows n)
]

pub absent-without : (rows : List Row) (n m : ℕ) → row_at rows m ≡ None → row_at (without n rows) m ≡ None
absent-without rows n m h = elim (cases_Bool (m == n)) [
  | inl same ↦ rw (eqb-true m n same) (row_at-gone rows n)
  | inr other ↦ row_at-without rows n m other ∙ h
]

pub AllOf-without : (P : Row → Type 0) (rows : List Row) (n : ℕ) → AllOf P rows → AllOf P (without n rows)
AllOf-without P [] n h = tt
AllOf-without P (r ∷ rows) n h = elim (cases_Bool (r.number == n)) [
  | inl here ↦ rw here (AllOf-without P rows n h.1)
  | inr there ↦ rw there (h.0, AllOf-without P rows n h.1)
]

pub once-without : (rows : List Row) (n : ℕ) → EachNumberOnce rows → EachNumberOnce (without n rows)
once-without [] n h = tt
once-without (r ∷ rows) n h = elim (cases_Bool (r.number == n)) [
  | inl here ↦ rw here (once-without rows n h.1)
  | inr there ↦ rw there (absent-without rows n r.number h.0, once-without rows n h.1)
]

pub HoldRows-without : (P : Row → Type 0) (last : ℕ) (rows : List Row) (n : ℕ) → HoldRows P last rows → HoldRows P last (without n rows)
HoldRows-without P last rows n s = record {
  apart = once-without rows n s.apart;
  below = AllOf-without (λ row. row.number ≤ last) rows n s.below;
  each = AllOf-without P rows n s.each;
}

pub HoldRows-without_each : (P : Row → Type 0) (last : ℕ) (numbers : List ℕ) (rows : List Row) → HoldRows P last rows → HoldRows P last (without_each numbers rows)
HoldRows-without_each P last [] rows s = s
HoldRows-without_each P last (n ∷ numbers) rows s = HoldRows-without_each P last numbers (without n rows) (HoldRows-without P last rows n s)

pub once-change_each : (numbers : List ℕ) (rows : List Row) (f : Row → Row) → KeepsNumber f → EachNumberOnce rows → EachNumberOnce (change_each numbers f rows)
once-change_each [] rows f keeps once = once
once-change_each (n ∷ numbers) rows f keeps once = once-change_each numbers (change n f rows) f keeps (once-change rows n f keeps once)
