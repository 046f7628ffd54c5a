-- The rows: which split files there are, how each stands, and what an entry changes in them.
use Rattle.std.specs.Prelude.{ℕ, ◌≡◌, ◌+◌, ◌<◌, ◌==◌, ◌&&◌, Bool, true, false, not, List, [], ◌∷◌, map, filter, find, flat_map, max, fold, length, if◌then◌else◌, Option, Some, None, slice_get, slice_set, slice_index_or, nat_le, IsTrue, All}
use Rattle.source_checkpoint.specs.declared.delta.Part.{Part}
use Rattle.source_checkpoint.specs.declared.span.Span.{Span}
use Rattle.source_checkpoint.specs.Deltas.{range_of, raised}
pub use Rattle.split_states.specs.declared.facts.RowFacts.{RowFacts}
pub use Rattle.split_states.specs.declared.rows.RowState.{RowState}
pub use Rattle.split_states.specs.declared.rows.Row.{Row}
use Rattle.split_states.specs.declared.rows.RowState.TheVariants.{Staged, Published, Marked}

-- what contracts see of rows: the list, and how many more have room
pub record RowList : Type 0 where
  pub list : List Row
  pub spare : ℕ

abbrev pub is_published : RowState → Bool
is_published Staged = false
is_published Published = true
is_published Marked = false

abbrev pub row_at : List Row → ℕ → Option Row
row_at rows n = find (λ row. row.number == n) rows

abbrev pub row_spans : Option Row → List Span
row_spans None = []
row_spans (Some row) = row.spans

-- the ranges of a number's row, none where there is no row
abbrev pub row_ranges : List Row → ℕ → List Part
row_ranges rows n = map range_of (row_spans (row_at rows n))

-- the spans of the rows of these numbers, joined in their order
abbrev pub joined_spans : List Row → List ℕ → List Span
joined_spans rows numbers = flat_map (λ n. row_spans (row_at rows n)) numbers

-- a row that a Stage makes
abbrev pub staged : (number : ℕ) → List Span → RowFacts → (moment : ℕ) → Row
staged number spans facts moment = record { number = number; state = Staged; spans = spans; facts = facts; staged_at = moment; marked_at = 0; merge_ops = 0 }

-- how an entry changes one row
abbrev pub published : Row → Row
published row = record row { state = Published }

abbrev pub marked : (moment : ℕ) → Row → Row
marked moment row = record row { state = Marked; marked_at = moment }

abbrev pub raised_row : (upto : ℕ) → Row → Row
raised_row upto row = record row { spans = map (raised upto) row.spans }

abbrev pub replacing : List Span → (merge_ops : ℕ) → Row → Row
replacing spans merge_ops row = record row { state = Published; spans = spans; merge_ops = merge_ops }

-- the row of this number changes, and no other
abbrev pub change : ℕ → (Row → Row) → List Row → List Row
change n f [] = []
change n f (row ∷ rows) = if row.number == n then f row ∷ rows else row ∷ change n f rows

abbrev pub change_each : List ℕ → (Row → Row) → List Row → List Row
change_each [] f rows = rows
change_each (n ∷ numbers) f rows = change_each numbers f (change n f rows)

abbrev pub without : ℕ → List Row → List Row
without n rows = filter (λ row. not (row.number == n)) rows

abbrev pub without_each : List ℕ → List Row → List Row
without_each [] rows = rows
without_each (n ∷ numbers) rows = without_each numbers (without n rows)

-- how often a number's row was merged: with one old row it stays, and with several it is one more than the greatest
abbrev pub ops_of : Option Row → ℕ
ops_of None = 0
ops_of (Some row) = row.merge_ops

abbrev pub merged_ops : List Row → List ℕ → ℕ
merged_ops rows [] = 0
merged_ops rows (n ∷ []) = ops_of (row_at rows n)
merged_ops rows (n ∷ m ∷ numbers) = fold (λ most k. max most (ops_of (row_at rows k))) 0 (n ∷ m ∷ numbers) + 1

-- the first is this at least, and each is above the one before it
abbrev pub rising_from : (least : ℕ) → List ℕ → Bool
rising_from least [] = true
rising_from least (n ∷ numbers) = nat_le least n && rising_from (n + 1) numbers

abbrev pub rising : List ℕ → Bool
rising numbers = rising_from 0 numbers

abbrev pub row_numbers : List Row → List ℕ
row_numbers rows = map (λ row. row.number) rows

-- the numbers of the rows rise
abbrev pub RowsRise : List Row → Type 0
RowsRise rows = IsTrue (rising (row_numbers rows))

-- the number is above those of the rows
abbrev pub IsAbove : List Row → ℕ → Type 0
IsAbove rows n = All (λ row. row.number < n) rows

-- the place of a number's row
pub record IsPlace (rows : List Row) (n i : ℕ) : Type 0 where
  pub within : i < length rows
  pub found : row_at rows n ≡ slice_get rows i
  pub changed : (f : Row → Row) (d : Row) → change n f rows ≡ slice_set rows i (f (slice_index_or rows i d))

-- no row has the number
pub record IsAbsent (rows : List Row) (n : ℕ) : Type 0 where
  pub found : row_at rows n ≡ None
  pub changed : (f : Row → Row) → change n f rows ≡ rows
