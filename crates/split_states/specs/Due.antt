-- For how long rows have stood as they stand: which staged rows are stale, and which marked rows are due.
use Rattle.std.specs.Prelude.{ℕ, ◌+◌, ◌&&◌, Bool, true, false, List, filter, find, nat_le, Option}
use Rattle.split_states.specs.declared.rows.RowState.TheVariants.{Staged, Published, Marked}
use Rattle.split_states.specs.declared.stamps.Stamp.{Stamp}
use Rattle.split_states.specs.Rows.{Row, RowState, row_numbers}

abbrev pub is_staged : RowState → Bool
is_staged Staged = true
is_staged Published = false
is_staged Marked = false

abbrev pub is_marked : RowState → Bool
is_marked Staged = false
is_marked Published = false
is_marked Marked = true

-- A STALE ROW: it is staged, and a grace has passed since its Stage
abbrev pub is_stale : (now grace : ℕ) → Row → Bool
is_stale now grace row = is_staged row.state && nat_le (row.staged_at + grace) now

-- A DUE ROW: it is marked, and a grace has passed since it was
abbrev pub is_due : (now grace : ℕ) → Row → Bool
is_due now grace row = is_marked row.state && nat_le (row.marked_at + grace) now

-- the numbers of the stale rows, in the order of the rows
abbrev pub stale_rows : (now grace : ℕ) → List Row → List ℕ
stale_rows now grace rows = row_numbers (filter (is_stale now grace) rows)

-- the first row from a number on for which this is so
abbrev pub first_from : (from : ℕ) → (Row → Bool) → List Row → Option Row
first_from from test rows = find test (filter (λ row. nat_le from row.number) rows)

abbrev pub next_marked : (from : ℕ) → List Row → Option Row
next_marked from rows = first_from from (λ row. is_marked row.state) rows

abbrev pub next_due : (from now grace : ℕ) → List Row → Option Row
next_due from now grace rows = first_from from (is_due now grace) rows

-- ---- rows as they are kept for a pass over all of them

abbrev pub stamp_of : Row → Stamp
stamp_of row = record { number = row.number; state = row.state; staged_at = row.staged_at; marked_at = row.marked_at }

abbrev pub stamp_number : Stamp → ℕ
stamp_number s = s.number

abbrev pub stamped_stale : (now grace : ℕ) → Stamp → Bool
stamped_stale now grace s = is_staged s.state && nat_le (s.staged_at + grace) now

abbrev pub stamped_marked : Stamp → Bool
stamped_marked s = is_marked s.state

abbrev pub stamped_due : (now grace : ℕ) → Stamp → Bool
stamped_due now grace s = is_marked s.state && nat_le (s.marked_at + grace) now
