-- What the steps of a collector did that were no ends, by the journal alone.
use Rattle.std.specs.Prelude.{◌≡◌, ◌<◌, ◌≤◌, ℕ, true, List, [], ◌∷◌, length, slice_get, take, Some, None, ⊤}
use Rattle.meta_journal.specs.declared.entry.Act.TheVariants.{MarkStaged, Remove}
use Rattle.meta_journal.specs.declared.entry.Entry.{Entry}
use Rattle.meta_store.specs.History.{history}
use Rattle.meta_store.specs.Numbers.{has_staged}
use Rattle.meta_store.specs.Rows.{rows}
use Rattle.split_states.specs.Rows.{row_at}
use Rattle.split_states.specs.declared.rows.Row.{Row}
use Rattle.split_states.specs.declared.rows.RowState.TheVariants.{Marked}
use Rattle.split_collector.specs.Outcomes.{Outcome, MarkedStale, Doomed, Removed, Swept, Nothing, Refused, Faulted}

-- the entry at this place of a journal, counted from 0, is a MarkStaged of so many numbers, or a Remove
abbrev pub IsMarking : List Entry → (place count : ℕ) → Type 0
IsMarking entries place count = (entry : Entry) × (numbers : List ℕ) × (slice_get entries place ≡ Some entry) × (entry.act ≡ MarkStaged numbers) × (length numbers ≡ count)

abbrev pub IsRemoval : List Entry → (place count : ℕ) → Type 0
IsRemoval entries place count = (entry : Entry) × (numbers : List ℕ) × (slice_get entries place ≡ Some entry) × (entry.act ≡ Remove numbers) × (length numbers ≡ count)

-- the row of a number is marked behind so many entries
abbrev pub IsMarkedAt : (revision : ℕ) → List Entry → (number : ℕ) → Type 0
IsMarkedAt revision entries number = (row : Row) × (row_at (rows (history (take revision entries))) number ≡ Some row) × (row.state ≡ Marked)

-- a number was staged, and has no row any more behind so many entries
abbrev pub IsGoneAt : (revision : ℕ) → List Entry → (number : ℕ) → Type 0
IsGoneAt revision entries number = (has_staged (take revision entries) number ≡ true) × (row_at (rows (history (take revision entries))) number ≡ None)

-- A step that is no end did what it said: the entry that it tells of stands at a place from `least` on and below `next`; and the number whose file
-- it deleted was marked, or gone, at a revision from `least` up to `next`.
abbrev pub DidBetween : List Entry → (least next : ℕ) → Outcome → Type 0
DidBetween entries least next (MarkedStale count) = (0 < count) × (place : ℕ) × (least ≤ place) × (place < next) × IsMarking entries place count
DidBetween entries least next (Doomed number) = (revision : ℕ) × (least ≤ revision) × (revision ≤ next) × IsMarkedAt revision entries number
DidBetween entries least next (Removed count) = (0 < count) × (place : ℕ) × (least ≤ place) × (place < next) × IsRemoval entries place count
DidBetween entries least next (Swept number) = (revision : ℕ) × (least ≤ revision) × (revision ≤ next) × IsGoneAt revision entries number
DidBetween entries least next Nothing = ⊥
DidBetween entries least next (Refused refusal) = ⊥
DidBetween entries least next (Faulted fault) = ⊥

-- So did each of them behind so many entries, up to where the next one begins: no two of them tell of one entry.
abbrev pub CollectsFrom : List Entry → (least : ℕ) → List Outcome → Type 0
CollectsFrom entries least [] = ⊤
CollectsFrom entries least (outcome ∷ outcomes) = (next : ℕ) × (least ≤ next) × (next ≤ length entries) × DidBetween entries least next outcome × CollectsFrom entries next outcomes
