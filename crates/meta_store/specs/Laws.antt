-- What holds of every legal history.
use Rattle.std.specs.Prelude.{ℕ, ◌≡◌, ◌+◌, ◌<◌, ◌≤◌, ◌&&◌, Bool, List, [], ◌∷◌, ◌++◌, length, map, filter, flat_map, sum_by, if◌then◌else◌, ⊤, IsPermutation, bytes_eq, nat_le, nat_lt}
use Rattle.std.specs.List.{AllByRecursion}
use Rattle.source_checkpoint.specs.declared.delta.Part.{Part}
use Rattle.source_checkpoint.specs.declared.span.Span.{Span}
use Rattle.source_checkpoint.specs.Deltas.{Partition, range_of, IsSpan}
use Rattle.source_checkpoint.specs.Checkpoints.{checkpoint_at}
use Rattle.split_states.specs.declared.rows.Row.{Row}
use Rattle.split_states.specs.Rows.{is_published}
use Rattle.split_states.specs.Answers.{AreApart}
use Rattle.meta_journal.specs.declared.entry.Entry.{Entry}
use Rattle.delete_tasks.specs.Removes.{DeleteTask}
use Rattle.delete_tasks.specs.Ledger.{Ledger, last_of}
use Rattle.meta_store.specs.History.{History, history, delta_of, staged_numbers, published_numbers}
use Rattle.meta_store.specs.Ledgers.{ledger}
use Rattle.meta_store.specs.Retired.{AreJoined}
use Rattle.meta_store.specs.Rows.{rows}
use Rattle.meta_store.specs.Readings.{Reads}
use Rattle.meta_store.specs.State.{state_of}

-- the spans of all Published rows, put together
abbrev pub shown : Row → List Span
shown row = if is_published row.state then row.spans else []

abbrev pub published_spans : List Row → List Span
published_spans rows = flat_map shown rows

abbrev pub of_partition : Partition → List Part → List Part
of_partition p ranges = filter (λ r. bytes_eq r.partition p) ranges

-- the ranges lead from one place to the other without a gap or an overlap
abbrev pub Covers : ℕ → ℕ → List Part → Type 0
Covers low high [] = low ≡ high
Covers low high (r ∷ ranges) = (r.from ≡ low) × (r.from < r.to) × Covers r.to high ranges

-- put in order, they lead from 0 to there
pub record CoversInOrder (high : ℕ) (ranges : List Part) : Type 0 where
  pub in_order : List Part
  pub same : IsPermutation in_order ranges
  pub covers : Covers 0 high in_order

-- the ranges of the live spans, and the retired ones
abbrev pub all_ranges : Ledger → List Part
all_ranges l = map range_of l.spans ++ l.retired

pub record Once (reads : Reads) (h : History) : Type 0 where
  -- the Published rows' spans are the ledger's live ones, each once, with the same marks
  pub each_once : IsPermutation (published_spans (rows h)) (ledger reads h).spans
  -- in each partition the live spans and the retired ranges, put in order, cover 0 to the checkpoint
  pub covers : (p : Partition) → CoversInOrder ((ledger reads h).checkpoints p) (of_partition p (all_ranges (ledger reads h)))

-- how many of these ranges hold the place
abbrev pub holds_place : Partition → ℕ → Part → Bool
holds_place p offset r = bytes_eq r.partition p && (nat_le r.from offset && nat_lt offset r.to)

abbrev pub times_at : Partition → ℕ → List Part → ℕ
times_at p offset ranges = sum_by (λ r. if holds_place p offset r then 1 else 0) ranges

-- the state's counters are those of the ledger
pub record IsCounted (reads : Reads) (entries : List Entry) : Type 0 where
  pub revision : (state_of reads (history entries)).revision ≡ length entries
  pub moment : AllByRecursion (λ e. e.moment ≤ (state_of reads (history entries)).moment) entries
  pub tasks : (state_of reads (history entries)).tasks ≡ (ledger reads (history entries)).tasks
  pub asks : length (state_of reads (history entries)).asks ≡ length (ledger reads (history entries)).tasks
  pub last_opstamp : last_of (ledger reads (history entries)).tasks ≡ length (ledger reads (history entries)).tasks
  pub spans : (state_of reads (history entries)).span_count ≡ length (ledger reads (history entries)).spans
  pub checkpoints : (p : Partition) → checkpoint_at (state_of reads (history entries)).checkpoints p ≡ (ledger reads (history entries)).checkpoints p
  -- the retired ranges hold the same places, and are in order, apart and joined where they touch
  pub retired : (p : Partition) (offset : ℕ) → times_at p offset (state_of reads (history entries)).retired ≡ times_at p offset (ledger reads (history entries)).retired
  pub joined : AreJoined (state_of reads (history entries)).retired

-- opstamps go up by one from the first
abbrev pub NumberedFrom : ℕ → List DeleteTask → Type 0
NumberedFrom first [] = ⊤
NumberedFrom first (task ∷ tasks) = (task.opstamp ≡ first) × NumberedFrom (first + 1) tasks

-- each number is given once
pub record IsNumbered (reads : Reads) (h : History) : Type 0 where
  -- no two Stages have one number
  pub staged : AreApart (staged_numbers h)
  -- the tasks' opstamps are 1, 2, and so on
  pub tasks : NumberedFrom 1 (ledger reads h).tasks
  -- no two Publishes have one number, or take in one record
  pub published : AreApart (published_numbers h)
  pub taken_once : (p : Partition) (offset : ℕ) → times_at p offset (flat_map (delta_of h) (published_numbers h)) ≤ 1

-- the numbers of rows rise, so each number stands in one row at most
abbrev pub RowsRise : List Row → Type 0
RowsRise [] = ⊤
RowsRise (row ∷ rows) = AllByRecursion (λ behind. row.number < behind.number) rows × RowsRise rows

-- rows and spans have their form
pub record IsFormed (reads : Reads) (h : History) : Type 0 where
  pub rows_rise : RowsRise (rows h)
  pub row_spans : AllByRecursion (λ row. AllByRecursion (IsSpan (last_of (ledger reads h).tasks)) row.spans) (rows h)
  pub ledger_spans : AllByRecursion (IsSpan (last_of (ledger reads h).tasks)) (ledger reads h).spans
