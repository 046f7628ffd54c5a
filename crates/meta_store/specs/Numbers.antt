-- What a history says of a number, and where its row stands against that.
use Rattle.std.specs.Prelude.{ℕ, ◌≡◌, ◌≤◌, ◌==◌, Bool, true, false, List, Some}
use Rattle.std.specs.List.{AllByRecursion, list_any}
use Rattle.meta_journal.specs.declared.entry.Act.{Act}
use Rattle.meta_journal.specs.declared.entry.Entry.{Entry}
use Rattle.source_checkpoint.specs.Deltas.{Partition}
use Rattle.source_checkpoint.specs.declared.delta.Part.{Part}
use Rattle.source_checkpoint.specs.declared.span.Span.{Span}
use Rattle.split_states.specs.Rows.{row_at}
use Rattle.split_states.specs.declared.facts.RowFacts.{RowFacts}
use Rattle.split_states.specs.declared.rows.Row.{Row}
use Rattle.split_states.specs.declared.rows.RowState.TheVariants.{Staged, Published, Marked}
use Rattle.meta_store.specs.History.{History, history, delta_of, staged_numbers, shown_numbers}
use Rattle.meta_store.specs.Ledgers.{ledger}
use Rattle.meta_store.specs.Readings.{Reads, reading_of, config_of}
use Rattle.meta_store.specs.Rows.{rows}
use Rattle.meta_store.specs.State.{MayCome, MayFollow, state_of}

-- the act may come behind this history, and the entry behind these
abbrev pub Comes : Reads → History → (moment : ℕ) → Act → Type 0
Comes reads h moment act = MayCome (reading_of reads (config_of reads h) act) (config_of reads h) (state_of reads h) moment act

abbrev pub IsAllowed : Reads → List Entry → Entry → Type 0
IsAllowed reads entries entry = MayFollow (reading_of reads (config_of reads (history entries)) entry.act) (state_of reads (history entries)) entry

-- whether a number was ever staged, and whether it was ever shown. Both are said of entries, so they outlast the row.
abbrev pub has_staged : List Entry → ℕ → Bool
has_staged entries number = list_any (λ n. n == number) (staged_numbers (history entries))

abbrev pub is_shown : History → ℕ → Bool
is_shown h number = list_any (λ n. n == number) (shown_numbers h)

-- the row of a staged number was marked, or is gone
pub record IsGivenUp (entries : List Entry) (number : ℕ) : Type 0 where
  pub staged : has_staged entries number ≡ true
  pub row : (row : Row) → row_at (rows (history entries)) number ≡ Some row → row.state ≡ Marked

-- what a number was staged with
pub record HasStaged (entries : List Entry) (number : ℕ) (delta : List Part) (facts : RowFacts) : Type 0 where
  pub staged : has_staged entries number ≡ true
  pub noted : delta_of (history entries) number ≡ delta
  pub kept : (row : Row) → row_at (rows (history entries)) number ≡ Some row → row.facts ≡ facts

-- no staged row was shown
abbrev pub AreFresh : History → Type 0
AreFresh h = AllByRecursion (λ x. x.state ≡ Staged → is_shown h x.number ≡ false) (rows h)

-- the span ends at the checkpoint or below it
abbrev pub EndsWithin : (Partition → ℕ) → Span → Type 0
EndsWithin checkpoints s = s.to ≤ checkpoints s.partition

-- A staged row was not shown, a published one was, and the spans of one that was end within the checkpoints: also those of a
-- marked row.
pub record IsPlaced (reads : Reads) (h : History) (row : Row) : Type 0 where
  pub fresh : row.state ≡ Staged → is_shown h row.number ≡ false
  pub published : row.state ≡ Published → is_shown h row.number ≡ true
  pub within : is_shown h row.number ≡ true → AllByRecursion (EndsWithin (ledger reads h).checkpoints) row.spans
