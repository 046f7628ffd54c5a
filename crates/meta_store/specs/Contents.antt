-- Which records of the log are seen, by the ledger and by the rows. What a record and its document are is a parameter.
use Rattle.std.specs.Prelude.{ℕ, ◌≡◌, ◌==◌, ◌&&◌, Bool, true, not, List, Some, filter, flat_map, nat_lt}
use Rattle.std.specs.List.{list_any}
use Rattle.source_checkpoint.specs.declared.span.Span.{Span}
use Rattle.source_checkpoint.specs.Deltas.{Partition, range_of}
use Rattle.doc_value.specs.declared.doc.DocField.{DocField}
use Rattle.doc_value.specs.declared.schema.Schema.{Schema}
use Rattle.split_states.specs.declared.rows.Row.{Row}
use Rattle.source_checkpoint.specs.declared.delta.Part.{Part}
use Rattle.split_states.specs.Answers.{IsOld}
use Rattle.split_states.specs.Rows.{is_published, row_at}
use Rattle.split_states.specs.declared.rows.RowState.TheVariants.{Published}
use Rattle.delete_tasks.specs.Removes.{DeleteTask, removes}
use Rattle.delete_tasks.specs.Ledger.{Ledger, is_among}
use Rattle.delete_tasks.specs.Removed.{Place, lies_in, erased_by, removed_where}
use Rattle.meta_store.specs.Readings.{Reads}
use Rattle.meta_store.specs.History.{History, reach}
use Rattle.meta_store.specs.Ledgers.{ledger}
use Rattle.meta_store.specs.Rows.{rows}

-- where a record stands, and whether a task's query and times match its document
pub record Meaning (X : Type 0) : Type 0 where
  pub place : X → Place
  pub matches : X → DeleteTask → Bool

-- below the checkpoint, and not removed
abbrev pub is_visible : {X : Type 0} → Meaning X → Ledger → X → Bool
is_visible meaning l x =
    nat_lt (meaning.place x).offset (l.checkpoints (meaning.place x).partition) && not (removed_where (meaning.matches x) l (meaning.place x))

-- of the accepted records of the log, in its order, those that are visible
abbrev pub visible : {X : Type 0} → Meaning X → Ledger → List X → List X
visible meaning l records = filter (is_visible meaning l) records

-- in the span, and not erased by the tasks that its marks name
abbrev pub is_kept : {X : Type 0} → Meaning X → List DeleteTask → Span → X → Bool
is_kept meaning tasks s x = lies_in (range_of s) (meaning.place x) && not (erased_by (meaning.matches x) tasks s)

-- the accepted records of a row's spans, in the order of the spans, without those that are erased
abbrev pub contents : {X : Type 0} → Meaning X → List DeleteTask → List X → Row → List X
contents meaning tasks records row = flat_map (λ s. filter (is_kept meaning tasks s) records) row.spans

abbrev pub published_rows : List Row → List Row
published_rows rows = filter (λ row. is_published row.state) rows

abbrev pub published_contents : {X : Type 0} → Meaning X → Reads → History → List X → List X
published_contents meaning reads h records = flat_map (contents meaning (ledger reads h).tasks records) (published_rows (rows h))

-- a document and where its record stands
pub record Placed : Type 0 where
  pub partition : Partition
  pub offset : ℕ
  pub doc : List DocField

-- what real tasks are to it: a task matches where it removes the document, by a schema
abbrev pub meaning_by : Schema → Meaning Placed
meaning_by schema = record { place = λ x. record { partition = x.partition; offset = x.offset }; matches = λ x task. removes schema x.doc task }

-- ---- what a Retire takes out

-- in a live span with one of these ranges, and not erased there
abbrev pub is_taken_out : {X : Type 0} → Meaning X → Ledger → List Part → X → Bool
is_taken_out meaning l ranges x = list_any (λ s. is_among ranges s && is_kept meaning l.tasks s x) l.spans

-- the accepted records that a Retire of these rows takes out
abbrev pub taken_out : {X : Type 0} → Meaning X → Reads → History → List ℕ → List X → List X
taken_out meaning reads h numbers records = filter (is_taken_out meaning (ledger reads h) (flat_map (reach h) numbers)) records

-- a record that is held, and not erased, by one of these Published rows, all of whose documents are a period old
pub record IsTakenFrom {X : Type 0} (meaning : Meaning X) (reads : Reads) (h : History) (moment period : ℕ) (numbers : List ℕ) (x : X) : Type 0 where
  pub number : ℕ
  pub among : list_any (λ n. n == number) numbers ≡ true
  pub row : Row
  pub found : row_at (rows h) number ≡ Some row
  pub published : row.state ≡ Published
  pub old : IsOld moment period row.facts
  pub holds : list_any (λ s. is_kept meaning (ledger reads h).tasks s x) row.spans ≡ true
