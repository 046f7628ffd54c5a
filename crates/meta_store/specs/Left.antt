-- What a raise, a merge and a delete leave of what spans hold.
use Rattle.std.specs.Prelude.{ℕ, ◌≡◌, ◌&&◌, Bool, true, false, not, List, [], ◌∷◌, map, filter, flat_map, Some, ⊤}
use Rattle.std.specs.List.{list_any}
use Rattle.delete_tasks.specs.Removed.{Place, lies_in, covered_by}
use Rattle.delete_tasks.specs.Removes.{DeleteTask}
use Rattle.meta_journal.specs.declared.entry.Entry.{Entry}
use Rattle.source_checkpoint.specs.Deltas.{range_of}
use Rattle.source_checkpoint.specs.declared.delta.Part.{Part}
use Rattle.source_checkpoint.specs.declared.span.Span.{Span}
use Rattle.split_states.specs.Rows.{row_at}
use Rattle.split_states.specs.declared.rows.Row.{Row}
use Rattle.split_states.specs.declared.rows.RowState.TheVariants.{Published}
use Rattle.meta_store.specs.Contents.{Meaning, is_kept}
use Rattle.meta_store.specs.History.{history}
use Rattle.meta_store.specs.Numbers.{is_shown}
use Rattle.meta_store.specs.Rows.{rows}

-- some task behind the span's admission and up to this one covers the record
abbrev pub is_covered : {X : Type 0} → Meaning X → List DeleteTask → (upto : ℕ) → Span → X → Bool
is_covered meaning tasks upto s x = covered_by (meaning.matches x) tasks s.admitted upto

-- what a span holds, without what the tasks up to this one cover
abbrev pub left_of : {X : Type 0} → Meaning X → List DeleteTask → List X → (upto : ℕ) → Span → List X
left_of meaning tasks records upto s = filter (λ x. not (is_covered meaning tasks upto s x)) (filter (is_kept meaning tasks s) records)

-- what spans hold, one behind the other, without what the tasks up to this one cover
abbrev pub left_over : {X : Type 0} → Meaning X → List DeleteTask → List X → (upto : ℕ) → List Span → List X
left_over meaning tasks records upto spans = flat_map (left_of meaning tasks records upto) spans

-- ---- which documents of planned rows are dropped

-- some task up to this one covers the record, behind the admission of the span that it lies in
abbrev pub is_dropped : {X : Type 0} → Meaning X → List DeleteTask → (upto : ℕ) → List Span → X → Bool
is_dropped meaning tasks upto spans x = list_any (λ s. lies_in (range_of s) (meaning.place x) && is_covered meaning tasks upto s x) spans

-- a place lies in one of the spans at most
abbrev pub LieApart : List Span → Type 0
LieApart [] = ⊤
LieApart (s ∷ spans) = ((x : Place) → lies_in (range_of s) x ≡ true → list_any (λ t. lies_in (range_of t) x) spans ≡ false) × LieApart spans

-- what a raise leaves of a span: its range, and behind which task it was taken in
abbrev pub mark_of : Span → Part × ℕ
mark_of s = (range_of s, s.admitted)

-- A ROW THAT WAS PLANNED: as long as it is published its spans are those that were seen, applied however far
pub record HasMarks (entries : List Entry) (number : ℕ) (marks : List (Part × ℕ)) : Type 0 where
  pub shown : is_shown (history entries) number ≡ true
  pub kept : (row : Row) → row_at (rows (history entries)) number ≡ Some row → row.state ≡ Published → map mark_of row.spans ≡ marks
