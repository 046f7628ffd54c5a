-- When planned rows are lost.
use Rattle.std.specs.Prelude.{◌≡◌, ℕ, List, [], ◌∷◌, ◌++◌, Option, Some, None}
use Rattle.std.specs.List.{AllByRecursion}
use Rattle.meta_journal.specs.declared.entry.Entry.{Entry}
use Rattle.meta_store.specs.History.{history}
use Rattle.meta_store.specs.Rows.{rows}
use Rattle.split_states.specs.Answers.{IsIn, IsRow}
use Rattle.split_states.specs.declared.rows.Row.{Row}
use Rattle.split_states.specs.declared.rows.RowState.TheVariants.{Published, Staged}
use Rattle.index_world.specs.Core.{Core}
use Rattle.upkeep_run.specs.Outcomes.{UpkeepOutcome, Nothing, Planned, Fetched, Uploaded, Replaced, Raised, Lost, Refused, Faulted}
use Rattle.upkeep_run.specs.Outcomes as outcomes

abbrev pub rows_in : List Entry → List Row
rows_in entries = rows (history entries)

-- its own row is staged for a replacement, and each row of the plan is published
abbrev pub CanReplace : List Row → (new : ℕ) → (old : List ℕ) → Type 0
CanReplace rows new old = IsRow Staged (λ row. row.spans ≡ []) rows new × AllByRecursion (IsIn Published rows) old

abbrev pub CanRaise : List Row → (number : ℕ) → Type 0
CanRaise rows number = IsIn Published rows number

-- an entry was taken in, behind a history of which this was so
abbrev pub TakenWhere : (List Row → Type 0) → Core → Type 0
TakenWhere Can after = (before : List Entry) × (entry : Entry) × (after.history ≡ before ++ entry ∷ []) × Can (rows_in before)

-- An outcome is Lost exactly where this isn't so of the rows: it is Lost where the history that the step came to has no such rows, and
-- Replaced or Raised where the one before its entry has.
abbrev pub LosesUnless : (List Row → Type 0) → Option UpkeepOutcome → Core → Type 0
LosesUnless Can None after = Unit {0}
LosesUnless Can (Some Nothing) after = Unit {0}
LosesUnless Can (Some (Planned count)) after = Unit {0}
LosesUnless Can (Some (Fetched number)) after = Unit {0}
LosesUnless Can (Some (outcomes.Staged number)) after = Unit {0}
LosesUnless Can (Some (Uploaded number)) after = Unit {0}
LosesUnless Can (Some (Replaced number)) after = TakenWhere Can after
LosesUnless Can (Some (Raised number)) after = TakenWhere Can after
LosesUnless Can (Some (Lost number refusal)) after = Can (rows_in after.history) → ⊥
LosesUnless Can (Some (Refused refusal)) after = Unit {0}
LosesUnless Can (Some (Faulted fault)) after = Unit {0}
