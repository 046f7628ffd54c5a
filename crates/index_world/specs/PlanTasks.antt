-- The tasks up to an opstamp, and those that a plan takes along.
use Rattle.std.specs.Prelude.{ℕ, List, [], ◌∷◌, Option, Some, None, drop, filter, min, nat_le, slice_get}
use Rattle.delete_tasks.specs.Removes.{DeleteTask}
use Rattle.meta_store.specs.declared.planning.Choice.{Choice}
use Rattle.meta_store.specs.declared.planning.Choice.TheVariants as choices
use Rattle.meta_store.specs.declared.planning.PlanRow.{PlanRow}
use Rattle.meta_store.specs.declared.planning.RowWork.{RowWork}
use Rattle.source_checkpoint.specs.declared.span.Span.{Span}

-- those whose opstamps are at most this one, in their order
abbrev pub tasks_upto : (upto : ℕ) → List DeleteTask → List DeleteTask
tasks_upto upto tasks = filter (λ task. nat_le task.opstamp upto) tasks

-- the least task behind which a record of these spans was taken in, and at most the last one: tasks up to it remove none
abbrev pub least_of : (upto : ℕ) → List Span → ℕ
least_of upto [] = upto
least_of upto (s ∷ spans) = min s.admitted (least_of upto spans)

abbrev pub spans_of : Option RowWork → List Span
spans_of None = []
spans_of (Some work) = work.spans

abbrev pub spans_in : Option PlanRow → List Span
spans_in None = []
spans_in (Some row) = spans_of row.work

-- Deletes take the tasks of which some may remove a document of the first row; no other choice takes any.
abbrev pub plan_tasks : Choice → (upto : ℕ) → List PlanRow → List DeleteTask → List DeleteTask
plan_tasks (choices.Search query times) upto rows tasks = []
plan_tasks choices.Merge upto rows tasks = []
plan_tasks choices.Deletes upto rows tasks = drop (least_of upto (spans_in (slice_get rows 0))) tasks
plan_tasks choices.Every upto rows tasks = []
plan_tasks choices.Look upto rows tasks = []
