-- The ledger: what was taken in and what was removed from it, told by ranges of records and by tasks.
use Rattle.std.specs.Prelude.{ℕ, ◌≡◌, ◌+◌, ◌≤◌, Bool, not, List, [], ◌∷◌, ◌++◌, map, filter, max, if◌then◌else◌}
use Rattle.std.specs.List.{list_any}
use Rattle.source_checkpoint.specs.declared.delta.Part.{Part}
use Rattle.source_checkpoint.specs.declared.span.Span.{Span}
use Rattle.source_checkpoint.specs.Deltas.{Partition, range_of, same_range, spans_of, moved}
use Rattle.delete_tasks.specs.Removes.{DeleteTask}

-- what contracts see of tasks: the list, and how many more have room
pub record TaskList : Type 0 where
  pub list : List DeleteTask
  pub spare : ℕ

pub record Ledger : Type 0 where
  pub checkpoints : Partition → ℕ
  pub tasks : List DeleteTask
  -- the live spans, and the ranges that were retired
  pub spans : List Span
  pub retired : List Part

abbrev pub vacant : Ledger
vacant = record { checkpoints = λ p. 0; tasks = []; spans = []; retired = [] }

abbrev pub is_among : List Part → Span → Bool
is_among ranges s = list_any (λ r. same_range r (range_of s)) ranges

-- a span with one of these ranges is applied up to the task at least
abbrev pub raised_among : List Part → ℕ → Span → Span
raised_among ranges upto s = record s { applied = if is_among ranges s then max s.applied upto else s.applied }

-- the opstamp of the last task, 0 for none
abbrev pub last_of : List DeleteTask → ℕ
last_of [] = 0
last_of (task ∷ []) = task.opstamp
last_of (task ∷ next ∷ tasks) = last_of (next ∷ tasks)

-- Admit: each part is a span behind the task k, and the checkpoints move
abbrev pub admit : List Part → ℕ → Ledger → Ledger
admit delta k l = record l { checkpoints = moved delta l.checkpoints; spans = l.spans ++ spans_of k delta }

-- AddTask, which is allowed where the opstamp is one more than the last one
abbrev pub add_task : DeleteTask → Ledger → Ledger
add_task task l = record l { tasks = l.tasks ++ task ∷ [] }

abbrev pub MayAdd : DeleteTask → List DeleteTask → Type 0
MayAdd task tasks = task.opstamp ≡ last_of tasks + 1

-- Raise, which is allowed up to the last task
abbrev pub raise : List Part → ℕ → Ledger → Ledger
raise ranges upto l = record l { spans = map (raised_among ranges upto) l.spans }

abbrev pub MayRaise : ℕ → List DeleteTask → Type 0
MayRaise upto tasks = upto ≤ last_of tasks

-- Retire: the live spans with these ranges leave, and their ranges are retired
abbrev pub retire : List Part → Ledger → Ledger
retire ranges l = record l { spans = filter (λ s. not (is_among ranges s)) l.spans; retired = l.retired ++ map range_of (filter (is_among ranges) l.spans) }
