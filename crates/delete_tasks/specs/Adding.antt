-- When a task may not be added.
use Rattle.std.specs.Prelude.{ℕ, ◌≡◌, ◌<◌, ◌≤◌, Result, Ok, Err, ⊤}
use Rattle.delete_tasks.specs.declared.tasks.TaskError.{TaskError}
use Rattle.delete_tasks.specs.declared.tasks.TaskError.TheVariants.{TooManyTasks, Memory}

-- exactly where 10,000 stand, but for want of memory
abbrev pub IsRefusedAt : (count : ℕ) → Result ℕ TaskError → Type 0
IsRefusedAt count (Ok opstamp) = count < 10000
IsRefusedAt count (Err (TooManyTasks stands)) = (10000 ≤ count) × (stands ≡ count)
IsRefusedAt count (Err (Memory e)) = count < 10000
