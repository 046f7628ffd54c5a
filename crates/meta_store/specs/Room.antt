-- The state with the room that was made ahead for the next entry.
use Rattle.std.specs.Prelude.{ℕ, ◌≡◌, ◌<◌, ◌≤◌, List, [], length, ⊤, All}
use Rattle.meta_journal.specs.declared.entry.Act.{Act}
use Rattle.meta_journal.specs.declared.entry.Act.TheVariants.{Fence, Create, Stage, Publish, Replace, Raise, MarkStaged, Remove, Retire}
use Rattle.meta_journal.specs.declared.entry.Act.TheVariants.{Task as AddTask}
use Rattle.source_checkpoint.specs.declared.span.Span.{Span}
use Rattle.split_states.specs.declared.rows.Row.{Row}
use Rattle.split_states.specs.Rows.{row_ranges, joined_spans}
use Rattle.meta_store.specs.State.{State}

-- what contracts see of a Meta
pub record Kept : Type 0 where
  pub state : State
  -- how many more checkpoints, rows, tasks and retired ranges have room
  pub checkpoint_room : ℕ
  pub row_room : ℕ
  pub task_room : ℕ
  pub retired_room : ℕ
  -- the spans that were made ahead, and how many have room in their place
  pub spare : List Span
  pub spare_room : ℕ

-- what an act needs
abbrev pub HasRoom : Act → Kept → Type 0
HasRoom Fence k = ⊤
HasRoom (Create config) k = ⊤
HasRoom (Stage number delta facts) k = (0 < k.row_room) × (k.spare ≡ []) × (length delta ≤ k.spare_room)
HasRoom (Publish number) k = length (row_ranges k.state.rows number) ≤ k.checkpoint_room
HasRoom (Replace new old upto) k = k.spare ≡ joined_spans k.state.rows old
HasRoom (Raise number upto) k = ⊤
HasRoom (AddTask opstamp text fields times) k = 0 < k.task_room
HasRoom (MarkStaged numbers) k = ⊤
HasRoom (Remove numbers) k = ⊤
HasRoom (Retire numbers) k = length (joined_spans k.state.rows numbers) ≤ k.retired_room

-- each row was merged at most this often
abbrev pub MergedUpTo : ℕ → List Row → Type 0
MergedUpTo bound rows = All (λ row. row.merge_ops ≤ bound) rows
