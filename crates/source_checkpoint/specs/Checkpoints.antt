-- How far each partition was taken in, as a list in the order of the names.
use Rattle.std.specs.Prelude.{ℕ, ◌≡◌, List, [], ◌∷◌, if◌then◌else◌, map, length, slice_set, slice_index_or, insert, ◌<◌, ◌≤◌, bytes_eq, IsTrue}
use Rattle.std.specs.Ordering.{nat_cmp}
use Rattle.std.specs.Cmp.Lexicographic.{slice_cmp}
use Rattle.std.specs.FinMap.Entries.{by_order, is_sorted}
pub use Rattle.source_checkpoint.specs.declared.ledger.Checkpoint.{Checkpoint}
use Rattle.source_checkpoint.specs.Deltas.{Partition, Part}

-- 0 for a partition that is not listed
abbrev pub checkpoint_at : List Checkpoint → Partition → ℕ
checkpoint_at [] p = 0
checkpoint_at (c ∷ checkpoints) p = if bytes_eq c.partition p then c.at else checkpoint_at checkpoints p

abbrev pub entry : Checkpoint → Partition × ℕ
entry c = (c.partition, c.at)

abbrev pub entries : List Checkpoint → List (Partition × ℕ)
entries checkpoints = map entry checkpoints

-- the names rise
abbrev pub IsInOrder : List Checkpoint → Type 0
IsInOrder checkpoints = IsTrue (is_sorted (slice_cmp nat_cmp) (entries checkpoints))

abbrev pub end_of : Part → Checkpoint
end_of part = record { partition = part.partition; at = part.to }

-- the checkpoint of the part's partition moves to its end, or is put in at its place in the order
abbrev pub move_to : Part → List Checkpoint → List Checkpoint
move_to part [] = end_of part ∷ []
move_to part (c ∷ checkpoints) =
    by_order (slice_cmp nat_cmp c.partition part.partition) (c ∷ move_to part checkpoints) (end_of part ∷ checkpoints) (end_of part ∷ c ∷ checkpoints)

abbrev pub move_all : List Part → List Checkpoint → List Checkpoint
move_all [] checkpoints = checkpoints
move_all (part ∷ parts) checkpoints = move_all parts (move_to part checkpoints)

-- what contracts see of a ledger: its checkpoints, and how many more have room
pub record Checkpoints : Type 0 where
  pub list : List Checkpoint
  pub spare : ℕ

-- the place of a partition's checkpoint, and the place at which that of an unlisted one would be put in
pub record IsListedAt (checkpoints : List Checkpoint) (p : Partition) (i : ℕ) : Type 0 where
  pub within : i < length checkpoints
  pub moves : (part : Part) → part.partition ≡ p → move_to part checkpoints ≡ slice_set checkpoints i (end_of part)
  pub reads : (d : Checkpoint) → checkpoint_at checkpoints p ≡ (slice_index_or checkpoints i d).at

pub record IsPutAt (checkpoints : List Checkpoint) (p : Partition) (i : ℕ) : Type 0 where
  pub within : i ≤ length checkpoints
  pub moves : (part : Part) → part.partition ≡ p → move_to part checkpoints ≡ insert checkpoints i (end_of part)
  pub reads : checkpoint_at checkpoints p ≡ 0
