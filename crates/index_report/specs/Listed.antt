-- Which partitions the report on an index names.
use Rattle.std.specs.Prelude.{◌≡◌, ◌<◌, Bool, List, bytes_eq, IsTrue}
use Rattle.std.specs.List.{list_any, AllByRecursion}
use Rattle.source_checkpoint.specs.declared.ledger.Checkpoint.{Checkpoint}
use Rattle.source_checkpoint.specs.Deltas.{Partition}
use Rattle.source_checkpoint.specs.Checkpoints.{IsInOrder}
use Rattle.delete_tasks.specs.Ledger.{Ledger}

abbrev pub is_named : List Checkpoint → Partition → Bool
is_named checkpoints p = list_any (λ c. bytes_eq c.partition p) checkpoints

-- Those from which something was taken in and no others, in the order of their names' bytes, so each once, and each
-- with the ledger's checkpoint.
pub record AreNamed (checkpoints : List Checkpoint) (l : Ledger) : Type 0 where
  pub in_order : IsInOrder checkpoints
  pub each : AllByRecursion (λ c. (c.at ≡ l.checkpoints c.partition) × (0 < c.at)) checkpoints
  pub all : (p : Partition) → 0 < l.checkpoints p → IsTrue (is_named checkpoints p)
