use Rattle.std.proofs.Common.{◌≡◌, drop}
use Rattle.source_checkpoint.specs.Checkpoints.{checkpoint_at}
use Rattle.indexing_run.proofs.queue.position_in.Given as goal

abbrev pub invariant-loop-checkpoint : goal.invariant-loop-checkpoint
invariant-loop-checkpoint l = checkpoint_at (drop l.checkpoint-index l.checkpoints) l.partition ≡ checkpoint_at l.checkpoints l.partition
