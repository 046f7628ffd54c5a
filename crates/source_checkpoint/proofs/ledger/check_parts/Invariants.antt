use Rattle.std.proofs.Common.{◌≡◌, [], take, drop}
use Rattle.source_checkpoint.specs.Deltas.{answer_to_admit}
use Rattle.source_checkpoint.specs.Checkpoints.{checkpoint_at}
use Rattle.source_checkpoint.proofs.ledger.check_parts.Given as goal

abbrev pub invariant-loop-i : goal.invariant-loop-i
invariant-loop-i l = answer_to_admit (checkpoint_at l.checkpoints) (take l.i l.parts) (drop l.i l.parts) ≡ answer_to_admit (checkpoint_at l.checkpoints) [] l.parts
