use Rattle.std.proofs.Common.{◌≡◌, [], map, take, drop}
use Rattle.source_checkpoint.specs.Deltas.{answer_to_admit, range_of}
use Rattle.source_checkpoint.specs.Checkpoints.{checkpoint_at}
use Rattle.source_checkpoint.proofs.ledger.Ledger.check_spans.Given as goal

abbrev pub invariant-loop-i : goal.invariant-loop-i
invariant-loop-i l = answer_to_admit (checkpoint_at l.self.list) (map range_of (take l.i l.list)) (map range_of (drop l.i l.list)) ≡ answer_to_admit (checkpoint_at l.self.list) [] (map range_of l.list)
