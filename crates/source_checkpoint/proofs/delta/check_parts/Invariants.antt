use Rattle.std.proofs.Common.{◌≡◌, [], take, drop}
use Rattle.source_checkpoint.specs.Deltas.{answer_to_delta}
use Rattle.source_checkpoint.proofs.delta.check_parts.Given as goal

abbrev pub invariant-loop-i : goal.invariant-loop-i
invariant-loop-i l = answer_to_delta (take l.i l.parts) (drop l.i l.parts) ≡ answer_to_delta [] l.parts
