use Rattle.std.proofs.Common.{◌≡◌, drop}
use Rattle.std.specs.Prelude.{find}
use Rattle.split_states.specs.Due.{stamped_due}
use Rattle.split_states.proofs.stamps.first_due.Given as goal

abbrev pub invariant-loop-stamp : goal.invariant-loop-stamp
invariant-loop-stamp l = find (stamped_due l.now l.grace) (drop l.stamp-index l.stamps) ≡ find (stamped_due l.now l.grace) l.stamps
