use Rattle.std.proofs.Common.{◌≡◌, drop}
use Rattle.std.specs.Prelude.{find}
use Rattle.split_states.specs.Due.{stamped_marked}
use Rattle.split_states.proofs.stamps.first_marked.Given as goal

abbrev pub invariant-loop-stamp : goal.invariant-loop-stamp
invariant-loop-stamp l = find stamped_marked (drop l.stamp-index l.stamps) ≡ find stamped_marked l.stamps
