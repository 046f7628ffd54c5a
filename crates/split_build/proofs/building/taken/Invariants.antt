use Rattle.std.proofs.Common.{length}
use Rattle.split_bundle.specs.declared.placed.Placed.{Placed}
use Rattle.split_build.specs.Builders.{HasTaken}
use Rattle.split_build.proofs.OnWay.{IsOnWay}
use Rattle.split_build.proofs.building.taken.Given as goal

abbrev pub invariant-loop-placed : goal.invariant-loop-placed
invariant-loop-placed l = IsOnWay {X = Placed} (HasTaken l.builder l.schema) l.rest l.documents

abbrev pub decreases-loop-placed : goal.decreases-loop-placed
decreases-loop-placed l = length l.rest
