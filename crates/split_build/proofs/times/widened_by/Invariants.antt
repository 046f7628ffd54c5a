use Rattle.std.proofs.Common.{ℤ, List, length, ◌++◌}
use Rattle.std.specs.List.{flat_map}
use Rattle.split_build.specs.Times.{AreTimes}
use Rattle.split_bundle.specs.Tagged.{second_of}
use Rattle.split_build.proofs.OnWay.{IsOnWay}
use Rattle.split_build.proofs.times.widened_by.Given as goal

abbrev pub invariant-loop-value : goal.invariant-loop-value
invariant-loop-value l = (seconds : List ℤ) → AreTimes seconds l.fn.times → IsOnWay (λ zs. AreTimes zs l.times) (flat_map second_of l.rest) (seconds ++ flat_map second_of l.values)

abbrev pub decreases-loop-value : goal.decreases-loop-value
decreases-loop-value l = length l.rest
