use Rattle.std.proofs.Common.{◌≡◌, ◌≤◌, ◌+◌, length, min}
use Rattle.split_bundle.specs.Documents.{total_weight}
use Rattle.split_build.specs.Limits.{most}
use Rattle.split_build.proofs.weights.weight_of.Given as goal

abbrev pub invariant-loop-placed : goal.invariant-loop-placed
invariant-loop-placed l = record {
  sum : min (l.weight + total_weight l.rest) most ≡ min (total_weight l.documents) most;
  small : l.weight ≤ most;
}

abbrev pub decreases-loop-placed : goal.decreases-loop-placed
decreases-loop-placed l = length l.rest
