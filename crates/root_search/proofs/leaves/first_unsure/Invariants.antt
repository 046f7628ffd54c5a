use Rattle.std.proofs.Common.{ℕ, ◌<◌}
use Rattle.root_search.specs.Leaves.{IsSureAt}
use Rattle.root_search.proofs.leaves.first_unsure.Given as goal

abbrev pub invariant-loop-place : goal.invariant-loop-place
invariant-loop-place l = (i : ℕ) → i < l.place → IsSureAt l.request l.views l.shares i
