use Rattle.std.proofs.Common.{take}
use Rattle.split_merge.specs.Walking.{FrontIs}
use Rattle.split_merge.proofs.key_walks.front_of.Given as goal

abbrev pub invariant-loop-place : goal.invariant-loop-place
invariant-loop-place l = FrontIs l.front (take l.place l.walks)
