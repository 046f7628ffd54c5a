use Rattle.std.proofs.Common.{◌-◌, List, length, drop, Option}
use Rattle.split_states.specs.declared.rows.Row.{Row}
use Rattle.merge_policy.specs.Choice.{merge_factor, max_merge_factor}
use Rattle.merge_policy.specs.Walk.{LevelsRise, IsWalked}
use Rattle.merge_policy.proofs.walk.first_merged.Given as goal

abbrev pub invariant-loop-start : goal.invariant-loop-start
invariant-loop-start l = record {
  rise : LevelsRise (drop l.start l.list);
  same : (r : Option (List Row)) → IsWalked (merge_factor l.policy) (max_merge_factor l.policy) (drop l.start l.list) r → IsWalked (merge_factor l.policy) (max_merge_factor l.policy) l.list r;
}

abbrev pub decreases-loop-start : goal.decreases-loop-start
decreases-loop-start l = length l.list - l.start
