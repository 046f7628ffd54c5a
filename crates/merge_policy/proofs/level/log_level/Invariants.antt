use Rattle.std.proofs.Common.{◌≡◌, ℕ, suc, ◌+◌, ◌-◌, ◌*◌, ◌^◌, ◌≤◌}
use Rattle.merge_policy.proofs.level.log_level.Given as goal

abbrev pub invariant-loop-bound : goal.invariant-loop-bound
invariant-loop-bound l = record {
  bound_is : l.bound ≡ l.least * l.factor ^ l.level;
  reached : (k : ℕ) → l.level ≡ suc k → l.least * l.factor ^ k ≤ l.docs;
  above : l.level + 1 ≤ l.bound;
  below : l.bound ≤ 1677721600;
}

abbrev pub decreases-loop-bound : goal.decreases-loop-bound
decreases-loop-bound l = (l.docs + 1) - l.bound
