use Rattle.std.proofs.Common.{◌≡◌, ◌≤◌, take}
use Rattle.merge_policy.proofs.Fitting.{docs_of, weight_of}
use Rattle.merge_policy.proofs.walk.fitting_len.Given as goal

abbrev pub invariant-loop-i : goal.invariant-loop-i
invariant-loop-i l = record {
  docs_are : l.docs ≡ docs_of (take l.i l.list);
  weight_is : l.weight ≡ weight_of (take l.i l.list);
  docs_fit : l.docs ≤ 16777216;
  weight_fits : l.weight ≤ 268435456;
}
