use Rattle.std.proofs.Common.{◌≡◌, ◌+◌, ℕ}
use Rattle.agg_nested.specs.Zipped.{IsZippedBelow}
use Rattle.agg_nested.proofs.flat_part.merge_ranges.Given as goal

abbrev pub invariant-loop-i : goal.invariant-loop-i
invariant-loop-i l = IsZippedBelow (λ (other same old new : ℕ). new ≡ old + other) l.others l.others l.initial.counts l.counts l.i
