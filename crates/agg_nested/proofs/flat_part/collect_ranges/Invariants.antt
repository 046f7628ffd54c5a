use Rattle.std.proofs.Common.{◌≡◌, ◌+◌, ℕ, if◌then◌else◌}
use Rattle.agg_nested.specs.Spots.{holds}
use Rattle.agg_nested.specs.Zipped.{IsZippedBelow}
use Rattle.agg_nested.specs.declared.request.WholeRange.{WholeRange}
use Rattle.agg_nested.proofs.flat_part.collect_ranges.Given as goal

abbrev pub invariant-loop-i : goal.invariant-loop-i
invariant-loop-i l = IsZippedBelow (λ (r s : WholeRange) (old new : ℕ). new ≡ old + (if holds r l.whole then 1 else 0)) l.ranges l.ranges l.initial.counts l.counts l.i
