use Rattle.std.proofs.Common.{◌≡◌, length}
use Rattle.std.specs.List.{All}
use Rattle.agg_nested.proofs.flat_part.vacant_ranges.Given as goal

abbrev pub invariant-loop-range : goal.invariant-loop-range
invariant-loop-range l = (length l.counts ≡ l._range-index) × All (λ count. count ≡ 0) l.counts
