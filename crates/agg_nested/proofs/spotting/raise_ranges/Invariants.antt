use Rattle.std.proofs.Common.{take}
use Rattle.std.specs.List.{list_any}
use Rattle.agg_nested.specs.Buckets.{group_at}
use Rattle.agg_nested.specs.Groups.{IsRaisedAt}
use Rattle.agg_nested.specs.Spots.{Spot, places, same_spot}
use Rattle.agg_nested.proofs.spotting.raise_ranges.Given as goal

abbrev pub invariant-loop-i : goal.invariant-loop-i
invariant-loop-i l =
    IsRaisedAt (λ (spot : Spot). list_any (λ (s : Spot). same_spot s spot) (places 0 (take l.i l.ranges) l.whole)) l.nested l.doc l.number (group_at l.initial.groups) (group_at l.groups)
