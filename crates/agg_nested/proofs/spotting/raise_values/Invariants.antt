use Rattle.std.proofs.Common.{take}
use Rattle.std.specs.List.{list_any}
use Rattle.agg_model.specs.Counting.{slot_of}
use Rattle.doc_value.specs.declared.doc.Value.{Value}
use Rattle.agg_nested.specs.Buckets.{group_at}
use Rattle.agg_nested.specs.Groups.{IsRaisedAt}
use Rattle.agg_nested.specs.Spots.{Spot, value, same_spot}
use Rattle.agg_nested.proofs.spotting.raise_values.Given as goal

abbrev pub invariant-loop-found : goal.invariant-loop-found
invariant-loop-found l =
    IsRaisedAt (λ (spot : Spot). list_any (λ (v : Value). same_spot (value (slot_of v)) spot) (take l.found-index l.values)) l.nested l.doc l.number (group_at l.initial.groups) (group_at l.groups)
