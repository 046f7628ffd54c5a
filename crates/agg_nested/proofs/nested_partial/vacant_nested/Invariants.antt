use Rattle.std.proofs.Common.{take, []}
use Rattle.std.specs.List.{AllZip}
use Rattle.agg_nested.specs.Buckets.{PartStands}
use Rattle.agg_nested.specs.declared.nested_partial.NestedPart.{NestedPart}
use Rattle.agg_nested.specs.declared.request.NestedAgg.{NestedAgg}
use Rattle.agg_nested.proofs.nested_partial.vacant_nested.Given as goal

abbrev pub invariant-loop-asked : goal.invariant-loop-asked
invariant-loop-asked l = AllZip (λ (a : NestedAgg) (p : NestedPart). PartStands a p []) (take l.asked-index l.request) l.parts.items
