use Rattle.std.proofs.Common.{List, length, take}
use Rattle.std.specs.List.{AllZip}
use Rattle.agg_nested.specs.Buckets.{PartStands, ArePartsFor}
use Rattle.agg_nested.specs.declared.nested_partial.NestedPart.{NestedPart}
use Rattle.agg_nested.specs.declared.request.NestedAgg.{NestedAgg}
use Rattle.split_bundle.specs.Files.{Parts}
use Rattle.split_bundle.specs.Lending.{IsPartOf}
use Rattle.split_bundle.specs.declared.placed.Placed.{Placed}
use Rattle.doc_tallies.specs.AggColumns.{AreOverFast}
use Rattle.doc_tallies.specs.Picked.{docs_of, picked}
use Rattle.doc_tallies.proofs.partials.parts_of.Given as goal

abbrev pub invariant-loop-asked : goal.invariant-loop-asked
invariant-loop-asked l = record {
  only : (documents : List Placed) (p : Parts) → IsPartOf l.view l.schema documents p → AreOverFast l.schema l.request
      → AllZip (λ (asked : NestedAgg) (part : NestedPart). PartStands asked part (docs_of (picked l.numbers documents))) (take l.asked-index l.request) l.parts.items;
  known : ArePartsFor (take l.asked-index l.request) (length l.numbers) l.parts.items;
}
