use Rattle.std.proofs.Common.{List, drop}
use Rattle.split_bundle.specs.declared.placed.Placed.{Placed}
use Rattle.split_bundle.specs.Files.{Parts}
use Rattle.split_bundle.specs.Lending.{IsPartOf}
use Rattle.doc_tallies.specs.AggColumns.{AreOverFast, AsksFields}
use Rattle.leaf_search.specs.FileRanges.{AddsParts}
use Rattle.leaf_search.specs.declared.file_ranges.FileRange.{FileRange}
use Rattle.leaf_search.proofs.column_ranges.name_fields.Given as goal

abbrev pub invariant-loop-asked : goal.invariant-loop-asked
invariant-loop-asked l = (documents : List Placed) (p : Parts) (new : List FileRange) → IsPartOf l.bare l.schema documents p → AreOverFast l.schema l.aggs
    → AddsParts (AsksFields l.bare p (drop l.asked-index l.aggs)) l.ranges new → AddsParts (AsksFields l.bare p l.aggs) l.fn.ranges new
