use Rattle.std.proofs.Common.{List, drop}
use Rattle.std.specs.List.{All}
use Rattle.split_bundle.specs.declared.placed.Placed.{Placed}
use Rattle.split_bundle.specs.Files.{Parts}
use Rattle.split_bundle.specs.Lending.{IsPartOf}
use Rattle.doc_tallies.specs.AggColumns.{AsksColumns}
use Rattle.doc_tallies.specs.Cells.{IsFast}
use Rattle.leaf_search.specs.FileRanges.{AddsParts}
use Rattle.leaf_search.specs.Needs.{fields_nested}
use Rattle.leaf_search.specs.declared.file_ranges.FileRange.{FileRange}
use Rattle.leaf_search.proofs.column_ranges.name_nested.Given as goal

abbrev pub invariant-loop-named : goal.invariant-loop-named
invariant-loop-named l = (documents : List Placed) (p : Parts) (new : List FileRange) → IsPartOf l.bare l.schema documents p → All (IsFast l.schema) (fields_nested l.nested)
    → AddsParts (AsksColumns l.bare p (fields_nested (drop l.named-index l.nested))) l.ranges new → AddsParts (AsksColumns l.bare p (fields_nested l.nested)) l.fn.ranges new
