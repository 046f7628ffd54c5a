use Rattle.leaf_search.specs.Needs.{AreFound}
use Rattle.std.proofs.Common.{List, drop}
use Rattle.split_bundle.specs.declared.placed.Placed.{Placed}
use Rattle.split_bundle.specs.Files.{Parts}
use Rattle.doc_sets.specs.Asking.{AsksLists}
use Rattle.doc_sets.specs.Needed.{IsSearched}
use Rattle.leaf_search.specs.FileRanges.{AddsParts}
use Rattle.leaf_search.specs.declared.file_ranges.FileRange.{FileRange}
use Rattle.leaf_search.proofs.list_ranges.name_lists.Given as goal

abbrev pub invariant-loop-lookup : goal.invariant-loop-lookup
invariant-loop-lookup l = record {
  only : (documents : List Placed) (p : Parts) (new : List FileRange) → IsSearched l.part l.schema documents p
      → AddsParts (AsksLists l.part l.schema documents p (drop l.lookup-index l.lookups)) l.ranges new → AddsParts (AsksLists l.part l.schema documents p l.lookups) l.fn.ranges new;
  read : AreFound l.part (drop l.lookup-index l.lookups) → AreFound l.part l.lookups;
}
