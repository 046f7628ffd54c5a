use Rattle.std.proofs.Common.{◌≡◌, List, drop}
use Rattle.doc_value.specs.declared.schema.Schema.{Schema}
use Rattle.split_bundle.specs.declared.part_view.PartView.{PartView}
use Rattle.split_bundle.specs.declared.placed.Placed.{Placed}
use Rattle.split_bundle.specs.Files.{Parts}
use Rattle.split_bundle.specs.Lending.{IsPartOf}
use Rattle.doc_sets.specs.Asking.{AsksBlocks}
use Rattle.leaf_search.specs.FileRanges.{AddsParts}
use Rattle.leaf_search.specs.declared.file_ranges.FileRange.{FileRange}
use Rattle.leaf_search.proofs.block_ranges.name_blocks.Given as goal

abbrev pub invariant-loop-lookup : goal.invariant-loop-lookup
invariant-loop-lookup l = (v : PartView) (s : Schema) (documents : List Placed) (p : Parts) (new : List FileRange) → v.footer ≡ l.footer → IsPartOf v s documents p
    → AddsParts (AsksBlocks v s documents p (drop l.lookup-index l.lookups)) l.ranges new → AddsParts (AsksBlocks v s documents p l.lookups) l.fn.ranges new
