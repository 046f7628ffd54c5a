use Rattle.std.proofs.Common.{◌≡◌, List}
use Rattle.doc_value.specs.declared.schema.Schema.{Schema}
use Rattle.split_bundle.specs.declared.part_view.PartView.{PartView}
use Rattle.split_bundle.specs.declared.placed.Placed.{Placed}
use Rattle.split_bundle.specs.Files.{Parts}
use Rattle.split_bundle.specs.Lending.{IsPartOf}
use Rattle.leaf_search.specs.FileRanges.{AddsParts}
use Rattle.leaf_search.specs.declared.file_ranges.FileRange.{FileRange}
use Rattle.leaf_search.proofs.BlockParts.{BlocksBetween}
use Rattle.leaf_search.proofs.block_ranges.name_walk_blocks.Given as goal

abbrev pub invariant-loop-number : goal.invariant-loop-number
invariant-loop-number l = (v : PartView) (s : Schema) (documents : List Placed) (p : Parts) (new : List FileRange) → v.footer ≡ l.footer → IsPartOf v s documents p
    → AddsParts (BlocksBetween s documents p l.number l.number-end) l.ranges new → AddsParts (BlocksBetween s documents p l.initial.number l.number-end) l.fn.ranges new
