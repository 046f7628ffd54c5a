use Rattle.std.proofs.Common.{◌<◌, List, drop, length}
use Rattle.std.specs.List.{All}
use Rattle.doc_value.specs.declared.schema.Schema.{Schema}
use Rattle.split_bundle.specs.declared.placed.Placed.{Placed}
use Rattle.split_bundle.specs.Files.{Parts}
use Rattle.split_bundle.specs.Lending.{IsPartOf}
use Rattle.leaf_search.specs.FileRanges.{AddsParts}
use Rattle.leaf_search.specs.Shown.{BytesOf, OfEach}
use Rattle.leaf_search.specs.declared.file_ranges.FileRange.{FileRange}
use Rattle.leaf_search.proofs.shown.name_shown.Given as goal

abbrev pub invariant-loop-number : goal.invariant-loop-number
invariant-loop-number l = (s : Schema) (documents : List Placed) (p : Parts) (new : List FileRange) → IsPartOf l.view s documents p → All (λ n. n < length documents) l.numbers
    → AddsParts (OfEach (BytesOf p documents) (drop l.number-index l.numbers)) l.ranges new → AddsParts (OfEach (BytesOf p documents) l.numbers) l.fn.ranges new
