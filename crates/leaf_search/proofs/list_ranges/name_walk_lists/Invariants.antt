use Rattle.std.proofs.Common.{◌-◌, ℕ, List, [], Result, Ok}
use Rattle.doc_value.specs.declared.schema.Schema.{Schema}
use Rattle.split_bundle.specs.declared.placed.Placed.{Placed}
use Rattle.split_bundle.specs.Files.{Parts}
use Rattle.doc_sets.specs.Needed.{IsSearched}
use Rattle.doc_sets.specs.Reads.{ReadsBlocks}
use Rattle.doc_sets.specs.declared.leaf_error.LeafError.{LeafError}
use Rattle.leaf_search.specs.FileRanges.{AddsParts}
use Rattle.leaf_search.specs.declared.file_ranges.FileRange.{FileRange}
use Rattle.leaf_search.proofs.ListParts.{ListsBetween}
use Rattle.leaf_search.proofs.list_ranges.name_walk_lists.Given as goal

abbrev pub invariant-loop-number : goal.invariant-loop-number
invariant-loop-number l = record {
  only : (s : Schema) (documents : List Placed) (p : Parts) (new : List FileRange) → IsSearched l.part s documents p
      → AddsParts (ListsBetween l.part s documents p l.prefix l.wanted l.number l.number-end) l.ranges new
      → AddsParts (ListsBetween l.part s documents p l.prefix l.wanted l.initial.number l.number-end) l.fn.ranges new;
  found : (rest : Result (List ℕ) LeafError) → ReadsBlocks l.part (λ t. Ok []) l.prefix l.number (l.number-end - l.number) rest → ReadsBlocks l.part (λ t. Ok []) l.prefix l.initial.number (l.number-end - l.initial.number) rest;
}
