use Rattle.std.proofs.Common.{◌≡◌, ◌≤◌, ◌+◌, ℕ, List, [], Ok, Some, drop, length}
use Rattle.std.specs.List.{AllByRecursion}
use Rattle.doc_value.specs.declared.schema.Schema.{Schema}
use Rattle.term_dict.specs.Readers.{Lends}
use Rattle.term_dict.specs.Terms.{lookup}
use Rattle.term_dict.specs.declared.term.Term.{Term}
use Rattle.split_bundle.specs.declared.placed.Placed.{Placed}
use Rattle.split_bundle.specs.Files.{Parts}
use Rattle.split_bundle.specs.Lists.{terms_of}
use Rattle.doc_sets.specs.Needed.{IsSearched}
use Rattle.doc_sets.specs.Walks.{AsksTerms}
use Rattle.doc_sets.proofs.ReadWalks.{range_read}
use Rattle.leaf_search.specs.FileRanges.{AddsParts}
use Rattle.leaf_search.specs.declared.file_ranges.FileRange.{FileRange}
use Rattle.leaf_search.proofs.list_ranges.name_terms.Given as goal

abbrev pub invariant-loop-taken : goal.invariant-loop-taken
invariant-loop-taken l = record {
  lends : (lent : List Term) → Lends l.fn.terms lent → Lends l.terms (drop l.taken lent) × (l.taken ≤ length lent);
  only : (s : Schema) (documents : List Placed) (p : Parts) (lent : List Term) (new : List FileRange) → IsSearched l.part s documents p → Lends l.fn.terms lent
      → AllByRecursion (λ t. lookup t.key (terms_of s documents p.keys) ≡ Some t.info) lent
      → AddsParts (AsksTerms l.part s documents p l.wanted (drop l.taken lent)) l.ranges new → AddsParts (AsksTerms l.part s documents p l.wanted lent) l.fn.ranges new;
  found : (left : ℕ) × (left + l.taken ≡ 65) × (range_read (λ t. Ok []) 65 l.fn.terms ≡ range_read (λ t. Ok []) left l.terms);
}
