use Rattle.std.proofs.Common.{◌≡◌, ◌-◌, ◌||◌, ℕ, Bool, true, List, Result, filter, nat_eq}
use Rattle.std.specs.List.{starts_with}
use Rattle.doc_value.specs.declared.doc.DocField.{DocField}
use Rattle.doc_value.specs.declared.schema.Schema.{Schema}
use Rattle.term_dict.specs.Bounds.{joined}
use Rattle.split_bundle.specs.declared.placed.Placed.{Placed}
use Rattle.split_bundle.specs.Files.{Parts}
use Rattle.split_bundle.specs.Keys.{keys_of}
use Rattle.split_bundle.specs.Lists.{keeps_places, terms_of}
use Rattle.doc_sets.specs.Bits.{has}
use Rattle.doc_sets.specs.Needed.{IsSearched}
use Rattle.doc_sets.specs.Reads.{in_front_of, numbers_if, ReadsBlocks}
use Rattle.doc_sets.specs.Sets.{IsSetOf, is_one_of}
use Rattle.doc_sets.specs.Walks.{has_some_of}
use Rattle.doc_sets.specs.declared.leaf_error.LeafError.{LeafError}
use Rattle.doc_sets.proofs.key_walks.walk_documents.Given as goal

abbrev pub invariant-loop-number : goal.invariant-loop-number
invariant-loop-number l = record {
  size : l.bits.size ≡ l.part.footer.layout.docs;
  only : (s : Schema) (documents : List Placed) (p : Parts) → IsSearched l.part s documents p → ((key : List ℕ) → starts_with nat_eq key l.prefix ≡ true → l.positions ≡ keeps_places s key)
      → (test : List DocField → Bool) × IsSetOf test documents l.bits
      × ((d : List DocField) → test d || has_some_of l.wanted (joined (filter (λ t. starts_with nat_eq t.key l.prefix)) (terms_of s documents p.keys) l.number (l.number-end - l.number)) (keys_of s d)
      ≡ has_some_of l.wanted (joined (filter (λ t. starts_with nat_eq t.key l.prefix)) (terms_of s documents p.keys) l.initial.number (l.number-end - l.initial.number)) (keys_of s d));
  exact : (gave : List ℕ)
      × ((rest : Result (List ℕ) LeafError) → ReadsBlocks l.part (numbers_if l.part l.positions l.wanted) l.prefix l.number (l.number-end - l.number) rest
      → ReadsBlocks l.part (numbers_if l.part l.positions l.wanted) l.prefix l.initial.number (l.number-end - l.initial.number) (in_front_of gave rest))
      × ((k : ℕ) → has l.bits k ≡ is_one_of k gave);
}
