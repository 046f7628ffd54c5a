use Rattle.std.proofs.Common.{◌≡◌, ◌≤◌, ◌+◌, ◌||◌, ℕ, Bool, List, drop, length}
use Rattle.std.specs.List.{AllByRecursion}
use Rattle.doc_value.specs.declared.doc.DocField.{DocField}
use Rattle.doc_value.specs.declared.schema.Schema.{Schema}
use Rattle.term_dict.specs.Readers.{Lends}
use Rattle.term_dict.specs.declared.term.Term.{Term}
use Rattle.split_bundle.specs.declared.placed.Placed.{Placed}
use Rattle.split_bundle.specs.Files.{Parts}
use Rattle.split_bundle.specs.Keys.{keys_of}
use Rattle.doc_sets.specs.Bits.{has}
use Rattle.doc_sets.specs.Needed.{IsSearched}
use Rattle.doc_sets.specs.Reads.{in_front_of, numbers_if}
use Rattle.doc_sets.specs.Sets.{IsSetOf, is_one_of}
use Rattle.doc_sets.specs.Walks.{has_some_of, IsListed}
use Rattle.doc_sets.proofs.ReadWalks.{range_read}
use Rattle.doc_sets.proofs.key_walks.add_terms.Given as goal

abbrev pub invariant-loop-taken : goal.invariant-loop-taken
invariant-loop-taken l = record {
  size : l.bits.size ≡ l.fn.bits.size;
  lends : (lent : List Term) → Lends l.fn.terms lent → Lends l.terms (drop l.taken lent) × (l.taken ≤ length lent);
  only : (s : Schema) (documents : List Placed) (p : Parts) (lent : List Term) (test : List DocField → Bool) → IsSearched l.part s documents p → Lends l.fn.terms lent
      → AllByRecursion (IsListed s documents p l.positions) lent → IsSetOf test documents l.fn.bits
      → (now : List DocField → Bool) × IsSetOf now documents l.bits × ((d : List DocField) → now d || has_some_of l.wanted (drop l.taken lent) (keys_of s d) ≡ test d || has_some_of l.wanted lent (keys_of s d));
  exact : l.fn.bits.size ≡ l.part.footer.layout.docs → (left : ℕ) × (left + l.taken ≡ 65)
      × ((gave : List ℕ) × (range_read (numbers_if l.part l.positions l.wanted) 65 l.fn.terms ≡ in_front_of gave (range_read (numbers_if l.part l.positions l.wanted) left l.terms))
      × ((k : ℕ) → has l.bits k ≡ has l.fn.bits k || is_one_of k gave));
}
