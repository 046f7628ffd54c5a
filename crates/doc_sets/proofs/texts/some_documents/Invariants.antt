use Rattle.std.proofs.Common.{◌≡◌, ◌||◌, Bool, true, Some, slice_get, List, drop}
use Rattle.doc_value.specs.declared.doc.DocField.{DocField}
use Rattle.doc_value.specs.declared.schema.Schema.{Schema}
use Rattle.query_ast.specs.Meaning.{some_item_holds}
use Rattle.doc_value.specs.Documents.{values_in}
use Rattle.split_bundle.specs.declared.placed.Placed.{Placed}
use Rattle.split_bundle.specs.Files.{Parts}
use Rattle.doc_sets.specs.Needed.{IsSearched}
use Rattle.doc_sets.specs.Sets.{IsSetOf}
use Rattle.doc_sets.specs.Reads.{AreRead, SomeMeets}
use Rattle.doc_sets.specs.Texts.{item_lookups}
use Rattle.query_ast.specs.Askable.{CanPlaceEach}
use Rattle.doc_sets.specs.declared.leaf_error.LeafError.{LeafError}
use Rattle.doc_sets.proofs.texts.some_documents.Given as goal

abbrev pub invariant-loop-item : goal.invariant-loop-item
invariant-loop-item l = record {
  size : l.bits.size ≡ l.part.footer.layout.docs;
  only : (s : Schema) (documents : List Placed) (p : Parts) → IsSearched l.part s documents p → slice_get s.fields l.number ≡ Some l.field → l.field.indexed ≡ true → CanPlaceEach l.field l.items
      → (test : List DocField → Bool) × IsSetOf test documents l.bits
      × ((d : List DocField) → test d || some_item_holds l.field (values_in d l.number) (drop l.item-index l.items) ≡ some_item_holds l.field (values_in d l.number) l.items);
  read : AreRead l.part (item_lookups l.field l.number (drop l.item-index l.items)) → AreRead l.part (item_lookups l.field l.number l.items);
  meets : (e : LeafError) → SomeMeets l.part (item_lookups l.field l.number (drop l.item-index l.items)) e → SomeMeets l.part (item_lookups l.field l.number l.items) e;
}
