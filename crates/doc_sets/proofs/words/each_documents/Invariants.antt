use Rattle.std.proofs.Common.{◌≡◌, ◌&&◌, Bool, true, Some, slice_get, List, drop, map}
use Rattle.doc_value.specs.declared.doc.DocField.{DocField}
use Rattle.doc_value.specs.declared.schema.Schema.{Schema}
use Rattle.query_ast.specs.Meaning.{each_stands, is_text}
use Rattle.doc_value.specs.Documents.{values_in}
use Rattle.split_bundle.specs.declared.placed.Placed.{Placed}
use Rattle.split_bundle.specs.Files.{Parts}
use Rattle.doc_sets.specs.Needed.{IsSearched, token_keys}
use Rattle.doc_sets.specs.Reads.{AreRead, SomeMeets}
use Rattle.doc_sets.specs.declared.dictionary_lookup.Lookup.TheVariants.{Documents}
use Rattle.doc_sets.specs.declared.leaf_error.LeafError.{LeafError}
use Rattle.doc_sets.specs.Sets.{IsSetOf}
use Rattle.doc_sets.proofs.words.each_documents.Given as goal

abbrev pub invariant-loop-token : goal.invariant-loop-token
invariant-loop-token l = record {
  size : l.bits.size ≡ l.part.footer.layout.docs;
  only : (s : Schema) (documents : List Placed) (p : Parts) → IsSearched l.part s documents p → slice_get s.fields l.number ≡ Some l.field → l.field.indexed ≡ true → is_text l.field.kind ≡ true
      → (test : List DocField → Bool) × IsSetOf test documents l.bits
      × ((d : List DocField) → test d && each_stands l.field (drop l.token-index l.tokens) (values_in d l.number) ≡ each_stands l.field l.tokens (values_in d l.number));
  read : AreRead l.part (map Documents (token_keys l.number (drop l.token-index l.tokens))) → AreRead l.part (map Documents (token_keys l.number l.tokens));
  meets : (e : LeafError) → SomeMeets l.part (map Documents (token_keys l.number (drop l.token-index l.tokens))) e → SomeMeets l.part (map Documents (token_keys l.number l.tokens)) e;
}
