use Rattle.leaf_search.specs.Asks.{lookups_of_each}
use Rattle.doc_sets.specs.declared.leaf_error.LeafError.{LeafError}
use Rattle.doc_sets.specs.Reads.{AreRead, SomeMeets}
use Rattle.std.proofs.Common.{◌≡◌, ◌&&◌, ◌||◌, Bool, List, drop}
use Rattle.doc_value.specs.declared.doc.DocField.{DocField}
use Rattle.query_ast.specs.Meaning.{all_hold, some_hold}
use Rattle.query_ast.specs.Sought.{view_all}
use Rattle.query_ast.specs.Askable.{CanAskEach}
use Rattle.split_bundle.specs.declared.placed.Placed.{Placed}
use Rattle.split_bundle.specs.Files.{Parts}
use Rattle.doc_sets.specs.Needed.{IsSearched}
use Rattle.doc_sets.specs.Sets.{IsSetOf}
use Rattle.leaf_search.proofs.evaluate.+evaluate.Given as goal

abbrev pub invariant-all_matching-loop-each : goal.invariant-all_matching-loop-each
invariant-all_matching-loop-each l = record {
  size : l.bits.size ≡ l.part.footer.layout.docs;
  only : (documents : List Placed) (p : Parts) → IsSearched l.part l.schema documents p → CanAskEach l.schema (view_all l.parts)
      → (test : List DocField → Bool) × IsSetOf test documents l.bits × ((d : List DocField) → test d && all_hold l.schema d (view_all (drop l.each-index l.parts)) ≡ all_hold l.schema d (view_all l.parts));
  read : AreRead l.part (lookups_of_each l.part.footer l.schema (view_all (drop l.each-index l.parts))) → AreRead l.part (lookups_of_each l.part.footer l.schema (view_all l.parts));
  meets : (e : LeafError) → SomeMeets l.part (lookups_of_each l.part.footer l.schema (view_all (drop l.each-index l.parts))) e → SomeMeets l.part (lookups_of_each l.part.footer l.schema (view_all l.parts)) e;
}

abbrev pub invariant-some_matching-loop-each : goal.invariant-some_matching-loop-each
invariant-some_matching-loop-each l = record {
  size : l.bits.size ≡ l.part.footer.layout.docs;
  only : (documents : List Placed) (p : Parts) → IsSearched l.part l.schema documents p → CanAskEach l.schema (view_all l.parts)
      → (test : List DocField → Bool) × IsSetOf test documents l.bits × ((d : List DocField) → test d || some_hold l.schema d (view_all (drop l.each-index l.parts)) ≡ some_hold l.schema d (view_all l.parts));
  read : AreRead l.part (lookups_of_each l.part.footer l.schema (view_all (drop l.each-index l.parts))) → AreRead l.part (lookups_of_each l.part.footer l.schema (view_all l.parts));
  meets : (e : LeafError) → SomeMeets l.part (lookups_of_each l.part.footer l.schema (view_all (drop l.each-index l.parts))) e → SomeMeets l.part (lookups_of_each l.part.footer l.schema (view_all l.parts)) e;
}
