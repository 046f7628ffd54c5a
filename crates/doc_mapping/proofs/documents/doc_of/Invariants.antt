use Rattle.std.proofs.Common.{◌≡◌, [], ◌++◌, drop}
use Rattle.serde_json.specs.View.{view}
use Rattle.doc_mapping.specs.Documents.{doc_from}
use Rattle.doc_mapping.proofs.documents.doc_of.Given as goal

abbrev pub invariant-loop-number : goal.invariant-loop-number
invariant-loop-number l = doc_from l.schema.dynamic [] 0 l.schema.fields (view l.root) ≡ l.doc ++ doc_from l.schema.dynamic [] l.number (drop l.number l.schema.fields) (view l.root)
