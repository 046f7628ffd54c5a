use Rattle.std.proofs.Common.{◌≡◌, ◌++◌, drop}
use Rattle.serde_json.specs.View.{items_view}
use Rattle.doc_mapping.specs.Documents.{texts_in}
use Rattle.doc_mapping.proofs.documents.texts_in.Given as goal

abbrev pub invariant-loop-item : goal.invariant-loop-item
invariant-loop-item l = texts_in (items_view l.items) ≡ l.values ++ texts_in (items_view (drop l.item-index l.items))
