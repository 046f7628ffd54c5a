use Rattle.std.proofs.Common.{◌≡◌, ◌++◌}
use Rattle.std.specs.Vec.Iter.{into_iter_items}
use Rattle.serde_json.specs.View.{items_view}
use Rattle.doc_mapping.specs.Faults.{all_texts}
use Rattle.doc_mapping.specs.Documents.{texts_in}
use Rattle.doc_mapping.proofs.misfit.fitting_texts.Given as goal

abbrev pub invariant-loop-item : goal.invariant-loop-item
invariant-loop-item l =
    (all_texts (items_view l.fn.items.items) ≡ all_texts (items_view (into_iter_items l.item-iterator)))
    × (texts_in (items_view l.fn.items.items) ≡ l.texts.items ++ texts_in (items_view (into_iter_items l.item-iterator)))
