use Rattle.std.proofs.Common.{◌≡◌, ◌++◌, drop}
use Rattle.doc_sets.specs.Texts.{item_lookups}
use Rattle.doc_sets.proofs.text_lookups.add_items.Given as goal

abbrev pub invariant-loop-item : goal.invariant-loop-item
invariant-loop-item l = l.lookups ++ item_lookups l.field l.number (drop l.item-index l.items) ≡ l.fn.lookups ++ item_lookups l.field l.number l.items
