use Rattle.std.proofs.Common.{◌≡◌, drop}
use Rattle.serde_json.specs.View.{items_view}
use Rattle.search_api.specs.Keys.{unknown_in_items}
use Rattle.search_api.proofs.unknown.unknown_in_items.Given as goal

abbrev pub invariant-loop-item : goal.invariant-loop-item
invariant-loop-item l = unknown_in_items (items_view l.items) ≡ unknown_in_items (items_view (drop l.item-index l.items))
