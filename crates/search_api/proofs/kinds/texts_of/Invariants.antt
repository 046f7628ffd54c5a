use Rattle.std.proofs.Common.{◌≡◌, drop}
use Rattle.serde_json.specs.View.{items_view}
use Rattle.search_api.specs.Kinds.{texts_of}
use Rattle.search_api.proofs.Joined.{joined}
use Rattle.search_api.proofs.kinds.texts_of.Given as goal

abbrev pub invariant-loop-item : goal.invariant-loop-item
invariant-loop-item l = texts_of (items_view l.items) ≡ joined l.paths (texts_of (items_view (drop l.item-index l.items)))
