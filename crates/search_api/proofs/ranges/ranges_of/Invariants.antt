use Rattle.std.proofs.Common.{◌≡◌, drop}
use Rattle.serde_json.specs.View.{items_view}
use Rattle.search_api.specs.Aggregations.{ranges_of}
use Rattle.search_api.proofs.Aggs.{more_behind}
use Rattle.search_api.proofs.ranges.ranges_of.Given as goal

abbrev pub invariant-loop-item : goal.invariant-loop-item
invariant-loop-item l = ranges_of (items_view l.items) ≡ more_behind l.ranges (ranges_of (items_view (drop l.item-index l.items)))
