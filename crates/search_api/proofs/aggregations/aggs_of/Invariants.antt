use Rattle.std.proofs.Common.{◌≡◌}
use Rattle.serde_json.specs.View.{members_view}
use Rattle.search_api.specs.Aggregations.{agg_of, each_of}
use Rattle.search_api.proofs.Aggs.{more_behind}
use Rattle.search_api.proofs.aggregations.aggs_of.Given as goal

abbrev pub invariant-loop-name : goal.invariant-loop-name
invariant-loop-name l = each_of agg_of (members_view l.members.entries) ≡ more_behind l.aggs (each_of agg_of (members_view l.name-iterator))
