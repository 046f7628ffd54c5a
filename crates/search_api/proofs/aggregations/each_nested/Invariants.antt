use Rattle.std.proofs.Common.{◌≡◌}
use Rattle.serde_json.specs.View.{members_view}
use Rattle.search_api.specs.Aggregations.{nested_of, each_of}
use Rattle.search_api.proofs.Aggs.{more_behind}
use Rattle.search_api.proofs.aggregations.each_nested.Given as goal

abbrev pub invariant-loop-name : goal.invariant-loop-name
invariant-loop-name l = each_of nested_of (members_view l.members.entries) ≡ more_behind l.flats (each_of nested_of (members_view l.name-iterator))
