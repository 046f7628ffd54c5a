use Rattle.std.proofs.Common.{◌≡◌}
use Rattle.serde_json.specs.View.{members_view}
use Rattle.search_api.specs.Keys.{unknown_in_nested}
use Rattle.search_api.proofs.unknown.unknown_in_nested.Given as goal

abbrev pub invariant-loop-value : goal.invariant-loop-value
invariant-loop-value l = unknown_in_nested (members_view l.members.entries) ≡ unknown_in_nested (members_view l.value-iterator)
