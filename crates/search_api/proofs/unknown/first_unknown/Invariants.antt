use Rattle.std.proofs.Common.{◌≡◌}
use Rattle.serde_json.specs.View.{members_view}
use Rattle.search_api.specs.Keys.{first_unknown}
use Rattle.search_api.proofs.unknown.first_unknown.Given as goal

abbrev pub invariant-loop-key : goal.invariant-loop-key
invariant-loop-key l = first_unknown l.place (members_view l.members.entries) ≡ first_unknown l.place (members_view l.key-iterator)
