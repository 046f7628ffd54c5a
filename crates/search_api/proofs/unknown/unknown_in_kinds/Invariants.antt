use Rattle.std.proofs.Common.{◌≡◌, drop}
use Rattle.serde_json.specs.View.{view}
use Rattle.search_api.specs.Keys.{unknown_in_kinds}
use Rattle.search_api.proofs.unknown.unknown_in_kinds.Given as goal

abbrev pub invariant-loop-kind : goal.invariant-loop-kind
invariant-loop-kind l = unknown_in_kinds l.kinds (view l.value) ≡ unknown_in_kinds (drop l.kind-index l.kinds) (view l.value)
