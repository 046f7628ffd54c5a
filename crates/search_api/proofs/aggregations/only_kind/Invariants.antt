use Rattle.std.proofs.Common.{◌≡◌, drop, filter}
use Rattle.serde_json.specs.View.{view}
use Rattle.search_api.specs.Aggregations.{alone}
use Rattle.search_api.specs.Keys.{has, key_of}
use Rattle.search_api.proofs.Alone.{alone_after}
use Rattle.search_api.proofs.aggregations.only_kind.Given as goal

abbrev pub invariant-loop-kind : goal.invariant-loop-kind
invariant-loop-kind l =
    alone (filter (λ kind. has (key_of kind) (view l.value)) l.kinds)
    ≡ alone_after l.only (filter (λ kind. has (key_of kind) (view l.value)) (drop l.kind-index l.kinds))
