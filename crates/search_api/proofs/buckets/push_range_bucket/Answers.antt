use Rattle.std.proofs.Common.{◌∷◌, [], ◌++◌}
use Rattle.std.specs.Prelude.{codes}
use Rattle.std.specs.Fmt.{decimal}
use Rattle.doc_value.specs.Printed.{quoted}
use Rattle.search_api.specs.Replies.{pair, edge_pairs, range_key}
use Rattle.search_api.proofs.Among.{range_chain}
use Rattle.search_api.proofs.Objects.{on_same}
use Rattle.search_api.proofs.buckets.push_range_bucket.Goals as goal

pub returns : goal.returns
returns c =
    on_same c.push-2.result c.push-2.new.self (c.push_pairs.new.out ++ 125 ∷ []) _
    (range_chain c.args.out.now c.push.new.self c.push_own_count.new.out c.push_edge.new.out c.push_range_key.new.out c.push_edge-2.new.out
    c.push_pairs.new.out (pair (codes "doc_count") (decimal c.args.bucket.now.count)) (edge_pairs (codes "from") c.args.bucket.now.range.from)
    (pair (codes "key") (quoted (range_key c.args.bucket.now.range))) (edge_pairs (codes "to") c.args.bucket.now.range.to) c.args.pairs.now
    c.behind-rest.result.now c.behind_edge-rest.result.now c.behind-rest-2.result.now c.behind_edge.result.now
    c.in_ok-push.ensures.ok c.in_ok-push_own_count.ensures c.behind-rest.ensures c.in_ok-push_edge.ensures c.behind_edge-rest.ensures
    c.in_ok-push_range_key.ensures c.behind-rest-2.ensures c.in_ok-push_edge-2.ensures c.behind_edge.ensures c.in_ok-push_pairs.ensures)
    c.push-2.ensures.ok
