use Rattle.std.proofs.Common.{◌∷◌, [], ◌++◌}
use Rattle.std.specs.Prelude.{codes}
use Rattle.std.specs.Fmt.{decimal}
use Rattle.search_api.specs.Replies.{pair, key_text}
use Rattle.search_api.proofs.Among.{value_chain}
use Rattle.search_api.proofs.Objects.{on_same}
use Rattle.search_api.proofs.buckets.push_bucket.Goals as goal

pub returns : goal.returns
returns c =
    on_same c.push-2.result c.push-2.new.self (c.push_pairs.new.out ++ 125 ∷ []) _
    (value_chain c.args.out.now c.push.new.self c.push_own_count.new.out c.push_value_key.new.out c.push_pairs.new.out
    (pair (codes "doc_count") (decimal c.args.bucket.now.count)) (pair (codes "key") (key_text c.args.bucket.now.key))
    c.args.pairs.now c.behind-rest.result.now c.behind.result.now
    c.in_ok-push.ensures.ok c.in_ok-push_own_count.ensures c.behind-rest.ensures c.in_ok-push_value_key.ensures c.behind.ensures c.in_ok-push_pairs.ensures)
    c.push-2.ensures.ok
