use Rattle.std.proofs.Common.{false, ◌++◌, ap, ◌∙◌}
use Rattle.search_api.proofs.Among.{own_pair}
use Rattle.search_api.proofs.Objects.{on_same}
use Rattle.search_api.proofs.bucket_pairs.push_own_text.Goals as goal

pub returns : goal.returns
returns c =
    on_same c.extend.result c.extend.new.self (c.push_own_key.new.out ++ c.args.text.now) _
    (ap (λ t. t ++ c.args.text.now) c.in_ok-push_own_key.ensures ∙ own_pair false c.args.out.now c.args.key.now c.args.text.now c.args.pairs.now)
    c.extend.ensures.ok
