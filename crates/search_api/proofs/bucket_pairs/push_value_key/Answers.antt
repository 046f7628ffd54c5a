use Rattle.std.proofs.Common.{false, ◌++◌, ap, ◌∙◌}
use Rattle.std.specs.Prelude.{codes}
use Rattle.search_api.specs.Replies.{key_text}
use Rattle.search_api.proofs.Among.{own_pair}
use Rattle.search_api.proofs.Objects.{on_same}
use Rattle.search_api.proofs.bucket_pairs.push_value_key.Goals as goal

pub returns : goal.returns
returns c =
    on_same c.push_key_value.result c.push_key_value.new.out _ _
    (ap (λ t. t ++ key_text c.args.key.now) c.in_ok-push_own_key.ensures ∙ own_pair false c.args.out.now (codes "key") (key_text c.args.key.now) c.args.pairs.now)
    c.push_key_value.ensures
