use Rattle.std.proofs.Common.{true, ◌++◌, ap, ◌∙◌}
use Rattle.std.specs.Prelude.{codes}
use Rattle.std.specs.Fmt.{decimal}
use Rattle.search_api.proofs.Among.{own_pair}
use Rattle.search_api.proofs.Objects.{on_same}
use Rattle.search_api.proofs.bucket_pairs.push_own_count.Goals as goal

pub returns : goal.returns
returns c =
    on_same c.push_digits.result c.push_digits.new.out _ _
    (ap (λ t. t ++ decimal c.args.count) c.in_ok-push_own_key.ensures ∙ own_pair true c.args.out.now (codes "doc_count") (decimal c.args.count) c.args.pairs.now)
    c.push_digits.ensures
