use Rattle.std.proofs.Common.{true, ◌++◌, ap, ◌∙◌}
use Rattle.std.specs.Prelude.{codes}
use Rattle.search_api.specs.Replies.{aggs_text}
use Rattle.search_api.proofs.Objects.{keyed, on_same}
use Rattle.search_api.proofs.printing.push_aggregations.Goals as goal

pub returns : goal.returns
returns c =
    on_same c.push_aggs.result c.push_aggs.new.out _ _
    (ap (λ t. t ++ aggs_text c.args.results.now) c.in_ok-push_key.ensures ∙ keyed c.args.out.now (codes "aggregations") (aggs_text c.args.results.now) true)
    c.push_aggs.ensures
