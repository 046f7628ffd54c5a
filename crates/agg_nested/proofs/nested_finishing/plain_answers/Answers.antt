use Rattle.std.proofs.Common.{◌∙◌}
use Rattle.agg_nested.proofs.NothingNested.{if_ok, plain_is}
use Rattle.agg_nested.proofs.nested_finishing.plain_answers.Goals as goal

pub returns : goal.returns
returns c =
    if_ok c.one.result
    (λ answers is documents none same.
    is ∙ plain_is c.args.asked.now documents c.in_ok-name.name c.args.answer c.in_ok-nested.nested none same c.in_ok-name.ensures (rw c.buckets_in.ensures at c.in_ok-nested.ensures))
    c.one.ensures
