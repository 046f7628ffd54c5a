use Rattle.std.proofs.Common.{ap, ◌∙◌, ◌++◌, ◌∷◌}
use Rattle.node_run.proofs.Answered.{replied, not_replied, ok_along}
use Rattle.node_run.specs.Lines.{search_text}
use Rattle.node_run.proofs.out_line.OutLine.client.Goals as goal

pub returns-in-Replied : goal.returns-in-Replied
returns-in-Replied c =
    (let a = c.in_ok-words.ensures in a) ∙ replied c.args.client.now c.args.outcome.now c.in-Replied.field-0 c.in-Replied.is

pub returns-in_default : goal.returns-in_default
returns-in_default c =
    ok_along c.named.result (c.args.client.now ++ 32 ∷ c.as_slice.result.now) (search_text c.args.client.now c.args.outcome.now) c.named.ensures
    (ap (λ text. c.args.client.now ++ 32 ∷ text) (c.as_slice.ensures ∙ (let a = c.in_ok-words.ensures in a))
    ∙ not_replied c.args.client.now c.args.outcome.now c.in_default.not-Replied)
