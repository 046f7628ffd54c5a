use Rattle.std.proofs.Common.{ap, ◌∙◌, ◌++◌, ◌∷◌}
use Rattle.std.specs.Prelude.{codes}
use Rattle.node_run.specs.Printing.{collected_text}
use Rattle.node_run.proofs.Answered.{ok_along}
use Rattle.node_run.proofs.Printed.{collector_words}
use Rattle.node_run.proofs.out_line.OutLine.collector.Goals as goal

pub returns-clause-exact : goal.returns-clause-exact
returns-clause-exact c =
    ok_along c.of_collector.result (codes "collector" ++ 32 ∷ c.as_slice.result.now) (collected_text c.args.outcome.now) c.of_collector.ensures
    (ap (λ text. codes "collector" ++ 32 ∷ text) (c.as_slice.ensures ∙ (let a = c.in_ok-words.ensures.exact in a)) ∙ collector_words c.args.outcome.now)
