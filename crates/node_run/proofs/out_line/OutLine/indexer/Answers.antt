use Rattle.std.proofs.Common.{ap, ◌∙◌, ◌++◌, ◌∷◌, decimal}
use Rattle.std.specs.Prelude.{codes}
use Rattle.node_run.specs.Printing.{said_text}
use Rattle.node_run.proofs.Answered.{ok_along}
use Rattle.node_run.proofs.Printed.{indexer_words}
use Rattle.node_run.proofs.out_line.OutLine.indexer.Goals as goal

pub returns-clause-exact : goal.returns-clause-exact
returns-clause-exact c =
    let number = c.args.number in
    ok_along c.of_indexer.result (codes "indexer" ++ 32 ∷ (decimal number ++ 32 ∷ c.as_slice.result.now)) (said_text number c.args.outcome.now) c.of_indexer.ensures
    (ap (λ text. codes "indexer" ++ 32 ∷ (decimal number ++ 32 ∷ text)) (c.as_slice.ensures ∙ (let a = c.in_ok-words.ensures.exact in a)) ∙ indexer_words number c.args.outcome.now)
