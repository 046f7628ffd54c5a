use Rattle.std.proofs.Common.{ap, ◌∙◌, ◌++◌, ◌∷◌}
use Rattle.std.specs.Prelude.{codes}
use Rattle.upkeep_run.specs.declared.work.Aim.TheVariants.{Deleting}
use Rattle.node_run.specs.Printing.{worked_text}
use Rattle.node_run.proofs.Answered.{ok_along}
use Rattle.node_run.proofs.Printed.{worker_words}
use Rattle.node_run.proofs.out_line.OutLine.deleter.Goals as goal

pub returns-clause-exact : goal.returns-clause-exact
returns-clause-exact c =
    ok_along c.of_deleter.result (codes "deleter" ++ 32 ∷ c.as_slice.result.now) (worked_text Deleting c.args.outcome.now) c.of_deleter.ensures
    (ap (λ text. codes "deleter" ++ 32 ∷ text) (c.as_slice.ensures ∙ (let a = c.in_ok-words.ensures.exact in a)) ∙ worker_words Deleting c.args.outcome.now)
