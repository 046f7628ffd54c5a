use Rattle.std.proofs.Common.{◌∙◌, ap}
use Rattle.index_world.specs.Saying.{with_words}
use Rattle.upkeep_run.specs.Standing.{said_words}
use Rattle.upkeep_run.proofs.Printing.{outcome_printed, given_printed}
use Rattle.upkeep_run.proofs.outcome.print_outcome.Goals as goal

pub returns-clause-said : goal.returns-clause-said
returns-clause-said c = λ said h.
    c.in_ok-put_outcome.ensures ∙ ap (λ before. with_words before (said_words c.args.outcome.now)) c.vacant-out.ensures ∙ outcome_printed c.args.outcome.now said h

pub returns-clause-exact : goal.returns-clause-exact
returns-clause-exact c =
    c.in_ok-put_outcome.ensures ∙ ap (λ before. with_words before (said_words c.args.outcome.now)) c.vacant-out.ensures ∙ given_printed c.args.outcome.now
