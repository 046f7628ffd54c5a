use Rattle.std.proofs.Common.{◌∙◌, sym, refl, Ok, Err}
use Rattle.index_world.specs.Answering.{Answered}
use Rattle.index_world.specs.Replacing.{numbers_of}
use Rattle.upkeep_run.specs.Ending.{EndsReplace}
use Rattle.upkeep_run.specs.declared.outcome.UpkeepOutcome.{UpkeepOutcome as Said}
use Rattle.upkeep_run.specs.declared.work.WorkerPlace.TheVariants as places
use Rattle.upkeep_run.proofs.Ended.{ends_by}
use Rattle.upkeep_run.proofs.Holding.{may_replace}
use Rattle.upkeep_run.proofs.Stepping.{replaces, replace_fails}
use Rattle.upkeep_run.proofs.work.replace_rows.Goals as goal

pub returns-in-Ok-clause-step : goal.returns-in-Ok-clause-step
returns-in-Ok-clause-step g c = λ aim core log held stands holds last same u.
    let olds = numbers_of c.args.plan.now.rows in
    replaces g.G.Gate.Stands g.G.Gate.Between g.G.Gate.Owns g.G.Gate.Adds aim core log c.args.gate.now c.replace.new.self held c.args.uploaded.number olds c.args.upto same holds.old last c.in-Ok.field-0
    (c.in-Ok.ensures.step core log stands (may_replace log core held c.args.uploaded.number olds c.args.upto same holds.old last u))

pub returns-in-Err-clause-step : goal.returns-in-Err-clause-step
returns-in-Err-clause-step g c = λ aim core log held stands holds last same u.
    let olds = numbers_of c.args.plan.now.rows in
    replace_fails g.G.Gate.Stands g.G.Gate.Between g.G.Gate.Owns g.G.Gate.Adds aim core log c.args.gate.now c.replace.new.self held c.args.uploaded.number olds c.args.upto same holds.old last c.in-Err.error c.lost.result c.lost.ensures.unmade
    (c.in-Err.ensures.step core log stands (may_replace log core held c.args.uploaded.number olds c.args.upto same holds.old last u))

pub returns-in-Ok-clause-ends : goal.returns-in-Ok-clause-ends
returns-in-Ok-clause-ends g c = (Ok c.in-Ok.field-0, c.in-Ok.ensures.answered, refl, refl)

pub returns-in-Err-clause-ends : goal.returns-in-Err-clause-ends
returns-in-Err-clause-ends g c =
    ends_by (EndsReplace c.args.upto (λ (call : Answered). g.G.Gate.Answers c.args.gate.now call c.replace.new.self) c.args.plan.now c.args.uploaded.number) c.lost.result places.Idle refl
    (λ (outcome : Said) e. (Err c.in-Err.error, c.in-Err.ensures.answered, sym c.lost.ensures.exact ∙ e, refl))
