use Rattle.std.proofs.Common.{◌∙◌, ℕ, List, ap, refl, Ok, Err}
use Rattle.meta_store.specs.declared.planning.PlanRow.{PlanRow}
use Rattle.upkeep_run.specs.Ending.{facts_said, rejected_said}
use Rattle.upkeep_run.proofs.Staging.{staged_with}
use Rattle.upkeep_run.proofs.work.stage.Goals as goal

pub returns-in-Ok-clause-step : goal.returns-in-Ok-clause-step
returns-in-Ok-clause-step g c = λ core log stands. record {
  answer = Ok c.in-Ok.staged;
  does = staged_with g.G.Gate.Stands g.G.Gate.Between g.G.Gate.Owns g.G.Gate.Adds core log c.args.gate.now c.stage-staged.new.self c.vacant-delta.result c.with_rejected-facts.result (facts_said c.args.plan.rows c.args.split) (Ok c.in-Ok.staged) c.vacant-delta.ensures
      (c.with_rejected-facts.ensures.facts ∙ ap (λ (n : ℕ). record c.args.split.facts { rejected = n }) (c.rejected_in.ensures ∙ ap (λ (l : List PlanRow). rejected_said l) c.as_slice.ensures)) (c.in-Ok.ensures.step core log stands);
  tells = (refl, c.put.ensures);
}

pub returns-in-Err-clause-step : goal.returns-in-Err-clause-step
returns-in-Err-clause-step g c = λ core log stands. record {
  answer = Err c.in-Err.error;
  does = staged_with g.G.Gate.Stands g.G.Gate.Between g.G.Gate.Owns g.G.Gate.Adds core log c.args.gate.now c.stage-staged.new.self c.vacant-delta.result c.with_rejected-facts.result (facts_said c.args.plan.rows c.args.split) (Err c.in-Err.error) c.vacant-delta.ensures
      (c.with_rejected-facts.ensures.facts ∙ ap (λ (n : ℕ). record c.args.split.facts { rejected = n }) (c.rejected_in.ensures ∙ ap (λ (l : List PlanRow). rejected_said l) c.as_slice.ensures)) (c.in-Err.ensures.step core log stands);
  tells = (c.unstaged.ensures.exact, c.requires.place);
}
