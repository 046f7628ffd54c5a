use Rattle.std.proofs.Common.{◌∙◌, ℕ, sym, refl, subst, ap, Ok, Err}
use Rattle.std.specs.Prelude.{None}
use Rattle.index_world.specs.Answering.{Answered, raise_answered}
use Rattle.index_world.specs.CallsMade.{of_raise}
use Rattle.index_world.specs.Gate.{Does, IsRevision, IsUnmade, raise_call}
use Rattle.index_world.specs.Replacing.{IsRaisable}
use Rattle.meta_store.specs.declared.planning.PlanRow.{PlanRow}
use Rattle.upkeep_run.specs.Ending.{EndsRaise}
use Rattle.upkeep_run.specs.declared.outcome.UpkeepOutcome.{UpkeepOutcome as Said}
use Rattle.upkeep_run.specs.declared.work.WorkerPlace.TheVariants as places
use Rattle.upkeep_run.proofs.Ended.{ends_by}
use Rattle.upkeep_run.proofs.Judged.{same_row}
use Rattle.upkeep_run.proofs.DropLeaves.{within_first}
use Rattle.upkeep_run.proofs.work.raise_row.Goals as goal

pub raise-requires-clause-within : goal.raise-requires-clause-within
raise-requires-clause-within g c = within_first c.args.plan.now.rows c.requires.first.0 c.requires.first.1

pub raise-requires-clause-begun : goal.raise-requires-clause-begun
raise-requires-clause-begun g c = λ log row begins there.
    let given = c.requires.begun log begins in
    let same = same_row _ c.requires.first.0 row c.requires.first.1 there in
    (given.0, given.1, subst (λ (n : ℕ). IsRaisable given.0 n c.args.plan.now.upto) (sym c.requires.first.2 ∙ ap (λ (r : PlanRow). r.number) same) given.2)

pub returns-in-Ok-clause-step : goal.returns-in-Ok-clause-step
returns-in-Ok-clause-step g c = λ core log stands may. record {
  answer = Ok c.in-Ok.field-0;
  does = subst (λ (n : ℕ). Does g.G.Gate.Stands g.G.Gate.Between g.G.Gate.Owns g.G.Gate.Adds None (of_raise n c.args.plan.now.upto) (raise_call n c.args.plan.now.upto) IsUnmade IsRevision (Ok c.in-Ok.field-0) core log c.args.gate.now c.raise.new.self) c.requires.first.2
      (c.in-Ok.ensures.step core log c.requires.first.0 stands c.requires.first.1 (subst (λ (n : ℕ). IsRaisable core n c.args.plan.now.upto) (sym c.requires.first.2) may));
  tells = refl;
}

pub returns-in-Err-clause-step : goal.returns-in-Err-clause-step
returns-in-Err-clause-step g c = λ core log stands may. record {
  answer = Err c.in-Err.error;
  does = subst (λ (n : ℕ). Does g.G.Gate.Stands g.G.Gate.Between g.G.Gate.Owns g.G.Gate.Adds None (of_raise n c.args.plan.now.upto) (raise_call n c.args.plan.now.upto) IsUnmade IsRevision (Err c.in-Err.error) core log c.args.gate.now c.raise.new.self) c.requires.first.2
      (c.in-Err.ensures.step core log c.requires.first.0 stands c.requires.first.1 (subst (λ (n : ℕ). IsRaisable core n c.args.plan.now.upto) (sym c.requires.first.2) may));
  tells = c.lost.ensures.exact;
}

pub returns-in-Ok-clause-ends : goal.returns-in-Ok-clause-ends
returns-in-Ok-clause-ends g c =
    (Ok c.in-Ok.field-0, subst (λ (n : ℕ). g.G.Gate.Answers c.args.gate.now (raise_answered n c.args.plan.now.upto (Ok c.in-Ok.field-0)) c.raise.new.self) c.requires.first.2 (c.in-Ok.ensures.answered c.requires.first.0 c.requires.first.1), refl, refl)

pub returns-in-Err-clause-ends : goal.returns-in-Err-clause-ends
returns-in-Err-clause-ends g c =
    ends_by (EndsRaise (λ (call : Answered). g.G.Gate.Answers c.args.gate.now call c.raise.new.self) c.args.plan.now c.args.number) c.lost.result places.Idle refl (λ (outcome : Said) e. (
      Err c.in-Err.error,
      subst (λ (n : ℕ). g.G.Gate.Answers c.args.gate.now (raise_answered n c.args.plan.now.upto (Err c.in-Err.error)) c.raise.new.self) c.requires.first.2 (c.in-Err.ensures.answered c.requires.first.0 c.requires.first.1),
      sym c.lost.ensures.exact ∙ e,
      refl,
    ))
