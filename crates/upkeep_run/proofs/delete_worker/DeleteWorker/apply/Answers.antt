use Rattle.std.proofs.Common.{◌≡◌, ◌∙◌, [], sym, ap, subst, inl}
use Rattle.index_world.specs.Answering.{Answered}
use Rattle.meta_store.specs.declared.planning.PlanRow.{PlanRow}
use Rattle.upkeep_run.specs.Places.{fetching}
use Rattle.upkeep_run.specs.Standing.{StepsAs}
use Rattle.upkeep_run.specs.Ending.{Ends, EndsRaise}
use Rattle.upkeep_run.specs.declared.work.Aim.TheVariants.{Deleting}
use Rattle.upkeep_run.specs.declared.work.WorkerPlace.{WorkerPlace as HeldPlace}
use Rattle.upkeep_run.proofs.DropLeaves.{no_items, some_items}
use Rattle.upkeep_run.proofs.Judged.{same_row}
use Rattle.upkeep_run.proofs.Leaving.{left_ends, number_is, raisable_as, raised_ends, raises}
use Rattle.upkeep_run.proofs.Told.{lost_answers}
use Rattle.upkeep_run.specs.declared.work.WorkerPlace.TheVariants as places
use Rattle.upkeep_run.proofs.Corrupted.{raise_gives}
use Rattle.upkeep_run.proofs.delete_worker.DeleteWorker.apply.Goals as goal

pub raise_row-requires-clause-begun : goal.raise_row-requires-clause-begun
raise_row-requires-clause-begun g c = λ log begins.
    let given = c.requires.begun log begins in
    (given.0, given.7, raisable_as given.0 log c.args.work given.1 given.2 given.3 given.4 given.5 c.requires.first.0 c.args.number c.requires.first.1 c.requires.first.2 c.args.dropped.now given.6 (no_items c.args.dropped.now c.is_empty.result c.is_empty.ensures c.if-is_empty.true))

pub returns-then-is_empty-clause-ends : goal.returns-then-is_empty-clause-ends
returns-then-is_empty-clause-ends g c = λ (row : PlanRow) there.
    let same = same_row _ c.requires.first.0 row c.requires.first.1 there in
    raised_ends row (λ (call : Answered). g.G.Gate.Answers c.args.gate.now call c.raise_row.new.gate) (g.G.Gate.configured c.args.gate.now) c.args.work c.raise_row.result c.args.self.now.place c.args.dropped.now c.args.number (no_items c.args.dropped.now c.is_empty.result c.is_empty.ensures c.if-is_empty.true)
    (ap (λ (r : PlanRow). r.number) (sym same) ∙ c.requires.first.2)
    (subst (λ (k : HeldPlace). Ends (EndsRaise (λ (call : Answered). g.G.Gate.Answers c.args.gate.now call c.raise_row.new.gate) c.args.work.plan c.args.number) c.raise_row.result k) (sym c.requires.idle) c.raise_row.ensures.ends)

pub returns-then-is_empty-clause-step : goal.returns-then-is_empty-clause-step
returns-then-is_empty-clause-step g c = λ core log planned is stands ws i p done leaves.
    let none : c.args.dropped.now ≡ [] = no_items c.args.dropped.now c.is_empty.result c.is_empty.ensures c.if-is_empty.true in
    let number = number_is core log c.args.work planned ws i p done c.requires.first.0 c.args.number c.requires.first.1 c.requires.first.2 in
    let may = raisable_as core log c.args.work planned ws i p done c.requires.first.0 c.args.number c.requires.first.1 c.requires.first.2 c.args.dropped.now leaves none in
    subst (λ (k : HeldPlace). StepsAs g.G.Gate.Stands g.G.Gate.Between g.G.Gate.Owns g.G.Gate.Adds Deleting c.raise_row.result (fetching planned) core log k c.args.gate.now c.raise_row.new.gate) (sym c.requires.idle)
    (raises core log c.args.work planned ws i p done c.args.dropped.now leaves g.G.Gate.Stands g.G.Gate.Between g.G.Gate.Owns g.G.Gate.Adds c.args.gate.now c.raise_row.new.gate g.met.G.Gate.between_goes
    (λ after there. g.met.G.Gate.is_sound c.raise_row.new.gate after log there) none c.args.number c.args.work.plan.upto c.raise_row.result number ws.upto (lost_answers c.args.number) (c.raise_row.ensures.step core log stands may))

pub returns-clause-ends : goal.returns-clause-ends
returns-clause-ends g c = λ (row : PlanRow) there.
    left_ends row (λ (call : Answered). g.G.Gate.Answers c.args.gate.now call c.rebuild.new.gate) (g.G.Gate.configured c.args.gate.now) c.args.work c.rebuild.result c.rebuild.new.self.place c.args.dropped.now (some_items c.args.dropped.now c.is_empty.result c.is_empty.ensures c.if-is_empty.false) c.rebuild.ensures.ends

pub returns-clause-step : goal.returns-clause-step
returns-clause-step g c = λ core log planned is stands ws i p done leaves. c.rebuild.ensures.step core log planned is stands ws i p done leaves (some_items c.args.dropped.now c.is_empty.result c.is_empty.ensures c.if-is_empty.false)

pub returns-then-is_empty-clause-corrupt : goal.returns-then-is_empty-clause-corrupt
returns-then-is_empty-clause-corrupt g c = λ key e. inl (raise_gives (λ (call : Answered). g.G.Gate.Answers c.args.gate.now call c.raise_row.new.gate) c.args.work.plan c.args.number c.raise_row.result places.Idle c.raise_row.ensures.ends key e)
