use Rattle.std.proofs.Common.{◌≡◌, ◌∙◌, ℕ, List, Some, sym, ap, subst, inl, inr}
use Rattle.std.specs.Prelude.{Option, slice_get}
use Rattle.index_world.specs.Answering.{Answered}
use Rattle.meta_store.specs.declared.planning.PlanRow.{PlanRow}
use Rattle.upkeep_run.specs.Dropping.{DropsOf}
use Rattle.index_world.specs.PlanTasks.{spans_of}
use Rattle.upkeep_run.specs.Ending.{Ends, EndsClose}
use Rattle.upkeep_run.specs.Standing.{LeavesOf}
use Rattle.upkeep_run.proofs.Leaving.{dropped_ends, leave_short, leaves_as, unasked_ends, want_alone}
use Rattle.upkeep_run.specs.Corrupting.{CorruptClose}
use Rattle.upkeep_run.specs.Dropping.{IsUnasked}
use Rattle.upkeep_run.proofs.Corrupted.{unasked_corrupt}
use Rattle.upkeep_run.proofs.delete_worker.DeleteWorker.close.Goals as goal

pub apply-requires-clause-begun : goal.apply-requires-clause-begun
apply-requires-clause-begun g c = λ log begins.
    let given = c.requires.begun log begins in
    let file : slice_get c.args.work.files 0 ≡ Some c.as_slice.result.now = c.at.ensures ∙ ap Some (sym c.as_slice.ensures) in (
      given.0,
      given.1,
      given.2,
      given.3,
      given.4,
      given.5,
      subst (LeavesOf given.0 given.1) (sym c.as_slice-in-Ok.ensures.value)
          (leaves_as given.0 log c.args.work given.1 given.2 given.3 given.4 given.5 (g.met.G.Gate.is_sound c.args.gate.now given.0 log given.6) c.at-row.result.now c.as_slice.result.now c.at-row.ensures file (g.G.Gate.configured c.args.gate.now)
          (c.in-Ok.ensures.config given.0 log given.6) c.in-Ok.dropped.items c.in-Ok.ensures.drops),
      given.6,
    )

pub returns-in-Ok-clause-step : goal.returns-in-Ok-clause-step
returns-in-Ok-clause-step g c = λ core log planned is stands ws i p done.
    let file : slice_get c.args.work.files 0 ≡ Some c.as_slice.result.now = c.at.ensures ∙ ap Some (sym c.as_slice.ensures) in
    c.apply.ensures.step core log planned is stands ws i p done
    (subst (LeavesOf core planned) (sym c.as_slice-in-Ok.ensures.value)
    (leaves_as core log c.args.work planned ws i p done (g.met.G.Gate.is_sound c.args.gate.now core log stands) c.at-row.result.now c.as_slice.result.now c.at-row.ensures file (g.G.Gate.configured c.args.gate.now)
    (c.in-Ok.ensures.config core log stands) c.in-Ok.dropped.items c.in-Ok.ensures.drops))

pub returns-in-Err-clause-step : goal.returns-in-Err-clause-step
returns-in-Err-clause-step g c = λ core log planned is stands ws i p done.
    let file : slice_get c.args.work.files 0 ≡ Some c.as_slice.result.now = c.at.ensures ∙ ap Some (sym c.as_slice.ensures) in
    leave_short core log planned done g.G.Gate.Stands g.G.Gate.Between g.G.Gate.Owns g.G.Gate.Adds c.args.gate.now c.args.gate.now c.args.self.now.place c.unasked.result c.requires.idle
    (want_alone core log c.args.work planned ws i p done (g.met.G.Gate.is_sound c.args.gate.now core log stands) c.at-row.result.now c.as_slice.result.now c.at-row.ensures file (g.G.Gate.configured c.args.gate.now)
    (c.in-Err.ensures.config core log stands) c.in-Err.error c.in-Err.ensures.drops c.at-row.result.now.number c.unasked.result c.unasked.ensures)
    stands (g.met.G.Gate.none_between core) (g.met.G.Gate.adds_none c.args.gate.now)

pub returns-in-Ok-clause-ends : goal.returns-in-Ok-clause-ends
returns-in-Ok-clause-ends g c =
    let Gave : Answered → Type 0 = λ (call : Answered). g.G.Gate.Answers c.args.gate.now call c.apply.new.gate in
    let config = g.G.Gate.configured c.args.gate.now in
    let work = c.args.work in
    let row = c.at-row.result.now in
    let bytes = c.as_slice.result.now in
    let file : slice_get work.files 0 ≡ Some bytes = c.at.ensures ∙ ap Some (sym c.as_slice.ensures) in
    let drops : DropsOf config.schema (spans_of row.work) work.plan.tasks work.plan.upto bytes c.as_slice-in-Ok.result.now =
    subst (λ (ds : List ℕ). DropsOf config.schema (spans_of row.work) work.plan.tasks work.plan.upto bytes ds) (sym c.as_slice-in-Ok.ensures.value) c.in-Ok.ensures.drops in
    subst (λ (o : Option PlanRow). Ends (EndsClose o (slice_get work.files 0) Gave config work) c.apply.result c.apply.new.self.place) (sym c.at-row.ensures)
    (subst (λ (o : Option (List ℕ)). Ends (EndsClose (Some row) o Gave config work) c.apply.result c.apply.new.self.place) (sym file)
    (dropped_ends row Gave config work c.apply.result c.apply.new.self.place bytes c.as_slice-in-Ok.result.now drops (c.apply.ensures.ends row c.at-row.ensures)))

pub returns-in-Err-clause-ends : goal.returns-in-Err-clause-ends
returns-in-Err-clause-ends g c =
    let Gave : Answered → Type 0 = λ (call : Answered). g.G.Gate.Answers c.args.gate.now call c.args.gate.now in
    let config = g.G.Gate.configured c.args.gate.now in
    let work = c.args.work in
    let row = c.at-row.result.now in
    let bytes = c.as_slice.result.now in
    let file : slice_get work.files 0 ≡ Some bytes = c.at.ensures ∙ ap Some (sym c.as_slice.ensures) in
    subst (λ (o : Option PlanRow). Ends (EndsClose o (slice_get work.files 0) Gave config work) c.unasked.result c.args.self.now.place) (sym c.at-row.ensures)
    (subst (λ (o : Option (List ℕ)). Ends (EndsClose (Some row) o Gave config work) c.unasked.result c.args.self.now.place) (sym file)
    (unasked_ends row Gave config work c.unasked.result c.args.self.now.place bytes c.in-Err.error c.in-Err.ensures.drops c.unasked.ensures c.requires.idle))

pub returns-in-Ok-clause-corrupt : goal.returns-in-Ok-clause-corrupt
returns-in-Ok-clause-corrupt g c =
    let Gave : Answered → Type 0 = λ (call : Answered). g.G.Gate.Answers c.args.gate.now call c.apply.new.gate in
    let config = g.G.Gate.configured c.args.gate.now in
    let work = c.args.work in
    let file : slice_get work.files 0 ≡ Some c.as_slice.result.now = c.at.ensures ∙ ap Some (sym c.as_slice.ensures) in
    subst (λ (o : Option PlanRow). CorruptClose o (slice_get work.files 0) Gave config work c.apply.result) (sym c.at-row.ensures)
    (subst (λ (o : Option (List ℕ)). CorruptClose (Some c.at-row.result.now) o Gave config work c.apply.result) (sym file) (λ key e. inr (c.apply.ensures.corrupt key e)))

pub returns-in-Err-clause-corrupt : goal.returns-in-Err-clause-corrupt
returns-in-Err-clause-corrupt g c =
    let Gave : Answered → Type 0 = λ (call : Answered). g.G.Gate.Answers c.args.gate.now call c.args.gate.now in
    let config = g.G.Gate.configured c.args.gate.now in
    let work = c.args.work in
    let row = c.at-row.result.now in
    let file : slice_get work.files 0 ≡ Some c.as_slice.result.now = c.at.ensures ∙ ap Some (sym c.as_slice.ensures) in
    subst (λ (o : Option PlanRow). CorruptClose o (slice_get work.files 0) Gave config work c.unasked.result) (sym c.at-row.ensures)
    (subst (λ (o : Option (List ℕ)). CorruptClose (Some row) o Gave config work c.unasked.result) (sym file)
    (λ key e. inl (unasked_corrupt row.number c.in-Err.error (IsUnasked config.schema work.plan.tasks c.as_slice.result.now) c.in-Err.ensures.drops c.unasked.result c.unasked.ensures key e)))
