use Rattle.std.proofs.Common.{ℕ, List, sym, ap, ap₂, ◌∙◌, subst, arith, ◌≤◌, map, refl}
use Rattle.delete_tasks.specs.Removes.{DeleteTask}
use Rattle.meta_store.proofs.Current.{tasks_agree}
use Rattle.meta_store.specs.State as meta
use Rattle.meta_store.specs.declared.planning.PlanRow.{PlanRow}
use Rattle.index_world.specs.Calls.{asked_and_looked, asked_clock}
use Rattle.index_world.specs.Gate.{IsPlan}
use Rattle.index_world.specs.PlanTasks.{plan_tasks}
use Rattle.meta_store.specs.Planning.{planned_as, rows_for}
use Rattle.meta_store.specs.History.{history, last_opstamp}
use Rattle.meta_store.specs.Readings.{config_of}
use Rattle.meta_store.specs.Rows.{rows}
use Rattle.index_world.specs.Config.{reads}
use Rattle.index_world.specs.Core.{last_count}
use Rattle.index_world.specs.Taking.{IsWant}
use Rattle.index_world.specs.World.{Keeping, WorldStands}
use Rattle.std.specs.Prelude.{IfErr, Result, ⊤}
use Rattle.index_world.specs.Answering.{SaysPlanned, SettlesNot}
use Rattle.index_world.specs.declared.tokens.Plan.{Plan}
use Rattle.index_world.specs.declared.world_error.WorldError.{WorldError}
use Rattle.index_world.proofs.Answering.{tells_failed, tells_ok, tells_short, want_settles}
use Rattle.index_world.proofs.Gates.{kept_by, stands_of, world_asks, settles_said, looks_failed, looks_ok, looks_wants, asked_wholes, life_revision, life_opstamp}
use Rattle.index_world.specs.Unsure.{is_unsure}
use Rattle.index_world.proofs.Following.{followed_from}
use Rattle.index_world.proofs.world.World.plan.Goals as goal

pub returns-in_err-settle-clause-step : goal.returns-in_err-settle-clause-step
returns-in_err-settle-clause-step g c core log s =
    let asks = c.ask.ensures.asks core.clock s.clock in
    let t = subst (λ (k : Keeping). WorldStands k (asked_clock core) log) (sym c.self-2.view_is) (world_asks _ _ core log s asks) in
    let counts = ap (λ (k : Keeping). k.store_faults) c.self.view_is in
    let counts2 = ap (λ (k : Keeping). k.store_faults) (c.self-2.view_is ∙ asks) in
    let before = c.faults-before.ensures in
    let fits = c.faults-before.type_inv in
    let within : g.S.ObjectStore.fault_count c.self-2.inside.store ≤ last_count = omega (arith, counts, counts2, before, fits) in
    let b = stands_of _ _ _ c.self-2.inside.life _ (asked_clock core) log within t in
    let x = c.settle.ensures.step t.kept (asked_clock core) log t.told b (before ∙ counts ∙ s.store_faults) in
    looks_failed asked_and_looked _ _ _ _ _ c.self-2.inside.life _ _ core (asked_clock core) log t within (asked_wholes core log t.kept t.world t.opened) (IsPlan c.args.choice.now) c.in_err-settle.field-0.0 c.from_residual.result _
    (settles_said _ _ _ _ _ _ _ _ c.in_err-settle.was x) c.from_residual.ensures.1 (λ error is. is)

pub returns-in_err-rows-clause-step : goal.returns-in_err-rows-clause-step
returns-in_err-rows-clause-step g c core log s =
    let asks = c.ask.ensures.asks core.clock s.clock in
    let t = subst (λ (k : Keeping). WorldStands k (asked_clock core) log) (sym c.self-2.view_is) (world_asks _ _ core log s asks) in
    let counts = ap (λ (k : Keeping). k.store_faults) c.self.view_is in
    let counts2 = ap (λ (k : Keeping). k.store_faults) (c.self-2.view_is ∙ asks) in
    let before = c.faults-before.ensures in
    let fits = c.faults-before.type_inv in
    let within : g.S.ObjectStore.fault_count c.self-2.inside.store ≤ last_count = omega (arith, counts, counts2, before, fits) in
    let b = stands_of _ _ _ c.self-2.inside.life _ (asked_clock core) log within t in
    let x = c.settle.ensures.step t.kept (asked_clock core) log t.told b (before ∙ counts ∙ s.store_faults) in
    looks_wants asked_and_looked _ _ _ _ _ c.self-2.inside.life _ _ core (asked_clock core) log t within (asked_wholes core log t.kept t.world t.opened) (IsPlan c.args.choice.now) c.from_residual-in_err-rows.result _
    (settles_said _ _ _ _ _ _ _ _ c.in_ok-settle.was x) c.from_residual-in_err-rows.ensures.1 (λ error is. subst IsWant (sym is) tt)

pub returns-in_err-plan_tasks-clause-step : goal.returns-in_err-plan_tasks-clause-step
returns-in_err-plan_tasks-clause-step g c core log s =
    let asks = c.ask.ensures.asks core.clock s.clock in
    let t = subst (λ (k : Keeping). WorldStands k (asked_clock core) log) (sym c.self-2.view_is) (world_asks _ _ core log s asks) in
    let counts = ap (λ (k : Keeping). k.store_faults) c.self.view_is in
    let counts2 = ap (λ (k : Keeping). k.store_faults) (c.self-2.view_is ∙ asks) in
    let before = c.faults-before.ensures in
    let fits = c.faults-before.type_inv in
    let within : g.S.ObjectStore.fault_count c.self-2.inside.store ≤ last_count = omega (arith, counts, counts2, before, fits) in
    let b = stands_of _ _ _ c.self-2.inside.life _ (asked_clock core) log within t in
    let x = c.settle.ensures.step t.kept (asked_clock core) log t.told b (before ∙ counts ∙ s.store_faults) in
    looks_wants asked_and_looked _ _ _ _ _ c.self-2.inside.life _ _ core (asked_clock core) log t within (asked_wholes core log t.kept t.world t.opened) (IsPlan c.args.choice.now) c.from_residual-in_err-plan_tasks.result _
    (settles_said _ _ _ _ _ _ _ _ c.in_ok-settle.was x) c.from_residual-in_err-plan_tasks.ensures.1 (λ error is. subst IsWant (sym is) tt)

pub returns-clause-step : goal.returns-clause-step
returns-clause-step g c core log s =
    let asks = c.ask.ensures.asks core.clock s.clock in
    let t = subst (λ (k : Keeping). WorldStands k (asked_clock core) log) (sym c.self-2.view_is) (world_asks _ _ core log s asks) in
    let counts = ap (λ (k : Keeping). k.store_faults) c.self.view_is in
    let counts2 = ap (λ (k : Keeping). k.store_faults) (c.self-2.view_is ∙ asks) in
    let before = c.faults-before.ensures in
    let fits = c.faults-before.type_inv in
    let within : g.S.ObjectStore.fault_count c.self-2.inside.store ≤ last_count = omega (arith, counts, counts2, before, fits) in
    let b = stands_of _ _ _ c.self-2.inside.life _ (asked_clock core) log within t in
    let x = c.settle.ensures.step t.kept (asked_clock core) log t.told b (before ∙ counts ∙ s.store_faults) in
    looks_ok asked_and_looked _ _ _ _ _ c.self-2.inside.life _ _ core (asked_clock core) log t within (asked_wholes core log t.kept t.world t.opened) (IsPlan c.args.choice.now) _
    (settles_said _ _ _ _ _ _ _ _ c.in_ok-settle.was x)
    (λ after k. record {
      revision = c.revision.ensures ∙ life_revision _ after.history after.moment after.unsure k;
      moment = k.moment;
      upto = c.last_opstamp-upto.ensures ∙ life_opstamp _ after.history after.moment after.unsure k;
      rows = c.in_ok-rows.ensures ∙ ap (λ (m : meta.State). map (planned_as c.args.choice.now) (rows_for m.config c.args.choice.now c.settle.new.self.moment m.last_opstamp m.rows)) k.meta
          ∙ ap (λ (moment : ℕ). map (planned_as c.args.choice.now) (rows_for (config_of reads (history after.history)) c.args.choice.now moment (last_opstamp (history after.history)) (rows (history after.history)))) k.moment;
      tasks = c.in_ok-plan_tasks.ensures ∙ ap₂ (λ (rs : List PlanRow) (ts : List DeleteTask). plan_tasks c.args.choice.now c.last_opstamp-upto.result rs ts) c.as_slice.ensures
          (c.as_slice-all.ensures ∙ c.tasks.ensures ∙ ap (λ (m : meta.State). m.tasks) k.meta ∙ sym (tasks_agree reads (history after.history)));
    })

-- ---- over every store

pub returns-in_err-settle-clause-answers : goal.returns-in_err-settle-clause-answers
returns-in_err-settle-clause-answers g c =
    let new = (kept_by (g.S.ObjectStore.given c.settle.new.store) (g.S.ObjectStore.told c.settle.new.store) (g.S.ObjectStore.fault_count c.settle.new.store) (g.C.Clock.told c.self-2.inside.clock) c.settle.new.self c.self-2.inside.frozen) in
    let told = ap (λ (k : Keeping). k.told) c.self-2.view_is ∙ c.ask.ensures.told in
    let counts = ap (λ (k : Keeping). k.store_faults) c.self-2.view_is ∙ c.ask.ensures.counted in (
      tells_failed (λ (r : Result Plan WorldError) now. SaysPlanned c.args.choice.now r new now) (λ (k : Result ⊤ WorldError) now. IfErr k (λ error. SettlesNot error new.next new.meta now))
          c.from_residual.result _ c.in_err-settle.field-0.0 c.args.self.now new _ c.faults-before.result _ c.settle.result told counts (c.faults-before.ensures ∙ ap (λ (k : Keeping). k.store_faults) c.self.view_is) c.in_err-settle.was c.from_residual.ensures.1 (λ error is. is)
          c.settle.ensures.faults c.settle.ensures.answers (λ now h. h),
      followed_from (kept_by (g.S.ObjectStore.given c.self-2.inside.store) (g.S.ObjectStore.told c.self-2.inside.store) (g.S.ObjectStore.fault_count c.self-2.inside.store) (g.C.Clock.told c.self-2.inside.clock) c.self-2.inside.life c.self-2.inside.frozen) c.args.self.now new (ap (λ (k : Keeping). k.told) c.self-2.view_is ∙ c.ask.ensures.told) (ap (λ (k : Keeping). k.next) c.self-2.view_is ∙ c.ask.ensures.next) (ap (λ (k : Keeping). k.meta) c.self-2.view_is ∙ c.ask.ensures.meta) c.settle.ensures.followed,
    )

pub returns-in_err-rows-clause-answers : goal.returns-in_err-rows-clause-answers
returns-in_err-rows-clause-answers g c =
    let new = (kept_by (g.S.ObjectStore.given c.settle.new.store) (g.S.ObjectStore.told c.settle.new.store) (g.S.ObjectStore.fault_count c.settle.new.store) (g.C.Clock.told c.self-2.inside.clock) c.settle.new.self c.self-2.inside.frozen) in
    let told = ap (λ (k : Keeping). k.told) c.self-2.view_is ∙ c.ask.ensures.told in (
      tells_short (λ (r : Result Plan WorldError) now. SaysPlanned c.args.choice.now r new now) _ c.from_residual-in_err-rows.result _ c.args.self.now new _ told c.from_residual-in_err-rows.ensures.1 (λ error is. subst IsWant (sym is) tt)
          c.settle.ensures.answers (want_settles new.next new.meta),
      followed_from (kept_by (g.S.ObjectStore.given c.self-2.inside.store) (g.S.ObjectStore.told c.self-2.inside.store) (g.S.ObjectStore.fault_count c.self-2.inside.store) (g.C.Clock.told c.self-2.inside.clock) c.self-2.inside.life c.self-2.inside.frozen) c.args.self.now new (ap (λ (k : Keeping). k.told) c.self-2.view_is ∙ c.ask.ensures.told) (ap (λ (k : Keeping). k.next) c.self-2.view_is ∙ c.ask.ensures.next) (ap (λ (k : Keeping). k.meta) c.self-2.view_is ∙ c.ask.ensures.meta) c.settle.ensures.followed,
    )

pub returns-in_err-plan_tasks-clause-answers : goal.returns-in_err-plan_tasks-clause-answers
returns-in_err-plan_tasks-clause-answers g c =
    let new = (kept_by (g.S.ObjectStore.given c.settle.new.store) (g.S.ObjectStore.told c.settle.new.store) (g.S.ObjectStore.fault_count c.settle.new.store) (g.C.Clock.told c.self-2.inside.clock) c.settle.new.self c.self-2.inside.frozen) in
    let told = ap (λ (k : Keeping). k.told) c.self-2.view_is ∙ c.ask.ensures.told in (
      tells_short (λ (r : Result Plan WorldError) now. SaysPlanned c.args.choice.now r new now) _ c.from_residual-in_err-plan_tasks.result _ c.args.self.now new _ told c.from_residual-in_err-plan_tasks.ensures.1 (λ error is. subst IsWant (sym is) tt)
          c.settle.ensures.answers (want_settles new.next new.meta),
      followed_from (kept_by (g.S.ObjectStore.given c.self-2.inside.store) (g.S.ObjectStore.told c.self-2.inside.store) (g.S.ObjectStore.fault_count c.self-2.inside.store) (g.C.Clock.told c.self-2.inside.clock) c.self-2.inside.life c.self-2.inside.frozen) c.args.self.now new (ap (λ (k : Keeping). k.told) c.self-2.view_is ∙ c.ask.ensures.told) (ap (λ (k : Keeping). k.next) c.self-2.view_is ∙ c.ask.ensures.next) (ap (λ (k : Keeping). k.meta) c.self-2.view_is ∙ c.ask.ensures.meta) c.settle.ensures.followed,
    )

pub returns-clause-answers : goal.returns-clause-answers
returns-clause-answers g c =
    let new = (kept_by (g.S.ObjectStore.given c.settle.new.store) (g.S.ObjectStore.told c.settle.new.store) (g.S.ObjectStore.fault_count c.settle.new.store) (g.C.Clock.told c.self-2.inside.clock) c.settle.new.self c.self-2.inside.frozen) in
    let told = ap (λ (k : Keeping). k.told) c.self-2.view_is ∙ c.ask.ensures.told in (
      tells_ok (λ (r : Result Plan WorldError) now. SaysPlanned c.args.choice.now r new now) (λ (k : Result ⊤ WorldError) now. IfErr k (λ error. SettlesNot error new.next new.meta now)) (record { revision = c.revision.result; moment = c.settle.new.self.moment; upto = c.last_opstamp-upto.result; rows = c.in_ok-rows.rows; tasks = c.in_ok-plan_tasks.field-0 }) _ c.args.self.now new _ c.settle.result told c.in_ok-settle.was c.settle.ensures.answers
          (λ now h. record {
            revision = c.revision.ensures;
            moment = refl;
            upto = c.last_opstamp-upto.ensures;
            rows = c.in_ok-rows.ensures;
            tasks = c.in_ok-plan_tasks.ensures ∙ ap₂ (λ (rs : List PlanRow) (ts : List DeleteTask). plan_tasks c.args.choice.now c.last_opstamp-upto.result rs ts) c.as_slice.ensures (c.as_slice-all.ensures ∙ c.tasks.ensures);
            settled = ap is_unsure c.in_ok-settle.ensures.place;
          }),
      followed_from (kept_by (g.S.ObjectStore.given c.self-2.inside.store) (g.S.ObjectStore.told c.self-2.inside.store) (g.S.ObjectStore.fault_count c.self-2.inside.store) (g.C.Clock.told c.self-2.inside.clock) c.self-2.inside.life c.self-2.inside.frozen) c.args.self.now new (ap (λ (k : Keeping). k.told) c.self-2.view_is ∙ c.ask.ensures.told) (ap (λ (k : Keeping). k.next) c.self-2.view_is ∙ c.ask.ensures.next) (ap (λ (k : Keeping). k.meta) c.self-2.view_is ∙ c.ask.ensures.meta) c.settle.ensures.followed,
    )
