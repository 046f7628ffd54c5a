use Rattle.std.proofs.Common.{◌≡◌, ◌≤◌, ◌∙◌, sym, ap, subst, arith, Ok, Err, refl, inl, inr, List, ℕ}
use Rattle.source_log.specs.Log.{IsToldLog}
use Rattle.source_log.specs.declared.log.ReadError.{ReadError}
use Rattle.source_log.specs.declared.log.ReadError.TheVariants.{Failed}
use Rattle.std.specs.Prelude.{Result, IfOk}
use Rattle.doc_value.specs.Documents.{IsSchema}
use Rattle.index_config.specs.declared.config.IndexConfig.{IndexConfig}
use Rattle.index_world.specs.Core.{last_count, IsConfigured}
use Rattle.indexing_run.specs.Places.{idle}
use Rattle.indexing_run.specs.declared.indexer.IndexerPlace.TheVariants as places
use Rattle.indexing_run.specs.Standing.{PlaceStands, HoldsOwn}
use Rattle.indexing_run.proofs.Stepping.{as_put, idle_stays, no_answer}
use Rattle.indexing_run.proofs.Reading.{names_later, names_as, names_failed, names_short, names_fault, marks_fail, marks_short, begins}
use Rattle.indexing_run.proofs.Holding.{own_later}
use Rattle.indexing_run.specs.declared.outcome.IndexerOutcome.{IndexerOutcome as Said}
use Rattle.indexing_run.specs.Ending.{EndsIdle}
use Rattle.indexing_run.specs.Standing.{BatchStands, NamesGiven}
use Rattle.indexing_run.specs.Steps.{fresh_batch, marks_at}
use Rattle.indexing_run.proofs.Ended.{ends_by, ends_short, names_are, source_fault}
use Rattle.index_world.specs.Answering.{Answered}
use Rattle.indexing_run.proofs.indexer.Indexer.take_checkpoints.Goals as goal

pub returns-in-Err-Memory-clause-step : goal.returns-in-Err-Memory-clause-step
returns-in-Err-Memory-clause-step g c = λ indexer core read s stands.
    let next = c.names-names.new.self in
    let given = c.names-names.ensures.names read s.told in
    let first = names_later c.args.self.now.assignment c.names-names.result (g.L.SourceLog.fault_count c.args.self.now.log) (g.L.SourceLog.fault_count c.names-names.new.self.log) read given in
    let later : indexer.log_faults ≤ c.faults-after.result = (let n = c.faults-after.ensures.count in let f = s.log_faults in omega (arith, first, n, f)) in
    let within : c.faults-after.result ≤ last_count = (let i = c.faults-after.type_inv in omega (arith, i)) in
    let place = subst (λ k. PlaceStands read core k idle) (sym c.names-names.ensures.place) s.place in
    names_short g.L.SourceLog.told g.L.SourceLog.fault_count g.G.Gate.Stands g.G.Gate.Between g.G.Gate.Owns g.G.Gate.Adds indexer core read c.args.self.now c.args.gate.now c.args.gate.now s c.faults-after.result
    next (c.names-names.ensures.told read s.told) (sym c.faults-after.ensures.count) c.names-names.ensures.assignment later within next.place (Err c.in-Err-Memory.refused) place tt stands (g.met.G.Gate.none_between core) (g.met.G.Gate.adds_none c.args.gate.now)

pub returns-in-Err-Failed-clause-step : goal.returns-in-Err-Failed-clause-step
returns-in-Err-Failed-clause-step g c = λ indexer core read s stands.
    let field : c.in-Err-Failed.field-0 ≡ Failed = rw c.in-Err-Failed.is at c.in-Err-Failed.field-0-is in
    let next = c.names-names.new.self in
    let given = c.names-names.ensures.names read s.told in
    let first = names_later c.args.self.now.assignment c.names-names.result (g.L.SourceLog.fault_count c.args.self.now.log) (g.L.SourceLog.fault_count c.names-names.new.self.log) read given in
    let later : indexer.log_faults ≤ c.faults-after.result = (let n = c.faults-after.ensures.count in let f = s.log_faults in omega (arith, first, n, f)) in
    let within : c.faults-after.result ≤ last_count = (let i = c.faults-after.type_inv in omega (arith, i)) in
    let place = subst (λ k. PlaceStands read core k idle) (sym c.names-names.ensures.place) s.place in
    let here = names_as c.args.self.now.assignment indexer.assignment c.names-names.result (Err Failed) (g.L.SourceLog.fault_count c.args.self.now.log) indexer.log_faults (g.L.SourceLog.fault_count c.names-names.new.self.log)
    c.faults-after.result read s.assignment (c.in-Err-Failed.is ∙ ap Err field) s.log_faults (sym c.faults-after.ensures.count) given in
    let failed = names_failed indexer.assignment indexer.log_faults c.faults-after.result read here in
    names_fault g.L.SourceLog.told g.L.SourceLog.fault_count g.G.Gate.Stands g.G.Gate.Between g.G.Gate.Owns g.G.Gate.Adds indexer core read c.args.self.now c.args.gate.now c.args.gate.now s c.faults-after.result
    next (c.names-names.ensures.told read s.told) (sym c.faults-after.ensures.count) c.names-names.ensures.assignment later within next.place c.faults-before.result place (c.faults-before.ensures.count ∙ s.log_faults) failed.0 failed.1 stands (g.met.G.Gate.none_between core) (g.met.G.Gate.adds_none c.args.gate.now)

pub returns-in_err-config-in-Ok-checkpoints-clause-step : goal.returns-in_err-config-in-Ok-checkpoints-clause-step
returns-in_err-config-in-Ok-checkpoints-clause-step g c = λ indexer core read s stands.
    let next = c.names-names.new.self in
    let given = c.names-names.ensures.names read s.told in
    let first = names_later c.args.self.now.assignment c.names-names.result (g.L.SourceLog.fault_count c.args.self.now.log) (g.L.SourceLog.fault_count c.names-names.new.self.log) read given in
    let later : indexer.log_faults ≤ c.faults-after.result = (let n = c.faults-after.ensures.count in let f = s.log_faults in omega (arith, first, n, f)) in
    let within : c.faults-after.result ≤ last_count = (let i = c.faults-after.type_inv in omega (arith, i)) in
    let place = subst (λ k. PlaceStands read core k idle) (sym c.names-names.ensures.place) s.place in
    let here = names_as c.args.self.now.assignment indexer.assignment c.names-names.result (Ok c.in-Ok.names) (g.L.SourceLog.fault_count c.args.self.now.log) indexer.log_faults (g.L.SourceLog.fault_count c.names-names.new.self.log)
    c.faults-after.result read s.assignment c.in-Ok.is s.log_faults (sym c.faults-after.ensures.count) given in
    marks_short g.L.SourceLog.told g.L.SourceLog.fault_count g.G.Gate.Stands g.G.Gate.Between g.G.Gate.Owns g.G.Gate.Adds indexer core read c.args.self.now c.args.gate.now c.checkpoints.new.self s c.faults-after.result
    next (c.names-names.ensures.told read s.told) (sym c.faults-after.ensures.count) c.names-names.ensures.assignment later within c.in-Ok.names here next.place c.in-Ok-checkpoints.marks c.from_residual.result
    (λ after. idle_stays read core after next.place place) (no_answer c.from_residual.result c.from_residual.ensures.0) (c.in-Ok-checkpoints.ensures.step core read stands)

pub returns-in_err-batch-in-Ok-checkpoints-clause-step : goal.returns-in_err-batch-in-Ok-checkpoints-clause-step
returns-in_err-batch-in-Ok-checkpoints-clause-step g c = λ indexer core read s stands.
    let next = c.names-names.new.self in
    let given = c.names-names.ensures.names read s.told in
    let first = names_later c.args.self.now.assignment c.names-names.result (g.L.SourceLog.fault_count c.args.self.now.log) (g.L.SourceLog.fault_count c.names-names.new.self.log) read given in
    let later : indexer.log_faults ≤ c.faults-after.result = (let n = c.faults-after.ensures.count in let f = s.log_faults in omega (arith, first, n, f)) in
    let within : c.faults-after.result ≤ last_count = (let i = c.faults-after.type_inv in omega (arith, i)) in
    let place = subst (λ k. PlaceStands read core k idle) (sym c.names-names.ensures.place) s.place in
    let here = names_as c.args.self.now.assignment indexer.assignment c.names-names.result (Ok c.in-Ok.names) (g.L.SourceLog.fault_count c.args.self.now.log) indexer.log_faults (g.L.SourceLog.fault_count c.names-names.new.self.log)
    c.faults-after.result read s.assignment c.in-Ok.is s.log_faults (sym c.faults-after.ensures.count) given in
    marks_short g.L.SourceLog.told g.L.SourceLog.fault_count g.G.Gate.Stands g.G.Gate.Between g.G.Gate.Owns g.G.Gate.Adds indexer core read c.args.self.now c.args.gate.now c.checkpoints.new.self s c.faults-after.result
    next (c.names-names.ensures.told read s.told) (sym c.faults-after.ensures.count) c.names-names.ensures.assignment later within c.in-Ok.names here next.place c.in-Ok-checkpoints.marks c.from_residual-in_err-batch-in-Ok-checkpoints.result
    (λ after. idle_stays read core after next.place place) (no_answer c.from_residual-in_err-batch-in-Ok-checkpoints.result c.from_residual-in_err-batch-in-Ok-checkpoints.ensures.0) (c.in-Ok-checkpoints.ensures.step core read stands)

pub returns-in-Ok-checkpoints-clause-step : goal.returns-in-Ok-checkpoints-clause-step
returns-in-Ok-checkpoints-clause-step g c = λ indexer core read s stands.
    let next = c.names-names.new.self in
    let given = c.names-names.ensures.names read s.told in
    let first = names_later c.args.self.now.assignment c.names-names.result (g.L.SourceLog.fault_count c.args.self.now.log) (g.L.SourceLog.fault_count c.names-names.new.self.log) read given in
    let later : indexer.log_faults ≤ c.faults-after.result = (let n = c.faults-after.ensures.count in let f = s.log_faults in omega (arith, first, n, f)) in
    let within : c.faults-after.result ≤ last_count = (let i = c.faults-after.type_inv in omega (arith, i)) in
    let place = subst (λ k. PlaceStands read core k idle) (sym c.names-names.ensures.place) s.place in
    let here = names_as c.args.self.now.assignment indexer.assignment c.names-names.result (Ok c.in-Ok.names) (g.L.SourceLog.fault_count c.args.self.now.log) indexer.log_faults (g.L.SourceLog.fault_count c.names-names.new.self.log)
    c.faults-after.result read s.assignment c.in-Ok.is s.log_faults (sym c.faults-after.ensures.count) given in
    as_put next (places.Reading c.in_ok-batch-in-Ok-checkpoints.batch) c.put.new.place c.put.ensures
    (begins g.L.SourceLog.told g.L.SourceLog.fault_count g.G.Gate.Stands g.G.Gate.Between g.G.Gate.Owns g.G.Gate.Adds indexer core read c.args.self.now c.args.gate.now c.checkpoints.new.self s c.faults-after.result
    next (c.names-names.ensures.told read s.told) (sym c.faults-after.ensures.count) c.names-names.ensures.assignment later within c.in-Ok.names here c.in_ok-config-in-Ok-checkpoints.config c.in_ok-batch-in-Ok-checkpoints.batch c.in-Ok-checkpoints.marks
    (subst IsToldLog s.told c.faults-before.ensures.sound)
    (λ after st. subst (λ (x : IndexConfig). IsConfigured x after) (sym c.in_ok-config-in-Ok-checkpoints.ensures) (c.config.ensures.step after read st)) c.in_ok-batch-in-Ok-checkpoints.ensures (c.in-Ok-checkpoints.ensures.step core read stands))

pub returns-clause-step : goal.returns-clause-step
returns-clause-step g c = λ indexer core read s stands.
    let next = c.names-names.new.self in
    let given = c.names-names.ensures.names read s.told in
    let first = names_later c.args.self.now.assignment c.names-names.result (g.L.SourceLog.fault_count c.args.self.now.log) (g.L.SourceLog.fault_count c.names-names.new.self.log) read given in
    let later : indexer.log_faults ≤ c.faults-after.result = (let n = c.faults-after.ensures.count in let f = s.log_faults in omega (arith, first, n, f)) in
    let within : c.faults-after.result ≤ last_count = (let i = c.faults-after.type_inv in omega (arith, i)) in
    let place = subst (λ k. PlaceStands read core k idle) (sym c.names-names.ensures.place) s.place in
    let here = names_as c.args.self.now.assignment indexer.assignment c.names-names.result (Ok c.in-Ok.names) (g.L.SourceLog.fault_count c.args.self.now.log) indexer.log_faults (g.L.SourceLog.fault_count c.names-names.new.self.log)
    c.faults-after.result read s.assignment c.in-Ok.is s.log_faults (sym c.faults-after.ensures.count) given in
    marks_fail g.L.SourceLog.told g.L.SourceLog.fault_count g.G.Gate.Stands g.G.Gate.Between g.G.Gate.Owns g.G.Gate.Adds indexer core read c.args.self.now c.args.gate.now c.checkpoints.new.self s c.faults-after.result
    next (c.names-names.ensures.told read s.told) (sym c.faults-after.ensures.count) c.names-names.ensures.assignment later within c.in-Ok.names here next.place c.in-Err.error c.faulted.result
    (λ after. idle_stays read core after next.place place) c.faulted.ensures.trouble (c.in-Err.ensures.step core read stands)

pub begin-requires : goal.begin-requires
begin-requires g c = subst (λ (x : IndexConfig). ∥ IsSchema x.schema ∥₁) (sym c.in_ok-config-in-Ok-checkpoints.ensures) c.config.ensures.schema

pub returns-in-Err-Memory-clause-later_gate : goal.returns-in-Err-Memory-clause-later_gate
returns-in-Err-Memory-clause-later_gate g c = g.met.G.Gate.since_same c.args.gate.now

pub returns-in-Err-Failed-clause-later_gate : goal.returns-in-Err-Failed-clause-later_gate
returns-in-Err-Failed-clause-later_gate g c = g.met.G.Gate.since_same c.args.gate.now

pub returns-in-Err-Memory-clause-owns : goal.returns-in-Err-Memory-clause-owns
returns-in-Err-Memory-clause-owns g c = λ h. subst (HoldsOwn g.G.Gate.Owns c.args.gate.now) (sym c.names-names.ensures.place) h

pub returns-in-Err-Failed-clause-owns : goal.returns-in-Err-Failed-clause-owns
returns-in-Err-Failed-clause-owns g c = λ h. subst (HoldsOwn g.G.Gate.Owns c.args.gate.now) (sym c.names-names.ensures.place) h

pub returns-in_err-config-in-Ok-checkpoints-clause-owns : goal.returns-in_err-config-in-Ok-checkpoints-clause-owns
returns-in_err-config-in-Ok-checkpoints-clause-owns g c = λ h. own_later g.G.Gate.Owns g.G.Gate.since g.met.G.Gate.since_owns c.args.gate.now c.checkpoints.new.self c.names-names.new.self.place c.checkpoints.ensures.later (subst (HoldsOwn g.G.Gate.Owns c.args.gate.now) (sym c.names-names.ensures.place) h)

pub returns-in_err-batch-in-Ok-checkpoints-clause-owns : goal.returns-in_err-batch-in-Ok-checkpoints-clause-owns
returns-in_err-batch-in-Ok-checkpoints-clause-owns g c = λ h. own_later g.G.Gate.Owns g.G.Gate.since g.met.G.Gate.since_owns c.args.gate.now c.checkpoints.new.self c.names-names.new.self.place c.checkpoints.ensures.later (subst (HoldsOwn g.G.Gate.Owns c.args.gate.now) (sym c.names-names.ensures.place) h)

pub returns-clause-owns : goal.returns-clause-owns
returns-clause-owns g c = λ h. own_later g.G.Gate.Owns g.G.Gate.since g.met.G.Gate.since_owns c.args.gate.now c.checkpoints.new.self c.names-names.new.self.place c.checkpoints.ensures.later (subst (HoldsOwn g.G.Gate.Owns c.args.gate.now) (sym c.names-names.ensures.place) h)

pub returns-in-Ok-checkpoints-clause-owns : goal.returns-in-Ok-checkpoints-clause-owns
returns-in-Ok-checkpoints-clause-owns g c = λ h. subst (HoldsOwn g.G.Gate.Owns c.checkpoints.new.self) (sym c.put.ensures) tt

pub returns-in-Err-Memory-clause-later : goal.returns-in-Err-Memory-clause-later
returns-in-Err-Memory-clause-later g c = c.names-names.ensures.later

pub returns-in-Err-Failed-clause-later : goal.returns-in-Err-Failed-clause-later
returns-in-Err-Failed-clause-later g c = c.names-names.ensures.later

pub returns-in_err-config-in-Ok-checkpoints-clause-later : goal.returns-in_err-config-in-Ok-checkpoints-clause-later
returns-in_err-config-in-Ok-checkpoints-clause-later g c = c.names-names.ensures.later

pub returns-in_err-batch-in-Ok-checkpoints-clause-later : goal.returns-in_err-batch-in-Ok-checkpoints-clause-later
returns-in_err-batch-in-Ok-checkpoints-clause-later g c = c.names-names.ensures.later

pub returns-in-Ok-checkpoints-clause-later : goal.returns-in-Ok-checkpoints-clause-later
returns-in-Ok-checkpoints-clause-later g c = c.names-names.ensures.later

pub returns-clause-later : goal.returns-clause-later
returns-clause-later g c = c.names-names.ensures.later

pub returns-in_err-config-in-Ok-checkpoints-clause-later_gate : goal.returns-in_err-config-in-Ok-checkpoints-clause-later_gate
returns-in_err-config-in-Ok-checkpoints-clause-later_gate g c = c.checkpoints.ensures.later

pub returns-in_err-batch-in-Ok-checkpoints-clause-later_gate : goal.returns-in_err-batch-in-Ok-checkpoints-clause-later_gate
returns-in_err-batch-in-Ok-checkpoints-clause-later_gate g c = c.checkpoints.ensures.later

pub returns-in-Ok-checkpoints-clause-later_gate : goal.returns-in-Ok-checkpoints-clause-later_gate
returns-in-Ok-checkpoints-clause-later_gate g c = c.checkpoints.ensures.later

pub returns-clause-later_gate : goal.returns-clause-later_gate
returns-clause-later_gate g c = c.checkpoints.ensures.later

pub returns-in-Err-Memory-clause-ends : goal.returns-in-Err-Memory-clause-ends
returns-in-Err-Memory-clause-ends g c = λ idle. c.names-names.ensures.place ∙ idle

pub returns-in-Err-Failed-clause-ends : goal.returns-in-Err-Failed-clause-ends
returns-in-Err-Failed-clause-ends g c = λ idle.
    let field : c.in-Err-Failed.field-0 ≡ Failed = rw c.in-Err-Failed.is at c.in-Err-Failed.field-0-is in
    let failed = c.names-names.ensures.failed (c.in-Err-Failed.is ∙ ap Err field) in
    inl (
      failed.0,
      failed.1,
      source_fault c.faults-before.result (g.L.SourceLog.fault_count c.args.self.now.log) c.faults-after.result (g.L.SourceLog.fault_count c.names-names.new.self.log) c.faults-before.ensures.count c.faults-after.ensures.count,
      c.names-names.ensures.place ∙ idle,
    )

pub returns-in_err-config-in-Ok-checkpoints-clause-ends : goal.returns-in_err-config-in-Ok-checkpoints-clause-ends
returns-in_err-config-in-Ok-checkpoints-clause-ends g c = λ idle.
    ends_short (EndsIdle (λ (call : Answered). g.G.Gate.Answers c.args.gate.now call c.checkpoints.new.self) (g.L.SourceLog.fault_count c.args.self.now.log) (g.L.SourceLog.fault_count c.names-names.new.self.log) (g.L.SourceLog.told c.args.self.now.log) c.args.self.now.assignment (g.G.Gate.configured c.checkpoints.new.self))
    c.from_residual.result c.names-names.new.self.place c.from_residual.ensures.0 (c.names-names.ensures.place ∙ idle)

pub returns-in_err-batch-in-Ok-checkpoints-clause-ends : goal.returns-in_err-batch-in-Ok-checkpoints-clause-ends
returns-in_err-batch-in-Ok-checkpoints-clause-ends g c = λ idle.
    ends_short (EndsIdle (λ (call : Answered). g.G.Gate.Answers c.args.gate.now call c.checkpoints.new.self) (g.L.SourceLog.fault_count c.args.self.now.log) (g.L.SourceLog.fault_count c.names-names.new.self.log) (g.L.SourceLog.told c.args.self.now.log) c.args.self.now.assignment (g.G.Gate.configured c.checkpoints.new.self))
    c.from_residual-in_err-batch-in-Ok-checkpoints.result c.names-names.new.self.place c.from_residual-in_err-batch-in-Ok-checkpoints.ensures.0 (c.names-names.ensures.place ∙ idle)

pub returns-in-Ok-checkpoints-clause-ends : goal.returns-in-Ok-checkpoints-clause-ends
returns-in-Ok-checkpoints-clause-ends g c = λ idle.
    let assignment = c.args.self.now.assignment in
    let before = g.L.SourceLog.fault_count c.args.self.now.log in
    let now = g.L.SourceLog.fault_count c.names-names.new.self.log in
    inr (
      c.in-Ok.names,
      names_are assignment (g.L.SourceLog.told c.args.self.now.log) c.in-Ok.names before now
          (λ all e. subst (λ (r : Result (List (List ℕ)) ReadError). IfOk r (λ given. given ≡ all)) c.in-Ok.is (c.names-names.ensures.assigned all e))
          (λ log e. subst (λ (r : Result (List (List ℕ)) ReadError). NamesGiven assignment r before now log) c.in-Ok.is (c.names-names.ensures.names log e)),
      (
        Ok c.in-Ok-checkpoints.marks,
        c.in-Ok-checkpoints.ensures.answered,
        (
          refl,
          (
            c.in_ok-batch-in-Ok-checkpoints.batch,
            c.put.ensures,
            subst (λ (x : IndexConfig). BatchStands c.in_ok-batch-in-Ok-checkpoints.batch (fresh_batch x (marks_at c.in-Ok-checkpoints.marks.checkpoints.items c.in-Ok.names)))
                (c.in_ok-config-in-Ok-checkpoints.ensures ∙ c.config.ensures.value) c.in_ok-batch-in-Ok-checkpoints.ensures,
          ),
        ),
      ),
    )

pub returns-clause-ends : goal.returns-clause-ends
returns-clause-ends g c = λ idle.
    let assignment = c.args.self.now.assignment in
    let before = g.L.SourceLog.fault_count c.args.self.now.log in
    let now = g.L.SourceLog.fault_count c.names-names.new.self.log in
    ends_by (EndsIdle (λ (call : Answered). g.G.Gate.Answers c.args.gate.now call c.checkpoints.new.self) before now (g.L.SourceLog.told c.args.self.now.log) assignment (g.G.Gate.configured c.checkpoints.new.self)) c.faulted.result c.names-names.new.self.place (c.names-names.ensures.place ∙ idle) (λ (outcome : Said) e.
    inr (
      c.in-Ok.names,
      names_are assignment (g.L.SourceLog.told c.args.self.now.log) c.in-Ok.names before now
          (λ all e. subst (λ (r : Result (List (List ℕ)) ReadError). IfOk r (λ given. given ≡ all)) c.in-Ok.is (c.names-names.ensures.assigned all e))
          (λ log e. subst (λ (r : Result (List (List ℕ)) ReadError). NamesGiven assignment r before now log) c.in-Ok.is (c.names-names.ensures.names log e)),
      (Err c.in-Err.error, c.in-Err.ensures.answered, (sym c.faulted.ensures.exact ∙ e, c.names-names.ensures.place ∙ idle)),
    ))
