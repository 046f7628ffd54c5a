use Rattle.std.proofs.Common.{◌≡◌, ◌≤◌, ◌∙◌, refl, sym, ap, subst, arith, Err, inl, inr}
use Rattle.std.specs.Prelude.{[]}
use Rattle.byte_fields.specs.Causes.{Rose}
use Rattle.source_log.specs.Log.{IsToldLog}
use Rattle.source_log.specs.declared.log.ReadError.TheVariants.{Failed}
use Rattle.index_world.specs.Core.{last_count}
use Rattle.indexing_run.specs.declared.indexer.IndexerPlace.TheVariants as places
use Rattle.indexing_run.specs.Standing.{HoldsOwn}
use Rattle.indexing_run.proofs.Stepping.{as_put, called_configured, idle_stays, no_answer}
use Rattle.indexing_run.proofs.Reading.{reads_something, next_is, asked_of, log_read, log_stays, slice_is, reads_on, moment_fails, reads_fault, reads_short, reads_some}
use Rattle.indexing_run.proofs.Holding.{own_later}
use Rattle.indexing_run.specs.declared.outcome.IndexerOutcome.{IndexerOutcome as Said}
use Rattle.indexing_run.specs.Ending.{EndsOpen}
use Rattle.indexing_run.specs.Standing.{left_of}
use Rattle.indexing_run.proofs.Ended.{ends_by, ends_short, none_given, source_fault}
use Rattle.index_world.specs.Answering.{Answered}
use Rattle.indexing_run.proofs.indexer.Indexer.read_on.Goals as goal

pub returns-in-Err-clause-step : goal.returns-in-Err-clause-step
returns-in-Err-clause-step g c = λ indexer core read made s stands b m k closed.
    moment_fails g.L.SourceLog.told g.L.SourceLog.fault_count g.G.Gate.Stands g.G.Gate.Between g.G.Gate.Owns g.G.Gate.Adds indexer core read c.args.self.now c.args.gate.now c.moment.new.self s made closed (m.ahead closed) c.in-Err.error
    c.faulted.result c.faulted.ensures.trouble (c.in-Err.ensures.step core read stands)

pub returns-in_err-batch-in-Ok-records-clause-step : goal.returns-in_err-batch-in-Ok-records-clause-step
returns-in_err-batch-in-Ok-records-clause-step g c = λ indexer core read made s stands b m k closed.
    let nx = next_is made c.in-Some.next (m.ahead closed) (c.in-Some.ensures.next made b (m.room closed)) in
    let a = asked_of g.G.Gate.Stands g.G.Gate.Between g.G.Gate.Owns g.G.Gate.Adds c.in-Ok.now core read c.args.gate.now c.moment.new.self (c.in-Ok.ensures.step core read stands) in
    let t = log_read (g.L.SourceLog.told c.args.self.now.log) (g.L.SourceLog.told c.read-records.new.self) read c.in-Some.next.partition c.in-Some.next.from c.in-Some.next.room c.in-Ok-records.records s.told
    c.in-Ok-records.ensures.slice in
    let later : indexer.log_faults ≤ c.faults-after.result = (let l = c.in-Ok-records.ensures.cause.later in let n = c.faults-after.ensures.count in let f = s.log_faults in omega (arith, l, n, f)) in
    let within : c.faults-after.result ≤ last_count = (let i = c.faults-after.type_inv in omega (arith, i)) in
    reads_short g.L.SourceLog.told g.L.SourceLog.fault_count g.G.Gate.Stands g.G.Gate.Between g.G.Gate.Owns g.G.Gate.Adds indexer core read c.args.self.now c.args.gate.now c.moment.new.self s c.faults-after.result
    (record { log = c.read-records.new.self; assignment = c.args.self.now.assignment; place = c.args.self.now.place }) t.is (sym c.faults-after.ensures.count) refl later within
    made nx.mark nx.rest nx.queue closed c.in-Ok.now a c.args.self.now.place c.from_residual.result (idle_stays read core a.behind c.args.self.now.place s.place)
    (no_answer c.from_residual.result c.from_residual.ensures.0)

pub returns-in_ok-batch-in-Ok-records-clause-step : goal.returns-in_ok-batch-in-Ok-records-clause-step
returns-in_ok-batch-in-Ok-records-clause-step g c = λ indexer core read made s stands b m k closed.
    let nx = next_is made c.in-Some.next (m.ahead closed) (c.in-Some.ensures.next made b (m.room closed)) in
    let a = asked_of g.G.Gate.Stands g.G.Gate.Between g.G.Gate.Owns g.G.Gate.Adds c.in-Ok.now core read c.args.gate.now c.moment.new.self (c.in-Ok.ensures.step core read stands) in
    let t = log_read (g.L.SourceLog.told c.args.self.now.log) (g.L.SourceLog.told c.read-records.new.self) read c.in-Some.next.partition c.in-Some.next.from c.in-Some.next.room c.in-Ok-records.records s.told
    c.in-Ok-records.ensures.slice in
    let later : indexer.log_faults ≤ c.faults-after.result = (let l = c.in-Ok-records.ensures.cause.later in let n = c.faults-after.ensures.count in let f = s.log_faults in omega (arith, l, n, f)) in
    let within : c.faults-after.result ≤ last_count = (let i = c.faults-after.type_inv in omega (arith, i)) in
    let taken = c.in_ok-batch-in-Ok-records.ensures.taken made nx.mark nx.rest b (reads_on read core made c.in-Some.next nx c.in-Ok-records.records m k closed c.in-Ok-records.ensures.bound) nx.name nx.from in
    as_put (record { log = c.read-records.new.self; assignment = c.args.self.now.assignment; place = c.args.self.now.place }) (places.Reading c.in_ok-batch-in-Ok-records.batch) c.put.new.place c.put.ensures
    (reads_some g.L.SourceLog.told g.L.SourceLog.fault_count g.G.Gate.Stands g.G.Gate.Between g.G.Gate.Owns g.G.Gate.Adds indexer core read c.args.self.now c.args.gate.now c.moment.new.self s c.faults-after.result
    (record { log = c.read-records.new.self; assignment = c.args.self.now.assignment; place = c.args.self.now.place }) t.is (sym c.faults-after.ensures.count) refl later within
    made nx.mark nx.rest nx.queue closed c.in-Ok.now a g.met.G.Gate.between_goes (subst IsToldLog s.told c.faults-before.ensures.sound) m k c.in-Ok-records.records (slice_is read made c.in-Some.next nx c.in-Ok-records.records t.slice)
    c.in_ok-batch-in-Ok-records.count c.in_ok-batch-in-Ok-records.batch taken.0 taken.1)

pub returns-in-Err-Memory-clause-step : goal.returns-in-Err-Memory-clause-step
returns-in-Err-Memory-clause-step g c = λ indexer core read made s stands b m k closed.
    let nx = next_is made c.in-Some.next (m.ahead closed) (c.in-Some.ensures.next made b (m.room closed)) in
    let a = asked_of g.G.Gate.Stands g.G.Gate.Between g.G.Gate.Owns g.G.Gate.Adds c.in-Ok.now core read c.args.gate.now c.moment.new.self (c.in-Ok.ensures.step core read stands) in
    let told = log_stays (g.L.SourceLog.told c.args.self.now.log) (g.L.SourceLog.told c.read-records.new.self) read c.in-Some.next.partition c.in-Some.next.from c.in-Some.next.room c.read-records.result s.told
    c.read-records.ensures.slice in
    let later : indexer.log_faults ≤ c.faults-after.result = (let l = c.read-records.ensures.cause.later in let n = c.faults-after.ensures.count in let f = s.log_faults in omega (arith, l, n, f)) in
    let within : c.faults-after.result ≤ last_count = (let i = c.faults-after.type_inv in omega (arith, i)) in
    reads_short g.L.SourceLog.told g.L.SourceLog.fault_count g.G.Gate.Stands g.G.Gate.Between g.G.Gate.Owns g.G.Gate.Adds indexer core read c.args.self.now c.args.gate.now c.moment.new.self s c.faults-after.result
    (record { log = c.read-records.new.self; assignment = c.args.self.now.assignment; place = c.args.self.now.place }) told (sym c.faults-after.ensures.count) refl later within
    made nx.mark nx.rest nx.queue closed c.in-Ok.now a c.args.self.now.place (Err c.in-Err-Memory.refused) (idle_stays read core a.behind c.args.self.now.place s.place) tt

pub returns-in-Err-Failed-clause-step : goal.returns-in-Err-Failed-clause-step
returns-in-Err-Failed-clause-step g c = λ indexer core read made s stands b m k closed.
    let nx = next_is made c.in-Some.next (m.ahead closed) (c.in-Some.ensures.next made b (m.room closed)) in
    let a = asked_of g.G.Gate.Stands g.G.Gate.Between g.G.Gate.Owns g.G.Gate.Adds c.in-Ok.now core read c.args.gate.now c.moment.new.self (c.in-Ok.ensures.step core read stands) in
    let told = log_stays (g.L.SourceLog.told c.args.self.now.log) (g.L.SourceLog.told c.read-records.new.self) read c.in-Some.next.partition c.in-Some.next.from c.in-Some.next.room c.read-records.result s.told
    c.read-records.ensures.slice in
    let later : indexer.log_faults ≤ c.faults-after.result = (let l = c.read-records.ensures.cause.later in let n = c.faults-after.ensures.count in let f = s.log_faults in omega (arith, l, n, f)) in
    let within : c.faults-after.result ≤ last_count = (let i = c.faults-after.type_inv in omega (arith, i)) in
    let field : c.in-Err-Failed.field-0 ≡ Failed = rw c.in-Err-Failed.is at c.in-Err-Failed.field-0-is in
    let rose = c.read-records.ensures.cause.failed (c.in-Err-Failed.is ∙ ap Err field) in
    let rose_here : Rose indexer.log_faults c.faults-after.result = (let n = c.faults-after.ensures.count in let f = s.log_faults in omega (arith, rose, n, f)) in
    as_put (record { log = c.read-records.new.self; assignment = c.args.self.now.assignment; place = c.args.self.now.place }) (places.Reading c.args.batch) c.put-in-Err-Failed.new.place c.put-in-Err-Failed.ensures
    (reads_fault g.L.SourceLog.told g.L.SourceLog.fault_count g.G.Gate.Stands g.G.Gate.Between g.G.Gate.Owns g.G.Gate.Adds indexer core read c.args.self.now c.args.gate.now c.moment.new.self s c.faults-after.result
    (record { log = c.read-records.new.self; assignment = c.args.self.now.assignment; place = c.args.self.now.place }) told (sym c.faults-after.ensures.count) refl later within
    made nx.mark nx.rest nx.queue closed c.in-Ok.now a c.faults-before.result (places.Reading c.args.batch) (c.faults-before.ensures.count ∙ s.log_faults) rose_here (made, refl, b, m, called_configured a.called g.met.G.Gate.between_goes made.config k))

pub returns-in_default-clause-step : goal.returns-in_default-clause-step
returns-in_default-clause-step g c = λ indexer core read made s stands b m k closed.
    absurd (reads_something made c.next_read.result (m.ahead closed) (c.next_read.ensures.next made b (m.room closed)) c.in_default.not-Some)

pub returns-in-Err-clause-owns : goal.returns-in-Err-clause-owns
returns-in-Err-clause-owns g c = λ h. own_later g.G.Gate.Owns g.G.Gate.since g.met.G.Gate.since_owns c.args.gate.now c.moment.new.self c.args.self.now.place c.moment.ensures.later h

pub returns-in_err-batch-in-Ok-records-clause-owns : goal.returns-in_err-batch-in-Ok-records-clause-owns
returns-in_err-batch-in-Ok-records-clause-owns g c = λ h. own_later g.G.Gate.Owns g.G.Gate.since g.met.G.Gate.since_owns c.args.gate.now c.moment.new.self c.args.self.now.place c.moment.ensures.later h

pub returns-in-Err-Memory-clause-owns : goal.returns-in-Err-Memory-clause-owns
returns-in-Err-Memory-clause-owns g c = λ h. own_later g.G.Gate.Owns g.G.Gate.since g.met.G.Gate.since_owns c.args.gate.now c.moment.new.self c.args.self.now.place c.moment.ensures.later h

pub returns-in_default-clause-owns : goal.returns-in_default-clause-owns
returns-in_default-clause-owns g c = λ h. own_later g.G.Gate.Owns g.G.Gate.since g.met.G.Gate.since_owns c.args.gate.now c.moment.new.self c.args.self.now.place c.moment.ensures.later h

pub returns-in_ok-batch-in-Ok-records-clause-owns : goal.returns-in_ok-batch-in-Ok-records-clause-owns
returns-in_ok-batch-in-Ok-records-clause-owns g c = λ h. subst (HoldsOwn g.G.Gate.Owns c.moment.new.self) (sym c.put.ensures) tt

pub returns-in-Err-Failed-clause-owns : goal.returns-in-Err-Failed-clause-owns
returns-in-Err-Failed-clause-owns g c = λ h. subst (HoldsOwn g.G.Gate.Owns c.moment.new.self) (sym c.put-in-Err-Failed.ensures) tt

pub returns-in-Err-clause-later : goal.returns-in-Err-clause-later
returns-in-Err-clause-later g c = g.met.L.SourceLog.since_itself c.args.self.now.log

pub returns-in_default-clause-later : goal.returns-in_default-clause-later
returns-in_default-clause-later g c = g.met.L.SourceLog.since_itself c.args.self.now.log

pub returns-in_err-batch-in-Ok-records-clause-later : goal.returns-in_err-batch-in-Ok-records-clause-later
returns-in_err-batch-in-Ok-records-clause-later g c = c.in-Ok-records.ensures.later

pub returns-in_ok-batch-in-Ok-records-clause-later : goal.returns-in_ok-batch-in-Ok-records-clause-later
returns-in_ok-batch-in-Ok-records-clause-later g c = c.in-Ok-records.ensures.later

pub returns-in-Err-Memory-clause-later : goal.returns-in-Err-Memory-clause-later
returns-in-Err-Memory-clause-later g c = c.read-records.ensures.later

pub returns-in-Err-Failed-clause-later : goal.returns-in-Err-Failed-clause-later
returns-in-Err-Failed-clause-later g c = c.read-records.ensures.later

pub returns-in-Err-clause-later_gate : goal.returns-in-Err-clause-later_gate
returns-in-Err-clause-later_gate g c = c.moment.ensures.later

pub returns-in_default-clause-later_gate : goal.returns-in_default-clause-later_gate
returns-in_default-clause-later_gate g c = c.moment.ensures.later

pub returns-in_err-batch-in-Ok-records-clause-later_gate : goal.returns-in_err-batch-in-Ok-records-clause-later_gate
returns-in_err-batch-in-Ok-records-clause-later_gate g c = c.moment.ensures.later

pub returns-in_ok-batch-in-Ok-records-clause-later_gate : goal.returns-in_ok-batch-in-Ok-records-clause-later_gate
returns-in_ok-batch-in-Ok-records-clause-later_gate g c = c.moment.ensures.later

pub returns-in-Err-Memory-clause-later_gate : goal.returns-in-Err-Memory-clause-later_gate
returns-in-Err-Memory-clause-later_gate g c = c.moment.ensures.later

pub returns-in-Err-Failed-clause-later_gate : goal.returns-in-Err-Failed-clause-later_gate
returns-in-Err-Failed-clause-later_gate g c = c.moment.ensures.later

pub returns-in-Err-clause-ends : goal.returns-in-Err-clause-ends
returns-in-Err-clause-ends g c = λ idle.
    let count = g.L.SourceLog.fault_count c.args.self.now.log in
    ends_by (EndsOpen (λ (call : Answered). g.G.Gate.Answers c.args.gate.now call c.moment.new.self) count count c.args.batch) c.faulted.result c.args.self.now.place idle (λ (outcome : Said) e. inl (c.in-Err.error, c.in-Err.ensures.answered, sym c.faulted.ensures.exact ∙ e, idle))

pub returns-in_default-clause-ends : goal.returns-in_default-clause-ends
returns-in_default-clause-ends g c = λ idle.
    inr (c.in-Ok.now, c.in-Ok.ensures.answered, inl (none_given c.next_read.result (left_of c.args.batch.queue ≡ []) c.next_read.ensures.none c.in_default.not-Some, refl, idle))

pub returns-in_err-batch-in-Ok-records-clause-ends : goal.returns-in_err-batch-in-Ok-records-clause-ends
returns-in_err-batch-in-Ok-records-clause-ends g c = λ idle.
    ends_short (EndsOpen (λ (call : Answered). g.G.Gate.Answers c.args.gate.now call c.moment.new.self) (g.L.SourceLog.fault_count c.args.self.now.log) (g.L.SourceLog.fault_count c.read-records.new.self) c.args.batch) c.from_residual.result c.args.self.now.place c.from_residual.ensures.0 idle

pub returns-in_ok-batch-in-Ok-records-clause-ends : goal.returns-in_ok-batch-in-Ok-records-clause-ends
returns-in_ok-batch-in-Ok-records-clause-ends g c = λ idle.
    let taken = c.in_ok-batch-in-Ok-records in
    inr (c.in-Ok.now, c.in-Ok.ensures.answered, inr (inr (taken.count, taken.batch, refl, c.put.ensures, taken.ensures.count, taken.ensures.config)))

pub returns-in-Err-Memory-clause-ends : goal.returns-in-Err-Memory-clause-ends
returns-in-Err-Memory-clause-ends g c = λ idle. idle

pub returns-in-Err-Failed-clause-ends : goal.returns-in-Err-Failed-clause-ends
returns-in-Err-Failed-clause-ends g c = λ idle.
    let field : c.in-Err-Failed.field-0 ≡ Failed = rw c.in-Err-Failed.is at c.in-Err-Failed.field-0-is in
    inr (
      c.in-Ok.now,
      c.in-Ok.ensures.answered,
      inr (inl (
        c.read-records.ensures.cause.failed (c.in-Err-Failed.is ∙ ap Err field),
        source_fault c.faults-before.result (g.L.SourceLog.fault_count c.args.self.now.log) c.faults-after.result (g.L.SourceLog.fault_count c.read-records.new.self) c.faults-before.ensures.count c.faults-after.ensures.count,
        c.put-in-Err-Failed.ensures,
      )),
    )
