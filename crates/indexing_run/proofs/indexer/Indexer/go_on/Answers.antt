use Rattle.std.proofs.Common.{◌∙◌, sym, eq-eqb, refl, inl, Ok}
use Rattle.indexing_run.proofs.Stepping.{ends_empty, not_true, not_false}
use Rattle.indexing_run.specs.declared.outcome.IndexerOutcome.TheVariants as said
use Rattle.indexing_run.proofs.Ended.{ends_closed, ends_open}
use Rattle.index_world.specs.Answering.{Answered}
use Rattle.indexing_run.proofs.indexer.Indexer.go_on.Goals as goal

pub returns-then-not-batch-clause-step : goal.returns-then-not-batch-clause-step
returns-then-not-batch-clause-step g c = λ indexer core read made s stands b m k.
    c.read_on.ensures.step indexer core read made s stands b m k (sym b.closed ∙ not_true c.args.batch.closed c.if-not-batch.true)

pub returns-then-batch-eq0-clause-step : goal.returns-then-batch-eq0-clause-step
returns-then-batch-eq0-clause-step g c = λ indexer core read made s stands b m k.
    ends_empty g.L.SourceLog.told g.L.SourceLog.fault_count g.G.Gate.Stands g.G.Gate.Between g.G.Gate.Owns g.G.Gate.Adds indexer core read c.args.self.now c.args.gate.now c.args.gate.now s made (sym b.closed ∙ not_false c.args.batch.closed c.if-not-batch.false)
    (eq-eqb made.count 0 (sym b.count ∙ c.if-batch-eq0.true)) stands (g.met.G.Gate.none_between core) (g.met.G.Gate.adds_none c.args.gate.now)

pub returns-clause-step : goal.returns-clause-step
returns-clause-step g c = λ indexer core read made s stands b m k.
    c.stage.ensures.step indexer core read made s stands b m k (sym b.closed ∙ not_false c.args.batch.closed c.if-not-batch.false) (λ e. c.if-batch-eq0.false (b.count ∙ e))

pub returns-then-batch-eq0-clause-later_gate : goal.returns-then-batch-eq0-clause-later_gate
returns-then-batch-eq0-clause-later_gate g c = g.met.G.Gate.since_same c.args.gate.now

pub returns-then-not-batch-clause-later : goal.returns-then-not-batch-clause-later
returns-then-not-batch-clause-later g c = c.read_on.ensures.later

pub returns-then-not-batch-clause-later_gate : goal.returns-then-not-batch-clause-later_gate
returns-then-not-batch-clause-later_gate g c = c.read_on.ensures.later_gate

pub returns-then-not-batch-clause-owns : goal.returns-then-not-batch-clause-owns
returns-then-not-batch-clause-owns g c = c.read_on.ensures.owns

pub returns-then-batch-eq0-clause-later : goal.returns-then-batch-eq0-clause-later
returns-then-batch-eq0-clause-later g c = g.met.L.SourceLog.since_itself c.args.self.now.log

pub returns-then-batch-eq0-clause-owns : goal.returns-then-batch-eq0-clause-owns
returns-then-batch-eq0-clause-owns g c = λ h. h

pub returns-clause-later : goal.returns-clause-later
returns-clause-later g c = c.stage.ensures.later

pub returns-clause-later_gate : goal.returns-clause-later_gate
returns-clause-later_gate g c = c.stage.ensures.later_gate

pub returns-clause-owns : goal.returns-clause-owns
returns-clause-owns g c = c.stage.ensures.owns

pub returns-then-not-batch-clause-ends : goal.returns-then-not-batch-clause-ends
returns-then-not-batch-clause-ends g c = λ idle.
    ends_open (λ (call : Answered). g.G.Gate.Answers c.args.gate.now call c.read_on.new.gate) (g.L.SourceLog.fault_count c.args.self.now.log) (g.L.SourceLog.fault_count c.read_on.new.self.log) c.args.batch c.read_on.result c.read_on.new.self.place (not_true c.args.batch.closed c.if-not-batch.true)
    (c.read_on.ensures.ends idle)

pub returns-then-batch-eq0-clause-ends : goal.returns-then-batch-eq0-clause-ends
returns-then-batch-eq0-clause-ends g c = λ idle.
    let count = g.L.SourceLog.fault_count c.args.self.now.log in
    ends_closed (λ (call : Answered). g.G.Gate.Answers c.args.gate.now call c.args.gate.now) count count c.args.batch (Ok said.CaughtUp) c.args.self.now.place (not_false c.args.batch.closed c.if-not-batch.false) (inl (c.if-batch-eq0.true, refl, idle))

pub returns-clause-ends : goal.returns-clause-ends
returns-clause-ends g c = λ idle.
    ends_closed (λ (call : Answered). g.G.Gate.Answers c.args.gate.now call c.stage.new.gate) (g.L.SourceLog.fault_count c.args.self.now.log) (g.L.SourceLog.fault_count c.stage.new.self.log) c.args.batch c.stage.result c.stage.new.self.place (not_false c.args.batch.closed c.if-not-batch.false)
    (c.stage.ensures.ends idle (λ e. c.if-batch-eq0.false e))
