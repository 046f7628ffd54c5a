use Rattle.std.proofs.Common.{◌∙◌, ◌≡◌, ℕ, arith, refl, subst, sym}
use Rattle.index_world.proofs.Ran.{SoFar, ended_here, going_ends, going_more, going_none, none_of, none_so_far, one_more, used_up_here}
use Rattle.indexing_run.specs.IndexAll.{Holds, IndexerStep, IndexesOnce, core_there, end_of, indexer_at, reader_at}
use Rattle.indexing_run.specs.declared.indexing.IndexerEnd.TheVariants.{Turns}
use Rattle.indexing_run.proofs.Indexes.{one_step, ran_did}
use Rattle.indexing_run.proofs.indexing.index_all.Goals as goal

pub loop-init : goal.loop-init
loop-init g c =
    let t = g.G.Gate in
    let l = g.L.SourceLog in (
      g.met.L.SourceLog.since_itself c.args.indexer.now.log,
      g.met.G.Gate.since_same c.args.gate.now,
      c.requires.owns,
      going_none (IndexesOnce l.told l.fault_count t.told t.configured t.Answers) end_of (reader_at c.args.indexer.now c.args.gate.now),
      λ actor core read held s.
          none_so_far t.Stands t.Adds (IndexerStep t.Between read) core_there end_of g.met.G.Gate.adds_none (Holds l.told l.fault_count read c.args.indexer.now) (indexer_at actor core) read c.args.gate.now held s,
    )

pub returns-in-Some-clause-ends : goal.returns-in-Some-clause-ends
returns-in-Some-clause-ends g c =
    let t = g.G.Gate in
    let l = g.L.SourceLog in
    going_ends (IndexesOnce l.told l.fault_count t.told t.configured t.Answers) end_of c.loop.counter (reader_at c.args.indexer.now c.args.gate.now) (reader_at c.loop.indexer c.loop.gate)
    (reader_at c.step.new.self c.step.new.gate) c.loop.invariant.3 c.step.result c.step.ensures.ends Turns c.args.turns c.in-Some.end (sym c.end_of.ensures ∙ c.in-Some.is) c.loop-test.true

pub returns-in-Some-clause-ran : goal.returns-in-Some-clause-ran
returns-in-Some-clause-ran g c actor core read held s =
    let t = g.G.Gate in
    let l = g.L.SourceLog in
    let so_far = c.loop.invariant.4 actor core read held s in
    let one = one_step l.told l.fault_count t.Stands t.Between t.Owns t.Adds g.met.G.Gate.between_goes c.step.result so_far.last read c.step.new.self c.loop.gate c.step.new.gate
    (c.step.ensures.step so_far.last.indexer so_far.last.core read so_far.left so_far.stands) in
    ran_did t.Between read g.met.G.Gate.between_goes l.told l.fault_count t.Stands t.Adds c.args.turns c.in-Some.end c.step.new.self actor core c.args.gate.now c.step.new.gate
    (ended_here t.Stands t.Adds (IndexerStep t.Between read) core_there end_of g.met.G.Gate.adds_more (Holds l.told l.fault_count read c.loop.indexer) (Holds l.told l.fault_count read c.step.new.self) c.loop.counter
    (indexer_at actor core) read c.args.gate.now c.loop.gate c.step.new.gate so_far c.step.result one Turns c.args.turns c.in-Some.end (sym c.end_of.ensures ∙ c.in-Some.is) c.loop-test.true)

pub loop-preserved : goal.loop-preserved
loop-preserved g c =
    let t = g.G.Gate in
    let l = g.L.SourceLog in
    let goes = sym c.end_of.ensures ∙ none_of c.end_of.result c.in_default.not-Some in (
      g.met.L.SourceLog.since_then c.args.indexer.now.log c.loop.indexer.log c.step.new.self.log c.loop.invariant.0 c.step.ensures.later,
      g.met.G.Gate.since_more c.args.gate.now c.loop.gate c.step.new.gate c.loop.invariant.1 c.step.ensures.later_gate,
      c.step.ensures.owns,
      going_more (IndexesOnce l.told l.fault_count t.told t.configured t.Answers) end_of c.loop.counter (reader_at c.args.indexer.now c.args.gate.now) (reader_at c.loop.indexer c.loop.gate)
          (reader_at c.step.new.self c.step.new.gate) c.loop.invariant.3 c.step.result c.step.ensures.ends goes,
      λ actor core read held s.
          let so_far = c.loop.invariant.4 actor core read held s in
          let one = one_step l.told l.fault_count t.Stands t.Between t.Owns t.Adds g.met.G.Gate.between_goes c.step.result so_far.last read c.step.new.self c.loop.gate c.step.new.gate
          (c.step.ensures.step so_far.last.indexer so_far.last.core read so_far.left so_far.stands) in
          one_more t.Stands t.Adds (IndexerStep t.Between read) core_there end_of g.met.G.Gate.adds_more (Holds l.told l.fault_count read c.loop.indexer) (Holds l.told l.fault_count read c.step.new.self) c.loop.counter
          (indexer_at actor core) read c.args.gate.now c.loop.gate c.step.new.gate so_far c.step.result one goes,
    )

pub step-requires-clause-begun : goal.step-requires-clause-begun
step-requires-clause-begun g c read begins =
    let r = c.requires.begun read (g.met.G.Gate.since_begins c.args.gate.now c.loop.gate read c.loop.invariant.1 begins) in
    let so_far = c.loop.invariant.4 r.0 r.1 read r.2 r.3 in
    (so_far.last.indexer, so_far.last.core, so_far.left, so_far.stands)

pub returns-clause-ran : goal.returns-clause-ran
returns-clause-ran g c actor core read held s =
    let t = g.G.Gate in
    let l = g.L.SourceLog in
    let all : c.loop.counter ≡ c.args.turns = omega arith in
    let P : ℕ → Type 0 = λ count. SoFar t.Stands t.Adds (IndexerStep t.Between read) core_there end_of (Holds l.told l.fault_count read c.loop.indexer) count (indexer_at actor core) read c.args.gate.now c.loop.gate in
    ran_did t.Between read g.met.G.Gate.between_goes l.told l.fault_count t.Stands t.Adds c.args.turns Turns c.loop.indexer actor core c.args.gate.now c.loop.gate
    (used_up_here t.Stands t.Adds (IndexerStep t.Between read) core_there end_of (Holds l.told l.fault_count read c.loop.indexer) Turns c.args.turns (indexer_at actor core) read c.args.gate.now c.loop.gate
    (subst P all (c.loop.invariant.4 actor core read held s)))
