use Rattle.std.proofs.Common.{◌∙◌, ◌≡◌, ℕ, arith, refl, subst, sym}
use Rattle.index_world.proofs.Ran.{SoFar, ended_here, going_ends, going_more, going_none, none_of, none_so_far, one_more, used_up_here}
use Rattle.upkeep_run.specs.declared.work.Aim.TheVariants.{Deleting}
use Rattle.upkeep_run.specs.WorkAll.{Holds, DeletesOnce, WorkerStep, core_there, end_of, held_at, worker_at}
use Rattle.upkeep_run.specs.declared.working.WorkerEnd.TheVariants.{Turns}
use Rattle.upkeep_run.proofs.Works.{one_step, ran_did}
use Rattle.upkeep_run.proofs.working.delete_all.Goals as goal

pub loop-init : goal.loop-init
loop-init g c =
    let t = g.G.Gate in (
      g.met.G.Gate.since_same c.args.gate.now,
      c.requires.owns,
      going_none (DeletesOnce t.told t.configured t.Answers) end_of (held_at c.args.worker.now.place c.args.gate.now),
      λ place core log is held s.
          none_so_far t.Stands t.Adds (WorkerStep t.Between Deleting log) core_there end_of g.met.G.Gate.adds_none (Holds Deleting log c.args.worker.now.place) (worker_at place core) log c.args.gate.now held s,
    )

pub step-requires-clause-begun : goal.step-requires-clause-begun
step-requires-clause-begun g c log begins =
    let r = c.requires.begun log (g.met.G.Gate.since_begins c.args.gate.now c.loop.gate log c.loop.invariant.0 begins) in
    let so_far = c.loop.invariant.3 r.1.0 r.1.1 log r.0 r.1.2 r.1.3 in
    (so_far.last.place, so_far.last.core, so_far.left, so_far.stands)

pub returns-in-Some-clause-ends : goal.returns-in-Some-clause-ends
returns-in-Some-clause-ends g c =
    let t = g.G.Gate in
    going_ends (DeletesOnce t.told t.configured t.Answers) end_of c.loop.counter (held_at c.args.worker.now.place c.args.gate.now) (held_at c.loop.worker.place c.loop.gate)
    (held_at c.step.new.self.place c.step.new.gate) c.loop.invariant.2 c.step.result (c.step.ensures.ends, c.step.ensures.corrupt) Turns c.args.turns c.in-Some.end (sym c.end_of.ensures ∙ c.in-Some.is) c.loop-test.true

pub returns-in-Some-clause-ran : goal.returns-in-Some-clause-ran
returns-in-Some-clause-ran g c place core log is held s =
    let t = g.G.Gate in
    let so_far = c.loop.invariant.3 place core log is held s in
    let one = one_step t.Stands t.Between t.Owns t.Adds g.met.G.Gate.between_goes Deleting c.step.result so_far.last log c.step.new.self.place c.loop.gate c.step.new.gate
    (c.step.ensures.step so_far.last.place so_far.last.core log is so_far.left so_far.stands) in
    ran_did t.Between Deleting log g.met.G.Gate.between_goes t.Stands t.Adds c.args.turns c.in-Some.end c.step.new.self.place place core c.args.gate.now c.step.new.gate
    (ended_here t.Stands t.Adds (WorkerStep t.Between Deleting log) core_there end_of g.met.G.Gate.adds_more (Holds Deleting log c.loop.worker.place) (Holds Deleting log c.step.new.self.place) c.loop.counter
    (worker_at place core) log c.args.gate.now c.loop.gate c.step.new.gate so_far c.step.result one Turns c.args.turns c.in-Some.end (sym c.end_of.ensures ∙ c.in-Some.is) c.loop-test.true)

pub loop-preserved : goal.loop-preserved
loop-preserved g c =
    let t = g.G.Gate in
    let goes = sym c.end_of.ensures ∙ none_of c.end_of.result c.in_default.not-Some in (
      g.met.G.Gate.since_more c.args.gate.now c.loop.gate c.step.new.gate c.loop.invariant.0 c.step.ensures.later,
      c.step.ensures.owns,
      going_more (DeletesOnce t.told t.configured t.Answers) end_of c.loop.counter (held_at c.args.worker.now.place c.args.gate.now) (held_at c.loop.worker.place c.loop.gate)
          (held_at c.step.new.self.place c.step.new.gate) c.loop.invariant.2 c.step.result (c.step.ensures.ends, c.step.ensures.corrupt) goes,
      λ place core log is held s.
          let so_far = c.loop.invariant.3 place core log is held s in
          let one = one_step t.Stands t.Between t.Owns t.Adds g.met.G.Gate.between_goes Deleting c.step.result so_far.last log c.step.new.self.place c.loop.gate c.step.new.gate
          (c.step.ensures.step so_far.last.place so_far.last.core log is so_far.left so_far.stands) in
          one_more t.Stands t.Adds (WorkerStep t.Between Deleting log) core_there end_of g.met.G.Gate.adds_more (Holds Deleting log c.loop.worker.place) (Holds Deleting log c.step.new.self.place) c.loop.counter
          (worker_at place core) log c.args.gate.now c.loop.gate c.step.new.gate so_far c.step.result one goes,
    )

pub returns-clause-ran : goal.returns-clause-ran
returns-clause-ran g c place core log is held s =
    let t = g.G.Gate in
    let all : c.loop.counter ≡ c.args.turns = omega arith in
    let P : ℕ → Type 0 = λ count. SoFar t.Stands t.Adds (WorkerStep t.Between Deleting log) core_there end_of (Holds Deleting log c.loop.worker.place) count (worker_at place core) log c.args.gate.now c.loop.gate in
    ran_did t.Between Deleting log g.met.G.Gate.between_goes t.Stands t.Adds c.args.turns Turns c.loop.worker.place place core c.args.gate.now c.loop.gate
    (used_up_here t.Stands t.Adds (WorkerStep t.Between Deleting log) core_there end_of (Holds Deleting log c.loop.worker.place) Turns c.args.turns (worker_at place core) log c.args.gate.now c.loop.gate
    (subst P all (c.loop.invariant.3 place core log is held s)))
