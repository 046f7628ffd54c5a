use Rattle.std.proofs.Common.{◌∙◌, refl, sym}
use Rattle.std.specs.Prelude.{⊤}
use Rattle.index_world.proofs.Ran.{ended_here, going_ends, going_more, going_none, none_of, none_so_far, one_more}
use Rattle.split_collector.specs.Ending.{CallsTo}
use Rattle.split_collector.specs.Turns.{ended, to_mark}
use Rattle.split_collector.specs.CollectAll.{CollectorStep, end_of}
use Rattle.split_collector.specs.declared.collecting.CollectorEnd.TheVariants.{Turns}
use Rattle.split_collector.proofs.Collects.{one_step, ran_did}
use Rattle.split_collector.proofs.collecting.collect_all.Goals as goal

pub loop-init : goal.loop-init
loop-init g c =
    let t = g.G.Gate in (
      g.met.G.Gate.since_same c.args.gate.now,
      refl,
      going_none (λ old told new. CallsTo t.told t.Answers to_mark (ended told) old new) end_of c.args.gate.now,
      λ core log s. none_so_far t.Stands t.Adds (CollectorStep t.Between) (λ at. at) end_of g.met.G.Gate.adds_none (λ at. ⊤) core log c.args.gate.now tt s,
    )

pub returns-in-Some-clause-ends : goal.returns-in-Some-clause-ends
returns-in-Some-clause-ends g c =
    let t = g.G.Gate in
    going_ends (λ old told new. CallsTo t.told t.Answers to_mark (ended told) old new) end_of c.loop.counter c.args.gate.now c.loop.gate c.step.new.gate c.loop.invariant.2 c.step.result c.step.ensures.ends Turns
    c.args.turns c.in-Some.end (sym c.end_of.ensures ∙ c.in-Some.is) c.loop-test.true

pub returns-in-Some-clause-ran : goal.returns-in-Some-clause-ran
returns-in-Some-clause-ran g c core log s =
    let t = g.G.Gate in
    let so_far = c.loop.invariant.3 core log s in
    let one = one_step t.Stands t.Between t.Adds c.step.result so_far.last log c.loop.gate c.step.new.gate (c.step.ensures.step so_far.last log so_far.stands) in
    ran_did t.Between g.met.G.Gate.between_goes t.Stands t.Adds c.args.turns c.in-Some.end core log c.args.gate.now c.step.new.gate
    (ended_here t.Stands t.Adds (CollectorStep t.Between) (λ at. at) end_of g.met.G.Gate.adds_more (λ at. ⊤) (λ at. ⊤) c.loop.counter core log c.args.gate.now c.loop.gate c.step.new.gate so_far c.step.result one Turns
    c.args.turns c.in-Some.end (sym c.end_of.ensures ∙ c.in-Some.is) c.loop-test.true)

pub loop-preserved : goal.loop-preserved
loop-preserved g c =
    let t = g.G.Gate in
    let goes = sym c.end_of.ensures ∙ none_of c.end_of.result c.in_default.not-Some in (
      g.met.G.Gate.since_more c.args.gate.now c.loop.gate c.step.new.gate c.loop.invariant.0 c.step.ensures.later,
      c.step.ensures.same ∙ c.loop.invariant.1,
      going_more (λ old told new. CallsTo t.told t.Answers to_mark (ended told) old new) end_of c.loop.counter c.args.gate.now c.loop.gate c.step.new.gate c.loop.invariant.2 c.step.result c.step.ensures.ends goes,
      λ core log s.
          let so_far = c.loop.invariant.3 core log s in
          let one = one_step t.Stands t.Between t.Adds c.step.result so_far.last log c.loop.gate c.step.new.gate (c.step.ensures.step so_far.last log so_far.stands) in
          one_more t.Stands t.Adds (CollectorStep t.Between) (λ at. at) end_of g.met.G.Gate.adds_more (λ at. ⊤) (λ at. ⊤) c.loop.counter core log c.args.gate.now c.loop.gate c.step.new.gate so_far c.step.result one goes,
    )
