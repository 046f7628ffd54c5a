use Rattle.std.proofs.Common.{◌∙◌, None, Ok, Result, refl, sym, ap, subst}
use Rattle.std.specs.declared.alloc.AllocError.{AllocError}
use Rattle.split_collector.specs.Ending.{CallsTo, Told, told}
use Rattle.split_collector.specs.Paging.{GoesBehind, paged_turn}
use Rattle.split_collector.specs.Standing.{CollectsAs}
use Rattle.split_collector.specs.Turns.{Turn, behind_sweep, to_list}
use Rattle.split_collector.specs.declared.tries.Paged.{Paged}
use Rattle.split_collector.proofs.Calling.{lost_turn}
use Rattle.split_collector.proofs.Ranks.{keys_fall}
use Rattle.split_collector.proofs.Running.{none_called, none_collects, then_called, then_collects}
use Rattle.split_collector.proofs.tries.sweep.Goals as goal

pub loop-outcome-init : goal.loop-outcome-init
loop-outcome-init g c = record {
  later = g.met.G.Gate.since_same c.args.gate.now;
  same = refl;
  key = tt;
  ends = none_called g.G.Gate.told g.G.Gate.Answers (to_list None) c.args.gate.now;
  step = λ core log stands. none_collects g.G.Gate.Stands g.G.Gate.Between g.G.Gate.Adds (to_list None) (to_list None) core log c.args.gate.now refl (g.met.G.Gate.adds_none c.args.gate.now) stands;
}

pub loop-outcome-preserved : goal.loop-outcome-preserved
loop-outcome-preserved g c =
    let goes = subst (GoesBehind c.loop-outcome.behind) c.in-Next.is c.in_ok-outcome.ensures.goes_on in
    record {
      later = g.met.G.Gate.since_more c.args.gate.now c.loop-outcome.gate c.sweep_page.new.gate c.loop-outcome.invariant.later c.sweep_page.ensures.later;
      same = c.sweep_page.ensures.same ∙ c.loop-outcome.invariant.same;
      key = goes.1;
      ends = (subst (λ (t : Turn Told). CallsTo g.G.Gate.told g.G.Gate.Answers (to_list None) t c.args.gate.now c.sweep_page.new.gate) (ap (λ (r : Result Paged AllocError). paged_turn r) (c.in_ok-outcome.was ∙ ap (λ (p : Paged). Ok p) c.in-Next.is))
          (then_called g.G.Gate.told g.G.Gate.Answers (to_list None) (to_list c.loop-outcome.behind) (paged_turn c.sweep_page.result) c.args.gate.now c.loop-outcome.gate c.sweep_page.new.gate c.loop-outcome.invariant.ends c.sweep_page.ensures.ends));
      step = λ core log stands. let f = c.loop-outcome.invariant.step core log stands in
          subst (λ (t : Turn Told). CollectsAs g.G.Gate.Stands g.G.Gate.Between g.G.Gate.Adds (to_list None) t core log c.args.gate.now c.sweep_page.new.gate) (ap (λ (r : Result Paged AllocError). paged_turn r) (c.in_ok-outcome.was ∙ ap (λ (p : Paged). Ok p) c.in-Next.is))
          (then_collects g.G.Gate.Stands g.G.Gate.Between g.G.Gate.Adds g.met.G.Gate.adds_more (to_list None) (to_list c.loop-outcome.behind) (to_list c.loop-outcome.behind) (paged_turn c.sweep_page.result) core log c.args.gate.now c.loop-outcome.gate c.sweep_page.new.gate f f.alike (c.sweep_page.ensures.step f.after log f.stands));
    }

pub loop-outcome-smaller : goal.loop-outcome-smaller
loop-outcome-smaller g c =
    let goes = subst (GoesBehind c.loop-outcome.behind) c.in-Next.is c.in_ok-outcome.ensures.goes_on in
    keys_fall c.loop-outcome.behind c.in-Next.key c.loop-outcome.invariant.key goes.1 goes.0

pub returns-in_err-outcome-clause-ends : goal.returns-in_err-outcome-clause-ends
returns-in_err-outcome-clause-ends g c =
    subst (λ (t : Turn Told). CallsTo g.G.Gate.told g.G.Gate.Answers (to_list None) t c.args.gate.now c.sweep_page.new.gate) (ap (λ (r : Result Paged AllocError). paged_turn r) c.in_err-outcome.was ∙ sym (lost_turn c.from_residual.result c.in_err-outcome.field-0.0 (behind_sweep told) c.from_residual.ensures.1))
    (then_called g.G.Gate.told g.G.Gate.Answers (to_list None) (to_list c.loop-outcome.behind) (paged_turn c.sweep_page.result) c.args.gate.now c.loop-outcome.gate c.sweep_page.new.gate c.loop-outcome.invariant.ends c.sweep_page.ensures.ends)

pub returns-in_err-outcome-clause-step : goal.returns-in_err-outcome-clause-step
returns-in_err-outcome-clause-step g c = λ core log stands.
    let f = c.loop-outcome.invariant.step core log stands in
    subst (λ (t : Turn Told). CollectsAs g.G.Gate.Stands g.G.Gate.Between g.G.Gate.Adds (to_list None) t core log c.args.gate.now c.sweep_page.new.gate) (ap (λ (r : Result Paged AllocError). paged_turn r) c.in_err-outcome.was ∙ sym (lost_turn c.from_residual.result c.in_err-outcome.field-0.0 (behind_sweep told) c.from_residual.ensures.1))
    (then_collects g.G.Gate.Stands g.G.Gate.Between g.G.Gate.Adds g.met.G.Gate.adds_more (to_list None) (to_list c.loop-outcome.behind) (to_list c.loop-outcome.behind) (paged_turn c.sweep_page.result) core log c.args.gate.now c.loop-outcome.gate c.sweep_page.new.gate f f.alike (c.sweep_page.ensures.step f.after log f.stands))

pub returns-in-Ended-clause-ends : goal.returns-in-Ended-clause-ends
returns-in-Ended-clause-ends g c =
    subst (λ (t : Turn Told). CallsTo g.G.Gate.told g.G.Gate.Answers (to_list None) t c.args.gate.now c.sweep_page.new.gate) (ap (λ (r : Result Paged AllocError). paged_turn r) (c.in_ok-outcome.was ∙ ap (λ (p : Paged). Ok p) c.in-Ended.is))
    (then_called g.G.Gate.told g.G.Gate.Answers (to_list None) (to_list c.loop-outcome.behind) (paged_turn c.sweep_page.result) c.args.gate.now c.loop-outcome.gate c.sweep_page.new.gate c.loop-outcome.invariant.ends c.sweep_page.ensures.ends)

pub returns-in-Ended-clause-step : goal.returns-in-Ended-clause-step
returns-in-Ended-clause-step g c = λ core log stands.
    let f = c.loop-outcome.invariant.step core log stands in
    subst (λ (t : Turn Told). CollectsAs g.G.Gate.Stands g.G.Gate.Between g.G.Gate.Adds (to_list None) t core log c.args.gate.now c.sweep_page.new.gate) (ap (λ (r : Result Paged AllocError). paged_turn r) (c.in_ok-outcome.was ∙ ap (λ (p : Paged). Ok p) c.in-Ended.is))
    (then_collects g.G.Gate.Stands g.G.Gate.Between g.G.Gate.Adds g.met.G.Gate.adds_more (to_list None) (to_list c.loop-outcome.behind) (to_list c.loop-outcome.behind) (paged_turn c.sweep_page.result) core log c.args.gate.now c.loop-outcome.gate c.sweep_page.new.gate f f.alike (c.sweep_page.ensures.step f.after log f.stands))

pub returns-in-Last-clause-ends : goal.returns-in-Last-clause-ends
returns-in-Last-clause-ends g c =
    subst (λ (t : Turn Told). CallsTo g.G.Gate.told g.G.Gate.Answers (to_list None) t c.args.gate.now c.sweep_page.new.gate) (ap (λ (r : Result Paged AllocError). paged_turn r) (c.in_ok-outcome.was ∙ ap (λ (p : Paged). Ok p) c.in-Last.is))
    (then_called g.G.Gate.told g.G.Gate.Answers (to_list None) (to_list c.loop-outcome.behind) (paged_turn c.sweep_page.result) c.args.gate.now c.loop-outcome.gate c.sweep_page.new.gate c.loop-outcome.invariant.ends c.sweep_page.ensures.ends)

pub returns-in-Last-clause-step : goal.returns-in-Last-clause-step
returns-in-Last-clause-step g c = λ core log stands.
    let f = c.loop-outcome.invariant.step core log stands in
    subst (λ (t : Turn Told). CollectsAs g.G.Gate.Stands g.G.Gate.Between g.G.Gate.Adds (to_list None) t core log c.args.gate.now c.sweep_page.new.gate) (ap (λ (r : Result Paged AllocError). paged_turn r) (c.in_ok-outcome.was ∙ ap (λ (p : Paged). Ok p) c.in-Last.is))
    (then_collects g.G.Gate.Stands g.G.Gate.Between g.G.Gate.Adds g.met.G.Gate.adds_more (to_list None) (to_list c.loop-outcome.behind) (to_list c.loop-outcome.behind) (paged_turn c.sweep_page.result) core log c.args.gate.now c.loop-outcome.gate c.sweep_page.new.gate f f.alike (c.sweep_page.ensures.step f.after log f.stands))
