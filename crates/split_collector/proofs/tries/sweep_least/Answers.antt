use Rattle.std.proofs.Common.{◌≡◌, ◌∙◌, ℕ, Option, sym, subst}
use Rattle.std.specs.Prelude.{IfSome, true}
use Rattle.index_world.specs.Collecting.{is_swept}
use Rattle.split_collector.specs.Ending.{CallsTo, told, turn_of}
use Rattle.split_collector.specs.Standing.{CollectsAs}
use Rattle.split_collector.specs.Steps.{outcomes}
use Rattle.split_collector.specs.Turns.{page_turn, paging}
use Rattle.split_collector.proofs.Calling.{paging_alike}
use Rattle.split_collector.proofs.Running.{none_called, none_collects}
use Rattle.split_collector.proofs.tries.sweep_least.Goals as goal

pub returns-in-Some-clause-ends : goal.returns-in-Some-clause-ends
returns-in-Some-clause-ends g c = λ next.
    subst (λ (o : Option ℕ). CallsTo g.G.Gate.told g.G.Gate.Answers (page_turn told o next) (turn_of c.sweep_number.result (paging told next)) c.args.gate.now c.sweep_number.new.gate) (sym c.in-Some.is ∙ c.least.ensures) (c.sweep_number.ensures.ends next)

pub returns-in-Some-clause-step : goal.returns-in-Some-clause-step
returns-in-Some-clause-step g c = λ core log next stands swept.
    subst (λ (o : Option ℕ). CollectsAs g.G.Gate.Stands g.G.Gate.Between g.G.Gate.Adds (page_turn outcomes o next) (turn_of c.sweep_number.result (paging told next)) core log c.args.gate.now c.sweep_number.new.gate) (sym c.in-Some.is ∙ c.least.ensures)
    (c.sweep_number.ensures.step core log next stands (subst (λ (o : Option ℕ). IfSome o (λ n. is_swept core n ≡ true)) (sym c.least.ensures ∙ c.in-Some.is) swept))

pub returns-in-None-clause-ends : goal.returns-in-None-clause-ends
returns-in-None-clause-ends g c = λ next.
    subst (λ (o : Option ℕ). CallsTo g.G.Gate.told g.G.Gate.Answers (page_turn told o next) (paging told next) c.args.gate.now c.args.gate.now) (sym c.in-None.is ∙ c.least.ensures) (none_called g.G.Gate.told g.G.Gate.Answers (paging told next) c.args.gate.now)

pub returns-in-None-clause-step : goal.returns-in-None-clause-step
returns-in-None-clause-step g c = λ core log next stands swept.
    subst (λ (o : Option ℕ). CollectsAs g.G.Gate.Stands g.G.Gate.Between g.G.Gate.Adds (page_turn outcomes o next) (paging told next) core log c.args.gate.now c.args.gate.now) (sym c.in-None.is ∙ c.least.ensures)
    (none_collects g.G.Gate.Stands g.G.Gate.Between g.G.Gate.Adds (paging outcomes next) (paging told next) core log c.args.gate.now (paging_alike next) (g.met.G.Gate.adds_none c.args.gate.now) stands)
