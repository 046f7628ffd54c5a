use Rattle.std.proofs.Common.{◌∙◌, sym, refl, Ok, Err}
use Rattle.upkeep_run.proofs.Planned.{as_asked, plan_fails, plans_none, plans_some}
use Rattle.upkeep_run.proofs.work.plan.Goals as goal

pub returns-then-count-eq0-clause-step : goal.returns-then-count-eq0-clause-step
returns-then-count-eq0-clause-step g c = λ core log stands.
    let d = as_asked g.G.Gate.Stands g.G.Gate.Between g.G.Gate.Owns g.G.Gate.Adds c.args.aim core log c.args.gate.now c.plan-planned.new.self c.choice_of-choice.result (Ok c.in-Ok.plan) c.choice_of-choice.ensures (c.in-Ok.ensures.step core log stands) in
    plans_none g.G.Gate.Stands g.G.Gate.Between g.G.Gate.Owns g.G.Gate.Adds c.args.aim core log c.args.gate.now c.plan-planned.new.self c.args.place.now c.in-Ok.plan c.requires (sym c.len-count.ensures ∙ c.if-count-eq0.true) d

pub returns-else-count-eq0-clause-step : goal.returns-else-count-eq0-clause-step
returns-else-count-eq0-clause-step g c = λ core log stands.
    let d = as_asked g.G.Gate.Stands g.G.Gate.Between g.G.Gate.Owns g.G.Gate.Adds c.args.aim core log c.args.gate.now c.plan-planned.new.self c.choice_of-choice.result (Ok c.in-Ok.plan) c.choice_of-choice.ensures (c.in-Ok.ensures.step core log stands) in
    plans_some g.G.Gate.Stands g.G.Gate.Between g.G.Gate.Owns g.G.Gate.Adds c.args.aim core log c.args.gate.now c.plan-planned.new.self c.put.new.place c.in-Ok.plan c.len-count.result _ c.put.ensures refl refl c.vacant-files.ensures (sym c.len-count.ensures)
    c.if-count-eq0.false (λ after there. g.met.G.Gate.is_sound c.plan-planned.new.self after log there) d

pub returns-in-Err-clause-step : goal.returns-in-Err-clause-step
returns-in-Err-clause-step g c = λ core log stands.
    let d = as_asked g.G.Gate.Stands g.G.Gate.Between g.G.Gate.Owns g.G.Gate.Adds c.args.aim core log c.args.gate.now c.plan-planned.new.self c.choice_of-choice.result (Err c.in-Err.error) c.choice_of-choice.ensures (c.in-Err.ensures.step core log stands) in
    plan_fails g.G.Gate.Stands g.G.Gate.Between g.G.Gate.Owns g.G.Gate.Adds c.args.aim core log c.args.gate.now c.plan-planned.new.self c.args.place.now c.in-Err.error c.faulted.result c.requires c.faulted.ensures.trouble d
