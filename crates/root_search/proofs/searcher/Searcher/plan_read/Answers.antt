use Rattle.std.proofs.Common.{ℕ, refl, ap, sym, subst, Ok, Err}
use Rattle.index_world.specs.Calls.{Trouble}
use Rattle.index_world.specs.Taking.{IsWant}
use Rattle.index_world.specs.Gate.{IsPlan}
use Rattle.root_search.specs.Searching.{Ends}
use Rattle.root_search.specs.Steps.{trouble_replied, with_plan}
use Rattle.root_search.specs.declared.outcome.SearchStep.TheVariants.{Planned}
use Rattle.root_search.specs.declared.searcher.Searcher.{Searcher}
use Rattle.root_search.proofs.Leaving.{works_planned}
use Rattle.root_search.proofs.PlannedRows.{plan_ends}
use Rattle.root_search.proofs.Planning.{begins, plans_as}
use Rattle.root_search.proofs.Stands.{config_before, configured_after, work_goes_on}
use Rattle.root_search.proofs.Fetches.{by_does}
use Rattle.root_search.proofs.Recorded.{want_is}
use Rattle.root_search.proofs.Steps.{says_ok, says_err, planned_as}
use Rattle.root_search.proofs.searcher.Searcher.plan_read.Goals as goal

pub returns-in-Ok-clause-step : goal.returns-in-Ok-clause-step
returns-in-Ok-clause-step g c text search config client core log configured word read asked stands w =
    let d = c.in-Ok.ensures.step core log stands in
    let others = (g.met.G.Gate.between_goes core d.mid d.passed).grown in
    let on = by_does g.G.Gate.Between g.met.G.Gate.between_goes core d.mid d.acts.after d.passed d.acts.goes_on in
    let s = says_ok (IsPlan c.args.read.choice) c.in-Ok.plan d.acts.answer d.acts.after d.acts.says in
    let sound = g.met.G.Gate.is_sound c.plan.new.self d.acts.after log d.acts.stands in
    planned_as g.G.Gate.Stands g.G.Gate.Between g.G.Gate.Adds c.args.gate.now _ _ _ client core log text config d.mid d.acts.fate d.acts.answer (Ok tt) (Ok search) d.acts.after d.passed d.acts.did on d.acts.stands asked
    (config_before core d.mid d.acts.after log config (g.met.G.Gate.is_sound c.args.gate.now core log stands) sound configured others.0 others.1 d.acts.goes_on.grown.0 d.acts.goes_on.grown.1) word s.0
    (subst (λ (s : Searcher). Ends (Ok (Planned c.in-Ok.plan.revision c.len-count.result)) s (with_plan search client d.acts.after) log) (sym c.hold.ensures)
    (plan_ends c.args.self.now client search c.args.read _ c.len-count.result config d.acts.after log sound (configured_after core d.acts.after config configured on.always) s.1 read refl refl c.vacant.ensures c.len-count.ensures (work_goes_on c.args.self.now client core d.acts.after on.always w)))
    c.args.read.choice ⊥ d.made (λ short. absurd short) d.own d.once

pub returns-in-Err-clause-step : goal.returns-in-Err-clause-step
returns-in-Err-clause-step g c text search config client core log configured word read asked stands w =
    let d = c.in-Err.ensures.step core log stands in
    let others = (g.met.G.Gate.between_goes core d.mid d.passed).grown in
    let on = by_does g.G.Gate.Between g.met.G.Gate.between_goes core d.mid d.acts.after d.passed d.acts.goes_on in
    let s = says_err (IsPlan c.args.read.choice) c.in-Err.error d.acts.answer d.acts.after d.acts.says in
    planned_as g.G.Gate.Stands g.G.Gate.Between g.G.Gate.Adds c.args.gate.now _ _ _ client core log text config d.mid d.acts.fate d.acts.answer (Err s.0) (Ok search) d.acts.after d.passed d.acts.did on d.acts.stands asked
    (config_before core d.mid d.acts.after log config (g.met.G.Gate.is_sound c.args.gate.now core log stands) (g.met.G.Gate.is_sound c.plan.new.self d.acts.after log d.acts.stands) configured others.0 others.1 d.acts.goes_on.grown.0 d.acts.goes_on.grown.1) word s.1
    (subst (λ r. Ends c.refuse.result c.refuse.new.self (trouble_replied r s.0 client d.acts.after) log) w.front (c.refuse.ensures.step s.0 client d.acts.after log s.2 (work_goes_on c.args.self.now client core d.acts.after on.always w)))
    c.args.read.choice (IsWant c.in-Err.error) d.made (λ short. ap (λ (t : Trouble). Err t) (want_is c.in-Err.error s.0 short s.2)) d.own d.once

pub returns-in-Ok-clause-plans : goal.returns-in-Ok-clause-plans
returns-in-Ok-clause-plans g c s search read =
    let held = ap (λ (x : Searcher). x.request) c.hold.ensures in
    plans_as g.G.Gate.Stands g.G.Gate.Between g.G.Gate.Owns g.G.Gate.Adds g.G.Gate.bytes_fetched g.G.Gate.Answers c.args.self.now.front c.hold.new.self.request (Ok (Planned c.in-Ok.plan.revision c.len-count.result)) c.args.gate.now c.plan.new.self s (Ok search) c.args.read.choice (Ok c.in-Ok.plan)
    c.in-Ok.ensures.answered c.in-Ok.ensures.same c.in-Ok.ensures.step
    (read.choice, ap (λ (n : ℕ). Ok (Planned c.in-Ok.plan.revision n)) c.len-count.ensures, begins s search c.args.read c.in-Ok.plan c.hold.new.self.request _ read held refl refl refl c.vacant.ensures)

pub returns-in-Err-clause-plans : goal.returns-in-Err-clause-plans
returns-in-Err-clause-plans g c s search read =
    plans_as g.G.Gate.Stands g.G.Gate.Between g.G.Gate.Owns g.G.Gate.Adds g.G.Gate.bytes_fetched g.G.Gate.Answers c.args.self.now.front c.refuse.new.self.request c.refuse.result c.args.gate.now c.plan.new.self s (Ok search) c.args.read.choice (Err c.in-Err.error)
    c.in-Err.ensures.answered c.in-Err.ensures.same c.in-Err.ensures.step (read.choice, c.refuse.ensures.refuses)

pub returns-in-Ok-clause-leaves : goal.returns-in-Ok-clause-leaves
returns-in-Ok-clause-leaves g c none = works_planned c.args.self.now c.hold.new.self c.in-Ok.plan.revision c.len-count.result _ c.hold.ensures

pub returns-in-Err-clause-leaves : goal.returns-in-Err-clause-leaves
returns-in-Err-clause-leaves g c = c.refuse.ensures.leaves
