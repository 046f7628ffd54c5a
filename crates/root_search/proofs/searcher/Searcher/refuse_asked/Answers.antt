use Rattle.std.proofs.Common.{refl, ap, subst, Ok, Err}
use Rattle.index_world.specs.Calls.{Trouble}
use Rattle.index_world.specs.Taking.{IsWant}
use Rattle.index_world.specs.Gate.{IsPlan}
use Rattle.meta_store.specs.declared.planning.Choice.TheVariants.{Look}
use Rattle.search_api.specs.declared.reply.Said.TheVariants.{Refused}
use Rattle.search_api.specs.declared.unanswered.Unanswered.TheVariants as reasons
use Rattle.root_search.specs.Searching.{Ends}
use Rattle.root_search.specs.Steps.{reply_with}
use Rattle.root_search.proofs.Stands.{config_before, work_goes_on}
use Rattle.root_search.proofs.Fetches.{by_does}
use Rattle.root_search.proofs.Leaving.{works_replied}
use Rattle.root_search.proofs.Planning.{plans_as}
use Rattle.root_search.proofs.Recorded.{want_is}
use Rattle.root_search.proofs.RowReads.{refused_reply}
use Rattle.root_search.proofs.Steps.{says_ok, says_err, planned_as}
use Rattle.root_search.proofs.searcher.Searcher.refuse_asked.Goals as goal

pub returns-in-Ok-clause-step : goal.returns-in-Ok-clause-step
returns-in-Ok-clause-step g c text config client core log configured none asked stands w =
    let d = c.in-Ok.ensures.step core log stands in
    let others = (g.met.G.Gate.between_goes core d.mid d.passed).grown in
    let on = by_does g.G.Gate.Between g.met.G.Gate.between_goes core d.mid d.acts.after d.passed d.acts.goes_on in
    let s = says_ok (IsPlan Look) c.in-Ok.plan d.acts.answer d.acts.after d.acts.says in
    planned_as g.G.Gate.Stands g.G.Gate.Between g.G.Gate.Adds c.args.gate.now _ _ _ client core log text config d.mid d.acts.fate d.acts.answer (Ok tt) (Err (reasons.Refused c.args.refusal)) d.acts.after d.passed d.acts.did on d.acts.stands asked
    (config_before core d.mid d.acts.after log config (g.met.G.Gate.is_sound c.args.gate.now core log stands) (g.met.G.Gate.is_sound c.plan.new.self d.acts.after log d.acts.stands) configured others.0 others.1 d.acts.goes_on.grown.0 d.acts.goes_on.grown.1) none s.0
    (subst (λ r. Ends (Ok c.reply.result) c.reply.new.self (reply_with r (Refused c.args.refusal) client d.acts.after) log) s.1.revision (c.reply.ensures.step client d.acts.after log (work_goes_on c.args.self.now client core d.acts.after on.always w)))
    Look ⊥ d.made (λ short. absurd short) d.own d.once

pub returns-in-Err-clause-step : goal.returns-in-Err-clause-step
returns-in-Err-clause-step g c text config client core log configured none asked stands w =
    let d = c.in-Err.ensures.step core log stands in
    let others = (g.met.G.Gate.between_goes core d.mid d.passed).grown in
    let on = by_does g.G.Gate.Between g.met.G.Gate.between_goes core d.mid d.acts.after d.passed d.acts.goes_on in
    let s = says_err (IsPlan Look) c.in-Err.error d.acts.answer d.acts.after d.acts.says in
    planned_as g.G.Gate.Stands g.G.Gate.Between g.G.Gate.Adds c.args.gate.now _ _ _ client core log text config d.mid d.acts.fate d.acts.answer (Err s.0) (Err (reasons.Refused c.args.refusal)) d.acts.after d.passed d.acts.did on d.acts.stands asked
    (config_before core d.mid d.acts.after log config (g.met.G.Gate.is_sound c.args.gate.now core log stands) (g.met.G.Gate.is_sound c.plan.new.self d.acts.after log d.acts.stands) configured others.0 others.1 d.acts.goes_on.grown.0 d.acts.goes_on.grown.1) none s.1
    (c.refuse_unplanned.ensures.step s.0 client d.acts.after log s.2 (work_goes_on c.args.self.now client core d.acts.after on.always w))
    Look (IsWant c.in-Err.error) d.made (λ short. ap (λ (t : Trouble). Err t) (want_is c.in-Err.error s.0 short s.2)) d.own d.once

pub returns-in-Ok-clause-plans : goal.returns-in-Ok-clause-plans
returns-in-Ok-clause-plans g c s =
    plans_as g.G.Gate.Stands g.G.Gate.Between g.G.Gate.Owns g.G.Gate.Adds g.G.Gate.bytes_fetched g.G.Gate.Answers c.args.self.now.front c.reply.new.self.request (Ok c.reply.result) c.args.gate.now c.plan.new.self s (Err (reasons.Refused c.args.refusal)) Look (Ok c.in-Ok.plan)
    c.in-Ok.ensures.answered c.in-Ok.ensures.same c.in-Ok.ensures.step (refl, refused_reply _ c.reply.result _ _ c.args.refusal c.reply.ensures.said refl)

pub returns-in-Err-clause-plans : goal.returns-in-Err-clause-plans
returns-in-Err-clause-plans g c s =
    plans_as g.G.Gate.Stands g.G.Gate.Between g.G.Gate.Owns g.G.Gate.Adds g.G.Gate.bytes_fetched g.G.Gate.Answers c.args.self.now.front c.refuse_unplanned.new.self.request c.refuse_unplanned.result c.args.gate.now c.plan.new.self s (Err (reasons.Refused c.args.refusal)) Look (Err c.in-Err.error)
    c.in-Err.ensures.answered c.in-Err.ensures.same c.in-Err.ensures.step (refl, c.refuse_unplanned.ensures.refuses)

pub returns-in-Ok-clause-leaves : goal.returns-in-Ok-clause-leaves
returns-in-Ok-clause-leaves g c none = works_replied c.args.self.now c.reply.new.self c.reply.result _ (Refused c.args.refusal) c.reply.ensures.said c.reply.ensures.leaves none

pub returns-in-Err-clause-leaves : goal.returns-in-Err-clause-leaves
returns-in-Err-clause-leaves g c = c.refuse_unplanned.ensures.leaves
