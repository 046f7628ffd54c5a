use Rattle.std.proofs.Common.{ℕ, ap, subst, Ok, Err}
use Rattle.index_world.specs.Calls.{Unmade}
use Rattle.index_world.specs.Taking.{IsWant}
use Rattle.meta_store.specs.History.{history, last_opstamp}
use Rattle.search_api.specs.declared.reply.Said.TheVariants.{Deleted}
use Rattle.root_search.specs.Searching.{Ends}
use Rattle.root_search.specs.Steps.{reply_with, unmade_replied}
use Rattle.root_search.proofs.Fetches.{by_does}
use Rattle.root_search.proofs.Leaving.{works_replied}
use Rattle.root_search.proofs.Planning.{adds_as, task_replied}
use Rattle.root_search.proofs.Stands.{config_before, work_goes_on}
use Rattle.root_search.proofs.Steps.{added_err, added_ok, deleted_as, unmade_want}
use Rattle.root_search.proofs.searcher.Searcher.delete.Goals as goal

pub returns-in-Ok-clause-step : goal.returns-in-Ok-clause-step
returns-in-Ok-clause-step g c text deletion config client core log configured word same asked stands w =
    let d = c.in-Ok.ensures.step core log stands in
    let others = (g.met.G.Gate.between_goes core d.mid d.passed).grown in
    let on = by_does g.G.Gate.Between g.met.G.Gate.between_goes core d.mid d.acts.after d.passed d.acts.goes_on in
    let s = added_ok c.in-Ok.receipt d.acts.answer d.acts.after d.acts.says in
    deleted_as g.G.Gate.Stands g.G.Gate.Between g.G.Gate.Adds c.args.gate.now _ _ _ client core log text config deletion c.args.ask.now d.mid d.acts.fate d.acts.answer (Ok tt) d.acts.after d.passed d.acts.did on d.acts.stands asked
    (config_before core d.mid d.acts.after log config (g.met.G.Gate.is_sound c.args.gate.now core log stands) (g.met.G.Gate.is_sound c.add_task.new.self d.acts.after log d.acts.stands) configured others.0 others.1 d.acts.goes_on.grown.0 d.acts.goes_on.grown.1) word same s.0
    (subst (λ (r : ℕ). Ends (Ok c.reply.result) c.reply.new.self (reply_with r (Deleted (last_opstamp (history d.acts.after.history))) client d.acts.after) log) s.1.revision
    (subst (λ (k : ℕ). Ends (Ok c.reply.result) c.reply.new.self (reply_with c.in-Ok.receipt.revision (Deleted k) client d.acts.after) log) s.1.opstamp
    (c.reply.ensures.step client d.acts.after log (work_goes_on c.args.self.now client core d.acts.after on.always w))))
    ⊥ d.made (λ short. absurd short) d.own d.once

pub returns-in-Err-clause-step : goal.returns-in-Err-clause-step
returns-in-Err-clause-step g c text deletion config client core log configured word same asked stands w =
    let d = c.in-Err.ensures.step core log stands in
    let others = (g.met.G.Gate.between_goes core d.mid d.passed).grown in
    let on = by_does g.G.Gate.Between g.met.G.Gate.between_goes core d.mid d.acts.after d.passed d.acts.goes_on in
    let s = added_err c.in-Err.error d.acts.answer d.acts.after d.acts.says in
    deleted_as g.G.Gate.Stands g.G.Gate.Between g.G.Gate.Adds c.args.gate.now _ _ _ client core log text config deletion c.args.ask.now d.mid d.acts.fate d.acts.answer (Err s.0) d.acts.after d.passed d.acts.did on d.acts.stands asked
    (config_before core d.mid d.acts.after log config (g.met.G.Gate.is_sound c.args.gate.now core log stands) (g.met.G.Gate.is_sound c.add_task.new.self d.acts.after log d.acts.stands) configured others.0 others.1 d.acts.goes_on.grown.0 d.acts.goes_on.grown.1) word same s.1
    (subst (λ (r : ℕ). Ends c.refuse.result c.refuse.new.self (unmade_replied r s.0 client d.acts.after) log) w.front (c.refuse.ensures.unmade s.0 client d.acts.after log s.2 (work_goes_on c.args.self.now client core d.acts.after on.always w)))
    (IsWant c.in-Err.error) d.made (λ short. ap (λ (u : Unmade). Err u) (unmade_want c.in-Err.error s.0 short s.2)) d.own d.once

pub returns-in-Ok-clause-adds : goal.returns-in-Ok-clause-adds
returns-in-Ok-clause-adds g c =
    adds_as g.G.Gate.Stands g.G.Gate.Between g.G.Gate.Owns g.G.Gate.Adds g.G.Gate.bytes_fetched g.G.Gate.Answers c.args.self.now.front c.args.self.now.request (Ok c.reply.result) c.args.gate.now c.add_task.new.self c.args.ask.now (Ok c.in-Ok.receipt)
    c.in-Ok.ensures.answered c.in-Ok.ensures.same c.in-Ok.ensures.step (task_replied c.in-Ok.receipt c.reply.result _ c.reply.ensures.said)

pub returns-in-Err-clause-adds : goal.returns-in-Err-clause-adds
returns-in-Err-clause-adds g c =
    adds_as g.G.Gate.Stands g.G.Gate.Between g.G.Gate.Owns g.G.Gate.Adds g.G.Gate.bytes_fetched g.G.Gate.Answers c.args.self.now.front c.args.self.now.request c.refuse.result c.args.gate.now c.add_task.new.self c.args.ask.now (Err c.in-Err.error)
    c.in-Err.ensures.answered c.in-Err.ensures.same c.in-Err.ensures.step c.refuse.ensures.exact

pub returns-in-Ok-clause-leaves : goal.returns-in-Ok-clause-leaves
returns-in-Ok-clause-leaves g c none = works_replied c.args.self.now c.reply.new.self c.reply.result _ (Deleted c.in-Ok.receipt.opstamp) c.reply.ensures.said c.reply.ensures.leaves none

pub returns-in-Err-clause-leaves : goal.returns-in-Err-clause-leaves
returns-in-Err-clause-leaves g c = c.refuse.ensures.leaves
