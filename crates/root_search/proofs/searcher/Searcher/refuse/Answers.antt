use Rattle.std.proofs.Common.{refl, sym, subst, Ok}
use Rattle.search_api.specs.declared.reply.Said.TheVariants.{Refused}
use Rattle.root_search.specs.Searching.{Ends}
use Rattle.root_search.specs.Steps.{Searched, reply_with, trouble_replied}
use Rattle.root_search.proofs.Planning.{replies_none}
use Rattle.root_search.proofs.Steps.{ends_short, unmade_refused, unmade_short}
use Rattle.root_search.proofs.Leaving.{works_replied, works_short}
use Rattle.root_search.proofs.RowReads.{refused_reply}
use Rattle.root_search.proofs.searcher.Searcher.refuse.Goals as goal

pub returns-in_err-refusal-clause-step : goal.returns-in_err-refusal-clause-step
returns-in_err-refusal-clause-step c trouble client core log is w =
    subst (λ t. Ends c.from_residual.result c.args.self.now (trouble_replied c.args.revision t client core) log) (sym (c.in_err-refusal.ensures.trouble trouble is))
    (ends_short c.from_residual.result c.args.self.now client core log c.from_residual.ensures.0 w)

pub returns-clause-step : goal.returns-clause-step
returns-clause-step c trouble client core log is w =
    let r = c.in_ok-refusal.ensures.trouble trouble is in
    subst (λ t. Ends (Ok c.reply.result) c.reply.new.self (trouble_replied c.args.revision t client core) log) (sym r.1)
    (subst (λ x. Ends (Ok c.reply.result) c.reply.new.self (reply_with c.args.revision (Refused x) client core) log) r.2 (c.reply.ensures.step client core log w))

pub returns-in_err-refusal-clause-unmade : goal.returns-in_err-refusal-clause-unmade
returns-in_err-refusal-clause-unmade c unmade client core log is w =
    subst (λ (t : Searched). Ends c.from_residual.result c.args.self.now t log) (sym (unmade_short c.args.error unmade c.args.revision client core is c.in_err-refusal.ensures.exact c.in_err-refusal.ensures.trouble))
    (ends_short c.from_residual.result c.args.self.now client core log c.from_residual.ensures.0 w)

pub returns-clause-unmade : goal.returns-clause-unmade
returns-clause-unmade c unmade client core log is w =
    subst (λ (t : Searched). Ends (Ok c.reply.result) c.reply.new.self t log) (sym (unmade_refused c.args.error c.in_ok-refusal.refusal unmade c.args.revision client core is c.in_ok-refusal.ensures.exact c.in_ok-refusal.ensures.trouble))
    (c.reply.ensures.step client core log w)

pub returns-in_err-refusal-clause-exact : goal.returns-in_err-refusal-clause-exact
returns-in_err-refusal-clause-exact c = replies_none c.args.error c.args.revision c.from_residual.result c.from_residual.ensures.0 c.in_err-refusal.ensures.exact

pub returns-clause-exact : goal.returns-clause-exact
returns-clause-exact c = refused_reply _ c.reply.result _ _ c.in_ok-refusal.refusal c.reply.ensures.said c.in_ok-refusal.ensures.exact

pub returns-clause-refuses : goal.returns-clause-refuses
returns-clause-refuses c = refused_reply _ c.reply.result _ _ c.in_ok-refusal.refusal c.reply.ensures.said c.in_ok-refusal.ensures.exact

pub returns-in_err-refusal-clause-leaves : goal.returns-in_err-refusal-clause-leaves
returns-in_err-refusal-clause-leaves c none = works_short c.args.self.now c.args.self.now c.from_residual.result c.from_residual.ensures.0 refl refl none

pub returns-clause-leaves : goal.returns-clause-leaves
returns-clause-leaves c none = works_replied c.args.self.now c.reply.new.self c.reply.result c.args.revision (Refused c.in_ok-refusal.refusal) c.reply.ensures.said c.reply.ensures.leaves none
