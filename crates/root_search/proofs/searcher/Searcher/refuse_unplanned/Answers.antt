use Rattle.std.proofs.Common.{refl, sym, subst, Ok, Err}
use Rattle.std.specs.Prelude.{IsSome}
use Rattle.search_api.specs.declared.reply.Said.TheVariants.{Refused}
use Rattle.root_search.specs.Searching.{Ends}
use Rattle.root_search.specs.Steps.{refused_over, reply_with}
use Rattle.root_search.proofs.Leaving.{works_replied, works_short}
use Rattle.root_search.proofs.RowReads.{refused_reply}
use Rattle.root_search.proofs.Steps.{ends_short}
use Rattle.root_search.proofs.searcher.Searcher.refuse_unplanned.Goals as goal

pub returns-in-Err-clause-step : goal.returns-in-Err-clause-step
returns-in-Err-clause-step c trouble client core log is w =
    subst (λ t. Ends (Err c.in-Err.refused) c.args.self.now (refused_over client.front c.args.refusal t client core) log) (sym (c.in-Err.ensures.trouble trouble is))
    (ends_short (Err c.in-Err.refused) c.args.self.now client core log refl w)

pub returns-in-Ok-clause-step : goal.returns-in-Ok-clause-step
returns-in-Ok-clause-step c trouble client core log is w =
    let r = c.in-Ok.ensures.trouble trouble is in
    subst (λ t. Ends (Ok c.reply.result) c.reply.new.self (refused_over client.front c.args.refusal t client core) log) (sym r.1)
    (subst (λ n. Ends (Ok c.reply.result) c.reply.new.self (reply_with n (Refused c.args.refusal) client core) log) w.front (c.reply.ensures.step client core log w))

pub returns-in-Ok-clause-refuses : goal.returns-in-Ok-clause-refuses
returns-in-Ok-clause-refuses c = refused_reply _ c.reply.result _ _ c.args.refusal c.reply.ensures.said (refl, subst IsSome (sym c.in-Ok.ensures.exact) refl)

pub returns-in-Err-clause-leaves : goal.returns-in-Err-clause-leaves
returns-in-Err-clause-leaves c none = works_short c.args.self.now c.args.self.now (Err c.in-Err.refused) refl refl refl none

pub returns-in-Ok-clause-leaves : goal.returns-in-Ok-clause-leaves
returns-in-Ok-clause-leaves c none = works_replied c.args.self.now c.reply.new.self c.reply.result c.args.self.now.front (Refused c.args.refusal) c.reply.ensures.said c.reply.ensures.leaves none
