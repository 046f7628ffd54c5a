use Rattle.std.proofs.Common.{ap, refl, subst, sym, ◌∙◌, Ok, Err}
use Rattle.search_api.specs.Resolved.{IsDelete, IsSearch}
use Rattle.search_api.specs.declared.unanswered.Unanswered.TheVariants.{Refused}
use Rattle.root_search.specs.ReadSearches.{Reads}
use Rattle.root_search.specs.Requests.{asked_of}
use Rattle.root_search.specs.StepPlans.{AddsUnlessShort}
use Rattle.root_search.specs.declared.reads.ReadRequest.{ReadRequest}
use Rattle.index_world.specs.declared.tokens.DeleteAsk.{DeleteAsk}
use Rattle.root_search.proofs.Leaving.{works_short}
use Rattle.root_search.proofs.Planning.{text_short, text_under}
use Rattle.root_search.proofs.Steps.{refused_is, unasked_as}
use Rattle.root_search.proofs.searcher.Searcher.take_up.Goals as goal

pub delete-requires : goal.delete-requires
delete-requires g c =
    let r = subst (λ (read : ReadRequest). Reads c.config.result.now.schema (asked_of c.config.result.now c.as_slice.result.now) (Ok read)) c.in-Ok-Delete.field-0-is c.in-Ok-Delete.ensures in
    r.2.can

pub returns-in-Ok-Search-clause-step : goal.returns-in-Ok-Search-clause-step
returns-in-Ok-Search-clause-step g c client core log asked stands w =
    let r = subst (λ (read : ReadRequest). Reads c.config.result.now.schema (asked_of c.config.result.now c.as_slice.result.now) (Ok read)) c.in-Ok-Search.field-0-is c.in-Ok-Search.ensures in
    c.plan_read.ensures.step c.args.text.now r.0 c.config.result.now client core log (c.config.ensures.step core log stands) (ap (asked_of c.config.result.now) (sym c.as_slice.ensures) ∙ r.1) r.2 asked stands w

pub returns-in-Ok-Delete-clause-step : goal.returns-in-Ok-Delete-clause-step
returns-in-Ok-Delete-clause-step g c client core log asked stands w =
    let r = subst (λ (read : ReadRequest). Reads c.config.result.now.schema (asked_of c.config.result.now c.as_slice.result.now) (Ok read)) c.in-Ok-Delete.field-0-is c.in-Ok-Delete.ensures in
    c.delete.ensures.step c.args.text.now r.0 c.config.result.now client core log (c.config.ensures.step core log stands) (ap (asked_of c.config.result.now) (sym c.as_slice.ensures) ∙ r.1) r.2.same asked stands w

pub returns-in-Err-Refused-clause-step : goal.returns-in-Err-Refused-clause-step
returns-in-Err-Refused-clause-step g c client core log asked stands w =
    c.refuse_asked.ensures.step c.args.text.now c.config.result.now client core log (c.config.ensures.step core log stands)
    (ap (asked_of c.config.result.now) (sym c.as_slice.ensures) ∙ refused_is (asked_of c.config.result.now c.as_slice.result.now) c.in-Err-Refused.field-0 c.in-Err-Refused.refusal c.in-Err-Refused.field-0-is c.in-Err-Refused.ensures) asked stands w

pub returns-in-Err-Memory-clause-step : goal.returns-in-Err-Memory-clause-step
returns-in-Err-Memory-clause-step g c client core log asked stands w =
    unasked_as g.G.Gate.Stands g.G.Gate.Between g.G.Gate.Adds c.args.gate.now (Err c.in-Err-Memory.refused) c.args.self.now c.args.gate.now client core log c.args.text.now (g.met.G.Gate.none_between core) (g.met.G.Gate.adds_none c.args.gate.now) stands asked refl w

pub returns-in-Ok-Search-clause-plans : goal.returns-in-Ok-Search-clause-plans
returns-in-Ok-Search-clause-plans g c =
    let r = subst (λ (read : ReadRequest). Reads c.config.result.now.schema (asked_of c.config.result.now c.as_slice.result.now) (Ok read)) c.in-Ok-Search.field-0-is c.in-Ok-Search.ensures in
    text_under g.G.Gate.Stands g.G.Gate.Between g.G.Gate.Owns g.G.Gate.Adds g.G.Gate.bytes_fetched g.G.Gate.Answers c.args.self.now.front c.plan_read.new.self.request c.plan_read.result c.args.gate.now c.plan_read.new.gate c.config.result.now (g.G.Gate.configured c.args.gate.now) c.args.text.now (Ok (IsSearch r.0))
    c.config.ensures.value (ap (asked_of c.config.result.now) (sym c.as_slice.ensures) ∙ r.1) (c.plan_read.ensures.plans c.config.result.now.schema r.0 r.2)

pub returns-in-Ok-Delete-clause-plans : goal.returns-in-Ok-Delete-clause-plans
returns-in-Ok-Delete-clause-plans g c =
    let r = subst (λ (read : ReadRequest). Reads c.config.result.now.schema (asked_of c.config.result.now c.as_slice.result.now) (Ok read)) c.in-Ok-Delete.field-0-is c.in-Ok-Delete.ensures in
    text_under g.G.Gate.Stands g.G.Gate.Between g.G.Gate.Owns g.G.Gate.Adds g.G.Gate.bytes_fetched g.G.Gate.Answers c.args.self.now.front c.delete.new.self.request c.delete.result c.args.gate.now c.delete.new.gate c.config.result.now (g.G.Gate.configured c.args.gate.now) c.args.text.now (Ok (IsDelete r.0))
    c.config.ensures.value (ap (asked_of c.config.result.now) (sym c.as_slice.ensures) ∙ r.1)
    (subst (λ (ask : DeleteAsk). AddsUnlessShort g.G.Gate.Stands g.G.Gate.Between g.G.Gate.Owns g.G.Gate.Adds g.G.Gate.bytes_fetched g.G.Gate.Answers ask c.args.self.now.front c.delete.result c.args.gate.now c.delete.new.gate) r.2.same c.delete.ensures.adds)

pub returns-in-Err-Refused-clause-plans : goal.returns-in-Err-Refused-clause-plans
returns-in-Err-Refused-clause-plans g c =
    text_under g.G.Gate.Stands g.G.Gate.Between g.G.Gate.Owns g.G.Gate.Adds g.G.Gate.bytes_fetched g.G.Gate.Answers c.args.self.now.front c.refuse_asked.new.self.request c.refuse_asked.result c.args.gate.now c.refuse_asked.new.gate c.config.result.now (g.G.Gate.configured c.args.gate.now) c.args.text.now (Err (Refused c.in-Err-Refused.refusal))
    c.config.ensures.value
    (ap (asked_of c.config.result.now) (sym c.as_slice.ensures) ∙ refused_is (asked_of c.config.result.now c.as_slice.result.now) c.in-Err-Refused.field-0 c.in-Err-Refused.refusal c.in-Err-Refused.field-0-is c.in-Err-Refused.ensures)
    (c.refuse_asked.ensures.plans c.config.result.now.schema)

pub returns-in-Err-Memory-clause-plans : goal.returns-in-Err-Memory-clause-plans
returns-in-Err-Memory-clause-plans g c =
    text_short g.G.Gate.Stands g.G.Gate.Between g.G.Gate.Owns g.G.Gate.Adds g.G.Gate.bytes_fetched g.G.Gate.Answers c.args.self.now.front c.args.self.now.request (Err c.in-Err-Memory.refused) c.args.gate.now c.args.gate.now (g.G.Gate.configured c.args.gate.now).schema (asked_of (g.G.Gate.configured c.args.gate.now) c.args.text.now) refl refl

pub returns-in-Err-Memory-clause-leaves : goal.returns-in-Err-Memory-clause-leaves
returns-in-Err-Memory-clause-leaves g c none = works_short c.args.self.now c.args.self.now (Err c.in-Err-Memory.refused) refl refl refl none
