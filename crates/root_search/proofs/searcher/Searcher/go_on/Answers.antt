use Rattle.std.proofs.Common.{◌≡◌, ◌≤◌, refl, ap, sym, subst, Ok, Err, true, false, map, length, arith, ◌∙◌}
use Rattle.std.specs.List.{AllZip}
use Rattle.index_config.specs.declared.config.IndexConfig.{IndexConfig}
use Rattle.leaf_search.specs.Answers.{IsAsked}
use Rattle.index_world.specs.Seen.{visible_at}
use Rattle.root_search.specs.Answer.{answer}
use Rattle.root_search.specs.Searching.{Ends, rows_at, documents_at}
use Rattle.root_search.specs.PartAnswers.{AreFound}
use Rattle.root_search.specs.FetchedSplits.{HasNeeded}
use Rattle.root_search.specs.Steps.{answer_of, reply_with}
use Rattle.root_search.specs.declared.outcome.SearchStep.TheVariants.{Fetched}
use Rattle.root_search.proofs.Bounds.{no_answer, no_draw}
use Rattle.root_search.proofs.Found.{are_found, found_few}
use Rattle.root_search.proofs.Leaving.{works_replied, works_short}
use Rattle.root_search.proofs.PlannedRows.{all_fetched, all_parts}
use Rattle.root_search.proofs.Schemas.{few_fields, intervals_there}
use Rattle.root_search.proofs.Stands.{config_then}
use Rattle.root_search.proofs.Steps.{answered_as, ends_without}
use Rattle.root_search.proofs.RowReads.{no_row, over_reply, over_short}
use Rattle.root_search.proofs.searcher.Searcher.go_on.Goals as goal

pub answer_over-requires-clause-fields : goal.answer_over-requires-clause-fields
answer_over-requires-clause-fields g c = λ lifetimes there. few_fields c.config.result.now.schema c.config.ensures.schema

pub answer_over-requires-clause-intervals : goal.answer_over-requires-clause-intervals
answer_over-requires-clause-intervals g c = λ lifetimes there. intervals_there c.args.planned.ask.request.aggs c.args.planned.intervals

pub returns-in-Err-clause-step : goal.returns-in-Err-clause-step
returns-in-Err-clause-step g c plan client core log good asked planned known stands w =
    let over : length c.args.planned.plan.rows ≤ c.args.planned.next = omega (arith, c.len.ensures, c.if-planned-len.false) in
    answered_as g.G.Gate.Stands g.G.Gate.Between g.G.Gate.Adds c.args.gate.now _ _ _ client core log plan true (g.met.G.Gate.none_between core) (g.met.G.Gate.adds_none c.args.gate.now) stands asked (all_fetched c.args.planned plan core log planned over)
    (ends_without (Err c.in-Err.refused) c.args.self.now client (reply_with plan.revision (answer_of plan log core) client core) log refl w)

pub returns-in-Ok-clause-step : goal.returns-in-Ok-clause-step
returns-in-Ok-clause-step g c plan client core log good asked planned known stands w =
    let over : length c.args.planned.plan.rows ≤ c.args.planned.next = omega (arith, c.len.ensures, c.if-planned-len.false) in
    let lists = map (documents_at plan.revision core log) (rows_at plan.revision plan.search core) in
    let config = config_then core log c.config.result.now plan.revision plan.grace.until (g.met.G.Gate.is_sound c.args.gate.now core log stands) (c.config.ensures.step core log stands) planned.in_hand in
    let parts = all_parts c.args.planned plan core log planned over in
    let found = are_found plan.revision plan.grace.until plan.search c.args.planned.ask core log good planned.asks planned.in_hand in
    let said : c.in-Ok.said ≡ answer c.config.result.now.schema plan.search (visible_at plan.revision core.history log) =
    c.in-Ok.ensures.only plan.search lists (visible_at plan.revision core.history log) planned.asks
    (subst (λ (x : IndexConfig). IsAsked x.schema c.args.planned.ask.request) config planned.asked)
    (subst (λ (x : IndexConfig). AllZip (HasNeeded x.schema c.args.planned.ask.request) c.args.planned.parts lists) config parts)
    (found_few plan.revision plan.grace.until plan.search core log planned.in_hand)
    (subst (λ (x : IndexConfig). AreFound x.schema c.args.planned.ask.request lists (visible_at plan.revision core.history log)) config found) in
    let same : c.in-Ok.said ≡ answer_of plan log core = said ∙ ap (λ (x : IndexConfig). answer x.schema plan.search (visible_at plan.revision core.history log)) (sym config) in
    answered_as g.G.Gate.Stands g.G.Gate.Between g.G.Gate.Adds c.args.gate.now _ _ _ client core log plan false (g.met.G.Gate.none_between core) (g.met.G.Gate.adds_none c.args.gate.now) stands asked (all_fetched c.args.planned plan core log planned over)
    (subst (λ r. Ends (Ok c.reply.result) c.reply.new.self (reply_with r (answer_of plan log core) client core) log) planned.revision
    (subst (λ x. Ends (Ok c.reply.result) c.reply.new.self (reply_with c.args.planned.plan.revision x client core) log) same (c.reply.ensures.step client core log w)))

pub returns-in-Err-clause-draws : goal.returns-in-Err-clause-draws
returns-in-Err-clause-draws g c plan client core log planned stands w number documents p fetched uploaded is = absurd (no_answer (Err c.in-Err.refused) (Fetched number) refl fetched)

pub returns-in-Ok-clause-draws : goal.returns-in-Ok-clause-draws
returns-in-Ok-clause-draws g c plan client core log planned stands w number documents p fetched uploaded is = absurd (no_draw (Ok c.reply.result) number c.reply.ensures.replied fetched)

pub returns-in-Err-clause-reads : goal.returns-in-Err-clause-reads
returns-in-Err-clause-reads g c row there = absurd (no_row c.args.planned.plan.rows c.args.planned.next row there (omega (arith, c.len.ensures, c.if-planned-len.false)))

pub returns-in-Ok-clause-reads : goal.returns-in-Ok-clause-reads
returns-in-Ok-clause-reads g c row there = absurd (no_row c.args.planned.plan.rows c.args.planned.next row there (omega (arith, c.len.ensures, c.if-planned-len.false)))

pub returns-in-Err-clause-answers : goal.returns-in-Err-clause-answers
returns-in-Err-clause-answers g c over = over_short c.args.planned (g.G.Gate.configured c.args.gate.now) (Err c.in-Err.refused) refl

pub returns-in-Ok-clause-answers : goal.returns-in-Ok-clause-answers
returns-in-Ok-clause-answers g c over = over_reply c.args.planned c.reply.result _ c.in-Ok.said c.config.result.now (g.G.Gate.configured c.args.gate.now) c.reply.ensures.said c.config.ensures.value c.in-Ok.ensures.said

pub returns-in-Err-clause-leaves : goal.returns-in-Err-clause-leaves
returns-in-Err-clause-leaves g c none = works_short c.args.self.now c.args.self.now (Err c.in-Err.refused) refl refl refl none

pub returns-in-Ok-clause-leaves : goal.returns-in-Ok-clause-leaves
returns-in-Ok-clause-leaves g c none = works_replied c.args.self.now c.reply.new.self c.reply.result c.args.planned.plan.revision c.in-Ok.said c.reply.ensures.said c.reply.ensures.leaves none
