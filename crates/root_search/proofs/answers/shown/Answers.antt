use Rattle.std.proofs.Common.{ap, drop, refl, sym, take, ◌∙◌}
use Rattle.root_search.specs.Answer.{printed}
use Rattle.root_search.proofs.Showing.{found_shown, had_memory, refused_shown}
use Rattle.root_search.proofs.answers.shown.Goals as goal

pub returns-in_ok-printed_page-in-Ok-clause-only : goal.returns-in_ok-printed_page-in-Ok-clause-only
returns-in_ok-printed_page-in-Ok-clause-only c = λ search documents asks answer.
    found_shown c.args.schema.now search c.args.ask.now documents c.args.answer.now c.in_ok-printed_page-in-Ok.field-0 c.in-Ok.aggregations asks answer
    (c.in_ok-printed_page-in-Ok.ensures ∙ ap (λ hits. printed c.args.schema.now (take c.args.ask.now.page.shown (drop c.args.ask.now.page.passed hits))) c.as_slice.ensures) (sym (c.in-Ok.ensures _ answer.partial tt))

pub returns-in-Refused-clause-only : goal.returns-in-Refused-clause-only
returns-in-Refused-clause-only c = λ search documents asks answer.
    refused_shown c.args.schema.now search c.args.ask.now documents c.in-Err.error c.in-Refused.refusal asks (sym c.from.ensures ∙ c.in-Refused.is) (sym (c.in-Err.ensures _ answer.partial (had_memory c.in-Err.error c.in-Refused.refusal (sym c.from.ensures ∙ c.in-Refused.is))))

pub returns-in_ok-printed_page-in-Ok-clause-said : goal.returns-in_ok-printed_page-in-Ok-clause-said
returns-in_ok-printed_page-in-Ok-clause-said c = (
  refl,
  c.in_ok-printed_page-in-Ok.ensures ∙ ap (λ hits. printed c.args.schema.now (take c.args.ask.now.page.shown (drop c.args.ask.now.page.passed hits))) c.as_slice.ensures,
  λ documents stands. sym (c.in-Ok.ensures documents stands tt),
)

pub returns-in-Refused-clause-said : goal.returns-in-Refused-clause-said
returns-in-Refused-clause-said c = (c.in-Err.error, sym c.from.ensures ∙ c.in-Refused.is, λ documents stands. sym (c.in-Err.ensures documents stands (had_memory c.in-Err.error c.in-Refused.refusal (sym c.from.ensures ∙ c.in-Refused.is))))
