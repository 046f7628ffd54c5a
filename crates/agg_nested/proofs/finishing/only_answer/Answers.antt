use Rattle.std.proofs.Common.{◌∙◌, sym, ap}
use Rattle.agg_model.specs.declared.answer.NamedResult.{NamedResult}
use Rattle.agg_nested.proofs.FlatAnswers.{last_of_one}
use Rattle.agg_nested.specs.declared.answer.FlatAnswer.TheVariants as answers
use Rattle.agg_nested.proofs.finishing.only_answer.Goals as goal

pub returns-in-Some : goal.returns-in-Some
returns-in-Some c = λ name answer e.
    ap (λ (r : NamedResult). answers.Counted r.result) (last_of_one _ c.in-Some.named _ (sym c.in-Some.ensures.items ∙ c.into_vec-results.ensures ∙ e))
