use Rattle.std.proofs.Common.{Ok}
use Rattle.agg_model.specs.Answers.{IsFinished}
use Rattle.agg_nested.specs.Partials.{alone}
use Rattle.agg_nested.proofs.FlatAnswers.{alone_answered, alone_few, alone_refused}
use Rattle.agg_nested.proofs.finishing.finish_counts.Goals as goal

pub returns-in-Ok : goal.returns-in-Ok
returns-in-Ok c = λ agg documents h.
    let all : IsFinished (alone agg) documents (Ok c.in-Ok.results) = rw c.in-Ok.is at ((rw h.is at c.finish.ensures) documents h.stands) in
    (c.only_answer.ensures _ _ (alone_answered agg documents c.in-Ok.results all), alone_few agg documents c.in-Ok.results all)

pub returns-in-Err : goal.returns-in-Err
returns-in-Err c = λ agg documents h.
    alone_refused agg documents c.in-Err.error (rw c.in-Err.is at ((rw h.is at c.finish.ensures) documents h.stands))
