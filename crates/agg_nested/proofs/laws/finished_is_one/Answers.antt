use Rattle.agg_nested.proofs.CountedAnswers.{finished_one}
use Rattle.agg_nested.proofs.laws.finished_is_one.Goals as goal

pub returns : goal.returns
returns c = λ request documents result is had. finished_one request documents result is had
