use Rattle.agg_nested.proofs.CountedAnswers.{finished_moved}
use Rattle.agg_nested.proofs.laws.answers_are_permuted.Goals as goal

pub returns : goal.returns
returns c = λ request documents others moved. finished_moved request documents others moved
