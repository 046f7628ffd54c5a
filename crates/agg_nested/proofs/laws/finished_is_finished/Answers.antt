use Rattle.agg_nested.proofs.CountedAnswers.{is_finished}
use Rattle.agg_nested.proofs.laws.finished_is_finished.Goals as goal

pub returns : goal.returns
returns c = λ request documents. is_finished request documents
