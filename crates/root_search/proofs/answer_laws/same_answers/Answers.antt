use Rattle.root_search.proofs.Counting.{answer_moved}
use Rattle.root_search.proofs.answer_laws.same_answers.Goals as goal

pub returns : goal.returns
returns c = answer_moved
