use Rattle.text_tokens.proofs.Maximal.{runs-maximal}
use Rattle.text_tokens.proofs.laws.runs_are_maximal.Goals as goal

pub returns : goal.returns
returns c = λ cut letters. runs-maximal cut 0 letters
