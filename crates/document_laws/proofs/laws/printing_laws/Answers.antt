use Rattle.document_laws.proofs.Whole.{rising, back}
use Rattle.document_laws.proofs.laws.printing_laws.Goals as goal

pub returns : goal.returns
returns c = record {
  rise = λ schema doc fits apart numbers. rising schema doc fits apart numbers;
  back = λ schema doc fits apart numbers short. back schema doc fits apart numbers short;
}
