use Rattle.split_form.proofs.Keys.{keys_are, keys_one}
use Rattle.split_form.proofs.laws.keys_laws.Goals as goal

pub returns : goal.returns
returns c = record {
  are = λ s documents. keys_are s documents;
  only = λ s documents keys are. keys_one s documents keys are;
}
