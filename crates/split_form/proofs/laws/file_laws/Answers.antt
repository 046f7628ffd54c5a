use Rattle.split_form.proofs.Whole.{file_one}
use Rattle.split_form.proofs.laws.file_laws.Goals as goal

pub returns : goal.returns
returns c = λ s bytes documents split small. file_one s bytes documents split small
