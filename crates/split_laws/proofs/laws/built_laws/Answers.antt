use Rattle.split_form.proofs.Whole.{file_one}
use Rattle.split_laws.proofs.Built.{built_one}
use Rattle.split_laws.proofs.laws.built_laws.Goals as goal

pub returns : goal.returns
returns c = λ s documents split built small. built_one s documents split built (file_one s split.bytes documents built.split small)
