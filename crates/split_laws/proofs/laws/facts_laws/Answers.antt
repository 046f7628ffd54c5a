use Rattle.split_laws.proofs.Built.{facts_one}
use Rattle.split_laws.proofs.laws.facts_laws.Goals as goal

pub returns : goal.returns
returns c = λ s documents rejected bytes facts are is. facts_one s documents rejected bytes facts are is
