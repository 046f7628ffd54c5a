use Rattle.std.proofs.Common.{refl, sym}
use Rattle.split_merge.proofs.RisingLemmas.{rise_all, rise_test}
use Rattle.split_merge.proofs.numbers.rise_from.Goals as goal

pub returns-in-Some : goal.returns-in-Some
returns-in-Some c = rise_test c.requires.0 c.args.place c.in-Some.first.now c.from.result c.args.places.now (sym c.in-Some.ensures.value) c.from.ensures c.requires.1

pub returns-in-None : goal.returns-in-None
returns-in-None c = (λ t. rise_all c.args.place c.args.places.now (sym c.in-None.ensures.value), λ r. refl)
