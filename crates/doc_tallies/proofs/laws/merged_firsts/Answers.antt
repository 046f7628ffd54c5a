use Rattle.doc_tallies.specs.Orders.{comes_before}
use Rattle.doc_tallies.proofs.HitOrders.{hits_order}
use Rattle.doc_tallies.proofs.Putting.{merged}
use Rattle.doc_tallies.proofs.laws.merged_firsts.Goals as goal

pub returns : goal.returns
returns c = λ wanted order xs ys. merged (comes_before order) (hits_order order) wanted xs ys
