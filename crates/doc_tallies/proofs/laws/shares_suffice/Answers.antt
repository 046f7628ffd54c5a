use Rattle.doc_tallies.specs.Orders.{comes_before}
use Rattle.doc_tallies.proofs.HitOrders.{hits_order}
use Rattle.doc_tallies.proofs.Shared.{shares_enough}
use Rattle.doc_tallies.proofs.laws.shares_suffice.Goals as goal

pub returns : goal.returns
returns c = λ order wanted z owns shares all enough. shares_enough (comes_before order) (hits_order order) wanted z owns shares all enough
