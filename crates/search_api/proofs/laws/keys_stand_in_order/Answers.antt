use Rattle.search_api.proofs.InOrder.{values_in_order, ranges_in_order}
use Rattle.search_api.proofs.laws.keys_stand_in_order.Goals as goal

pub returns-clause-values : goal.returns-clause-values
returns-clause-values c = values_in_order

pub returns-clause-ranges : goal.returns-clause-ranges
returns-clause-ranges c = ranges_in_order
