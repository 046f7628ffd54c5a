use Rattle.std.proofs.Common.{sym, subst}
use Rattle.doc_tallies.specs.Orders.{IsSortable}
use Rattle.root_search.proofs.LeafRequests.{can_sort}
use Rattle.root_search.proofs.leaf_asks.leaf_ask.Goals as goal

pub returns-clause-can : goal.returns-clause-can
returns-clause-can c = λ s h. record {
  query = h.query;
  order = subst (IsSortable s) (sym c.order_of.ensures) (can_sort s c.args.ask.sort h.sort);
  aggs = h.aggs;
}
