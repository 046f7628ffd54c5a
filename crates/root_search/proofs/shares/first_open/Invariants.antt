use Rattle.std.proofs.Common.{Option, take}
use Rattle.std.specs.List.{AllByRecursion}
use Rattle.doc_tallies.specs.declared.hit_order.HitOrder.{HitOrder}
use Rattle.root_search.specs.Shares.{IsWhole}
use Rattle.root_search.proofs.shares.first_open.Given as goal

abbrev pub invariant-loop-place : goal.invariant-loop-place
invariant-loop-place l = (order : Option HitOrder) → AllByRecursion (IsWhole order l.wanted) (take l.place l.shares)
