use Rattle.std.proofs.Common.{◌+◌, ◌≤◌, length, not, take}
use Rattle.std.specs.List.{filter}
use Rattle.doc_tallies.specs.Orders.{comes_before}
use Rattle.doc_tallies.specs.Shares.{joined}
use Rattle.root_search.specs.Shares.{hits_in}
use Rattle.root_search.proofs.shares.have_enough.Given as goal

abbrev pub invariant-loop-share : goal.invariant-loop-share
invariant-loop-share l = l.wanted ≤ l.missing + length (filter (λ y. not (comes_before l.order l.bar y)) (joined (hits_in (take l.share-index l.shares))))
