use Rattle.std.proofs.Common.{◌≡◌, ◌-◌, ◌≤◌, ◌++◌, IsPermutation, vec_len}
use Rattle.doc_tallies.specs.Firsts.{sorted_by}
use Rattle.doc_tallies.specs.Orders.{comes_before}
use Rattle.root_search.proofs.Merging.{IsMerging}
use Rattle.root_search.proofs.joins.merged_hits.Given as goal

abbrev pub invariant-loop-order : goal.invariant-loop-order
invariant-loop-order l = record {
  merging : sorted_by (comes_before l.order) l.fn.one ≡ l.fn.one → sorted_by (comes_before l.order) l.fn.other ≡ l.fn.other → IsMerging (comes_before l.order) l.fn.one l.fn.other l.hits.items l.left.items l.right.items;
  few : vec_len l.hits ≤ l.wanted;
  drawn : IsPermutation (l.hits.items ++ (l.left.items ++ l.right.items)) (l.fn.one ++ l.fn.other);
}

abbrev pub decreases-loop-order : goal.decreases-loop-order
decreases-loop-order l = l.wanted - vec_len l.hits
