use Rattle.std.proofs.Common.{◌-◌, ◌≤◌, false}
use Rattle.split_merge.specs.Numbering.{number_in}
use Rattle.split_merge.proofs.ListLemmas.{AddsThese, PutsList}
use Rattle.split_merge.proofs.lists.KeyList.put_bare.Given as goal

abbrev pub invariant-loop-left : goal.invariant-loop-left
invariant-loop-left l = record {
  left : l.left ≤ l.docs;
  puts : PutsList false (AddsThese false (number_in l.numbers) l.fn.self l.self) (l.docs - l.left) l.last l.fn.cursor l.cursor;
}

abbrev pub decreases-loop-left : goal.decreases-loop-left
decreases-loop-left l = l.left
