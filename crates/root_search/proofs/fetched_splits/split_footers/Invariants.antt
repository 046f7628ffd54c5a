use Rattle.std.specs.VecDeque.{deque_len}
use Rattle.root_search.proofs.Parting.{IsParting}
use Rattle.root_search.proofs.fetched_splits.split_footers.Given as goal

abbrev pub invariant-loop-part : goal.invariant-loop-part
invariant-loop-part l = IsParting l.fn.parts l.footers.items l.splits l.left.items

abbrev pub decreases-loop-part : goal.decreases-loop-part
decreases-loop-part l = deque_len l.left
