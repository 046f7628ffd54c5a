use Rattle.std.specs.VecDeque.{deque_len}
use Rattle.root_search.proofs.ShareJoins.{IsAnswering}
use Rattle.root_search.proofs.leaves.answers_of_shares.Given as goal

abbrev pub invariant-loop-share : goal.invariant-loop-share
invariant-loop-share l = IsAnswering l.fn.shares l.left.items l.answers.items

abbrev pub decreases-loop-share : goal.decreases-loop-share
decreases-loop-share l = deque_len l.left
