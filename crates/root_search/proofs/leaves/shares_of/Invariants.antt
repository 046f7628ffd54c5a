use Rattle.std.specs.VecDeque.{deque_len}
use Rattle.root_search.proofs.ShareJoins.{IsSharing}
use Rattle.root_search.proofs.leaves.shares_of.Given as goal

abbrev pub invariant-loop-answer : goal.invariant-loop-answer
invariant-loop-answer l = IsSharing l.wanted l.fn.answers.items l.left.items l.shares

abbrev pub decreases-loop-answer : goal.decreases-loop-answer
decreases-loop-answer l = deque_len l.left
