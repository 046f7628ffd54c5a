use Rattle.root_search.proofs.Joining.{IsJoining}
use Rattle.std.specs.VecDeque.{deque_len}
use Rattle.root_search.proofs.leaves.joined.Given as goal

abbrev pub invariant-loop-answer : goal.invariant-loop-answer
invariant-loop-answer l = IsJoining l.request l.fn.answers.items l.left.items l.place l.all

abbrev pub decreases-loop-answer : goal.decreases-loop-answer
decreases-loop-answer l = deque_len l.left
