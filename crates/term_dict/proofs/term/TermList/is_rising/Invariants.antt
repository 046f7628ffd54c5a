use Rattle.std.proofs.Common.{length}
use Rattle.term_dict.proofs.Rises.{RisesWith}
use Rattle.term_dict.proofs.term.TermList.is_rising.Given as goal

abbrev pub invariant-loop-first : goal.invariant-loop-first
invariant-loop-first l = RisesWith l.rest l.self

abbrev pub decreases-loop-first : goal.decreases-loop-first
decreases-loop-first l = length l.rest
