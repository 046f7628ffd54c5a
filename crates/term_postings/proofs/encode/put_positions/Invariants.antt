use Rattle.std.proofs.Common.{length}
use Rattle.term_postings.proofs.Puts.{PutsNumbers}
use Rattle.term_postings.proofs.encode.put_positions.Given as goal

abbrev pub invariant-loop-position : goal.invariant-loop-position
invariant-loop-position l = PutsNumbers l.fn.places.items l.places.items l.last l.rest l.positions

abbrev pub decreases-loop-position : goal.decreases-loop-position
decreases-loop-position l = length l.rest
