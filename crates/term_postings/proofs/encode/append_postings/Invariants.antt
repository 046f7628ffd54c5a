use Rattle.std.proofs.Common.{◌≤◌, ◌-◌, drop, length}
use Rattle.term_postings.specs.Rows.{lent}
use Rattle.term_postings.proofs.Puts.{PutsBlocks}
use Rattle.term_postings.proofs.encode.append_postings.Given as goal

abbrev pub invariant-loop-from : goal.invariant-loop-from
invariant-loop-from l = (l.from ≤ length l.rows)
    × PutsBlocks l.positions l.fn.postings.items l.fn.places.items l.postings.items l.blocks.items l.places.items l.before (drop l.from (lent l.rows)) (lent l.rows)

abbrev pub decreases-loop-from : goal.decreases-loop-from
decreases-loop-from l = length l.rows - l.from
