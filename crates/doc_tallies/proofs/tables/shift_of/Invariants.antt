use Rattle.std.proofs.Common.{◌≤◌}
use Rattle.doc_tallies.proofs.tables.shift_of.Given as goal

abbrev pub invariant-loop-bit : goal.invariant-loop-bit
invariant-loop-bit l = l.shift ≤ l._bit
