use Rattle.std.proofs.Common.{take}
use Rattle.doc_tallies.proofs.Shown.{IsShown}
use Rattle.doc_tallies.proofs.each.part_each.Given as goal

abbrev pub invariant-loop-i : goal.invariant-loop-i
invariant-loop-i l = IsShown l.asked l.columns l.numbers (take l.i l.numbers) l.i l.part
