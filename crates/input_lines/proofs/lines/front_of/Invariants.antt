use Rattle.std.proofs.Common.{take}
use Rattle.input_lines.specs.Pieces.{IsUnbroken}
use Rattle.input_lines.proofs.lines.front_of.Given as goal

abbrev pub invariant-loop-i : goal.invariant-loop-i
invariant-loop-i l = IsUnbroken (take l.i l.piece)
