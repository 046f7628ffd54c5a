use Rattle.std.proofs.Common.{length}
use Rattle.real_edge.proofs.Lines.{Goes}
use Rattle.real_edge.proofs.log_lines.Reading.take.Given as goal

-- the front of the piece was read
abbrev pub invariant-loop-rest : goal.invariant-loop-rest
invariant-loop-rest l = Goes l.from l.most l.piece l.rest l.initial.self l.self

abbrev pub decreases-loop-rest : goal.decreases-loop-rest
decreases-loop-rest l = length l.rest
