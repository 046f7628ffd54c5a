use Rattle.real_edge.proofs.Pieces.{IsAt}
use Rattle.real_edge.proofs.log_lines.read_records.Given as goal

abbrev pub invariant-loop : goal.invariant-loop
invariant-loop g l = IsAt (g.G.GrowingFiles.told l.fn.files) (g.G.GrowingFiles.told l.files) l.from l.most l.partition l.reading
