use Rattle.real_edge.proofs.Logs.{HasGiven}
use Rattle.real_edge.proofs.file_log.given_of.Given as goal

abbrev pub invariant-loop-partition : goal.invariant-loop-partition
invariant-loop-partition g l = HasGiven (g.G.GrowingFiles.told l.fn.files) (g.G.GrowingFiles.told l.files) l.names l.given l.partition-index
