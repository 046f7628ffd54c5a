use Rattle.std.proofs.Common.{◌≡◌, ◌-◌, ◌^◌, take, map, sum}
use Rattle.std.specs.Prelude.{min}
use Rattle.node_run.proofs.logs.sum_of_read.Given as goal

abbrev pub invariant-loop-indexer : goal.invariant-loop-indexer
invariant-loop-indexer g l = l.sum ≡ min (sum (map (λ reader. g.L.SourceLog.fault_count reader.log) (take l.indexer-index l.indexers))) (2 ^ 64 - 1)
