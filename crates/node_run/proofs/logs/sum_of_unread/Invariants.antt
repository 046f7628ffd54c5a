use Rattle.std.proofs.Common.{◌≡◌, ◌-◌, ◌^◌, take, map, sum}
use Rattle.std.specs.Prelude.{min}
use Rattle.node_run.proofs.logs.sum_of_unread.Given as goal

abbrev pub invariant-loop-log : goal.invariant-loop-log
invariant-loop-log g l = l.sum ≡ min (sum (map g.L.SourceLog.fault_count (take l.log-index l.logs))) (2 ^ 64 - 1)
