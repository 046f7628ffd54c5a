use Rattle.std.proofs.Common.{◌≡◌}
use Rattle.run_progress.proofs.log.count_logs.Given as goal

abbrev pub invariant-loop-log : goal.invariant-loop-log
invariant-loop-log g l = l.counted.items ≡ l.yielded
