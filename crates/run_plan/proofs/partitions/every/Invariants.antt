use Rattle.std.proofs.Common.{◌≡◌, ◌++◌, ◌<◌, drop}
use Rattle.run_plan.specs.Every.{every}
use Rattle.run_plan.proofs.partitions.every.Given as goal

abbrev pub invariant-loop-name : goal.invariant-loop-name
invariant-loop-name l = (l.left < l.fn.count) × (l.own ++ every l.fn.count l.left (drop l.name-index l.names) ≡ every l.fn.count l.fn.skipped l.names)
