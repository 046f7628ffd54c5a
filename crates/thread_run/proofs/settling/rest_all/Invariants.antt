use Rattle.std.proofs.Common.{◌≡◌, true}
use Rattle.source_log.specs.Log.{IsLog, Log}
use Rattle.index_world.specs.Core.{Core}
use Rattle.index_world.specs.World.{WorldStands}
use Rattle.thread_run.proofs.RestAll.{Rounds}
use Rattle.thread_run.proofs.settling.rest_all.Given as goal

abbrev pub invariant-loop : goal.invariant-loop
invariant-loop g l = (core : Core) (log : Log) → IsLog log → core.frozen ≡ true → WorldStands l.fn.gate.world core log → Rounds core log l.counter l.gate.world
