use Rattle.std.proofs.Common.{◌≡◌, true}
use Rattle.source_log.specs.Log.{IsLog, Log}
use Rattle.index_world.specs.Core.{Core}
use Rattle.index_world.specs.World.{WorldStands}
use Rattle.thread_run.specs.Resting.{aim_of, place_of}
use Rattle.thread_run.proofs.Resting.{Going}
use Rattle.thread_run.proofs.settling.rest.Given as goal

abbrev pub invariant-loop-turn : goal.invariant-loop-turn
invariant-loop-turn g l =
    (aim_of l.worker ≡ l.fn.aim)
    × ((core : Core) (log : Log) → IsLog log → core.frozen ≡ true → WorldStands l.fn.gate.world core log → Going l.fn.aim core log l.turn (place_of l.worker) l.gate.world)
