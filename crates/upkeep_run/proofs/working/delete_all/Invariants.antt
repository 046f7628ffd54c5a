use Rattle.source_log.specs.Log.{IsLog, Log}
use Rattle.index_world.specs.Core.{Core}
use Rattle.index_world.proofs.Ran.{Going, SoFar}
use Rattle.upkeep_run.specs.Places.{WorkerPlace}
use Rattle.upkeep_run.specs.Standing.{HoldsOwn, PlaceStands}
use Rattle.upkeep_run.specs.declared.work.Aim.TheVariants.{Deleting}
use Rattle.upkeep_run.specs.WorkAll.{Holds, HeldAt, DeletesOnce, WorkerStep, core_there, end_of, held_at, worker_at}
use Rattle.upkeep_run.proofs.working.delete_all.Given as goal

abbrev pub invariant-loop : goal.invariant-loop
invariant-loop g l =
    g.G.Gate.since l.fn.gate l.gate × HoldsOwn g.G.Gate.Owns l.gate l.worker.place
    × Going (DeletesOnce g.G.Gate.told g.G.Gate.configured g.G.Gate.Answers) end_of l.counter (held_at l.fn.worker.place l.fn.gate) (held_at l.worker.place l.gate)
    × ((place : WorkerPlace) (core : Core) (log : Log) → IsLog log → PlaceStands Deleting log core l.fn.worker.place place → g.G.Gate.Stands l.fn.gate core log →
    SoFar g.G.Gate.Stands g.G.Gate.Adds (WorkerStep g.G.Gate.Between Deleting log) core_there end_of (Holds Deleting log l.worker.place) l.counter (worker_at place core) log l.fn.gate l.gate)
