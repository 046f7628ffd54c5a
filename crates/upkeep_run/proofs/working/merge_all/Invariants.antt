use Rattle.source_log.specs.Log.{IsLog, Log}
use Rattle.index_world.specs.Core.{Core}
use Rattle.index_world.proofs.Ran.{Going, SoFar}
use Rattle.upkeep_run.specs.Places.{WorkerPlace}
use Rattle.upkeep_run.specs.Standing.{HoldsOwn, PlaceStands}
use Rattle.upkeep_run.specs.declared.work.Aim.TheVariants.{Merging}
use Rattle.upkeep_run.specs.WorkAll.{Holds, HeldAt, MergesOnce, WorkerStep, core_there, end_of, held_at, worker_at}
use Rattle.upkeep_run.proofs.working.merge_all.Given as goal

abbrev pub invariant-loop : goal.invariant-loop
invariant-loop g l =
    g.G.Gate.since l.fn.gate l.gate × HoldsOwn g.G.Gate.Owns l.gate l.merger.place
    × Going (MergesOnce g.G.Gate.told g.G.Gate.configured g.G.Gate.Answers) end_of l.counter (held_at l.fn.merger.place l.fn.gate) (held_at l.merger.place l.gate)
    × ((place : WorkerPlace) (core : Core) (log : Log) → IsLog log → PlaceStands Merging log core l.fn.merger.place place → g.G.Gate.Stands l.fn.gate core log →
    SoFar g.G.Gate.Stands g.G.Gate.Adds (WorkerStep g.G.Gate.Between Merging log) core_there end_of (Holds Merging log l.merger.place) l.counter (worker_at place core) log l.fn.gate l.gate)
