-- A worker's step over a world that is lent to it, so that nobody acts between its calls.
use Rattle.std.specs.Prelude.{◌≡◌, ℕ, true, Option, Some, Result}
use Rattle.std.specs.declared.alloc.AllocError.{AllocError}
use Rattle.source_log.specs.Log.{Log}
use Rattle.index_world.specs.Core.{Core, journal_of}
use Rattle.index_world.specs.Index.{has_staged}
use Rattle.index_world.specs.World.{Keeping, WorldStands, GoesOn}
use Rattle.upkeep_run.specs.Outcomes.{UpkeepOutcome}
use Rattle.upkeep_run.specs.Places.{WorkerPlace as Worker}
use Rattle.upkeep_run.specs.Places as workers
use Rattle.upkeep_run.specs.Standing as works
use Rattle.upkeep_run.specs.Steps.{WorkerLuck as WorkingLuck, step_worker}
use Rattle.upkeep_run.specs.declared.outcome.UpkeepOutcome.{UpkeepOutcome as Worked}
use Rattle.upkeep_run.specs.declared.work.Aim.{Aim}
use Rattle.upkeep_run.specs.declared.work.WorkerPlace.{WorkerPlace as WorkerPlace}

-- it is the worker's step with some luck, and what it holds then stands for where that leaves it
pub record WorksAlone (aim : Aim) (result : Result Worked AllocError) (worker : Worker) (core : Core) (log : Log) (kept : WorkerPlace) (world : Keeping) : Type 0 where
  pub luck : WorkingLuck
  pub outcome : Option UpkeepOutcome
  pub after : Worker
  pub behind : Core
  pub did : step_worker aim luck log worker core ≡ record { outcome = outcome; place = after; core = behind }
  pub answer : works.Answers result outcome
  pub stands : works.PlaceStands aim log behind kept after
  pub world_stands : WorldStands world behind log
  pub goes_on : GoesOn (workers.number_held worker) core behind
  -- a number that it holds from now on was not staged before, or is the one that it held
  pub apart : (n : ℕ) → has_staged (journal_of core) n ≡ true → workers.number_held after ≡ Some n → workers.number_held worker ≡ Some n
