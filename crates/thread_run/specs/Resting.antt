-- What one worker does up to where it finds nothing to do.
use Rattle.std.specs.Prelude.{◌≡◌, ◌<◌, Bool, true, false, [], length, Result, Ok, Err, ⊤}
use Rattle.source_log.specs.Log.{Log}
use Rattle.index_world.specs.Core.{Core, Nobody}
use Rattle.index_world.specs.World.{GoesFor, Keeping, WorldStands}
use Rattle.upkeep_run.specs.Ending.{Told}
use Rattle.upkeep_run.specs.Steps.{rows_in}
use Rattle.upkeep_run.specs.declared.outcome.UpkeepOutcome.TheVariants as said
use Rattle.upkeep_run.specs.declared.work.Aim.{Aim}
use Rattle.upkeep_run.specs.declared.work.Aim.TheVariants.{Deleting, Merging}
use Rattle.upkeep_run.specs.declared.work.WorkerPlace.{WorkerPlace as HeldPlace}
use Rattle.upkeep_run.specs.declared.work.WorkerPlace.TheVariants as places
use Rattle.thread_run.specs.Settling.{HadWork, IsAtRest, IsCrowded, IsHindered, IsUnasked, WorksByTurns, WorksFrom}
use Rattle.thread_run.specs.declared.settling.Stop.{Stop}
use Rattle.thread_run.specs.declared.settling.Stop.TheVariants as stops
use Rattle.thread_run.specs.declared.settling.Worker.{Worker}
use Rattle.thread_run.specs.declared.settling.Worker.TheVariants as workers

abbrev pub aim_of : Worker → Aim
aim_of (workers.Deleting worker) = Deleting
aim_of (workers.Merging merger) = Merging

-- what it holds
abbrev pub place_of : Worker → HeldPlace
place_of (workers.Deleting worker) = worker.place
place_of (workers.Merging merger) = merger.place

abbrev pub IsIdle : HeldPlace → Type 0
IsIdle place = place ≡ places.Idle

-- whether a step that answered so found something to do, or why the worker goes on no more
abbrev pub went_on : Told → Result Bool Stop
went_on (Ok said.Nothing) = Ok false
went_on (Ok (said.Planned count)) = Ok true
went_on (Ok (said.Fetched number)) = Ok true
went_on (Ok (said.Staged number)) = Ok true
went_on (Ok (said.Uploaded number)) = Ok true
went_on (Ok (said.Replaced number)) = Ok true
went_on (Ok (said.Raised number)) = Ok true
went_on (Ok (said.Lost number refusal)) = Ok true
went_on (Ok (said.Refused refusal)) = Err (stops.Refused refusal)
went_on (Ok (said.Fault error)) = Err (stops.Fault error)
went_on (Err refused) = Err (stops.Memory refused)

-- why it goes on no more
abbrev pub IsStop : Stop → (core after : Core) → Type 0
IsStop (stops.Refused refusal) core after = HadWork core after × IsCrowded after.history refusal
IsStop (stops.Fault error) core after = IsHindered error core after
IsStop (stops.Memory refused) core after = ⊤

-- A worker that did nothing left a core of which nothing was unsure as it was; one that did something made an entry.
abbrev pub Worked : Bool → (core after : Core) → Type 0
Worked false core after = core.unsure ≡ false → after ≡ core
Worked true core after = HadWork core after × (length core.history < length after.history)

-- it found nothing to do in the end, and nothing is unsure
pub record HasRested (aim : Aim) (worked : Bool) (core after : Core) : Type 0 where
  pub none : rows_in aim after ≡ []
  pub sure : after.unsure ≡ false
  pub worked_is : Worked worked core after

abbrev pub RestsBy : Aim → Result Bool Stop → (core after : Core) → Type 0
RestsBy aim (Ok worked) core after = HasRested aim worked core after
RestsBy aim (Err stop) core after = IsStop stop core after

-- what a worker did from a core on, up to where it led
pub record Rests (aim : Aim) (result : Result Bool Stop) (core : Core) (log : Log) (new : Keeping) : Type 0 where
  pub after : Core
  pub works : WorksFrom aim log core after
  pub goes_on : GoesFor Nobody core after
  pub stands : WorldStands new after log
  pub unasked : IsUnasked core.moment after
  pub ended : RestsBy aim result core after

abbrev pub RestsAllBy : Result (Unit {0}) Stop → (core after : Core) → Type 0
RestsAllBy (Ok done) core after = IsAtRest after.history after.moment × (after.unsure ≡ false)
RestsAllBy (Err stop) core after = IsStop stop core after

-- what both did
pub record RestsAll (result : Result (Unit {0}) Stop) (core : Core) (log : Log) (new : Keeping) : Type 0 where
  pub after : Core
  pub works : WorksByTurns log core after
  pub goes_on : GoesFor Nobody core after
  pub stands : WorldStands new after log
  pub unasked : IsUnasked core.moment after
  pub ended : RestsAllBy result core after
