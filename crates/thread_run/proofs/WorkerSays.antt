-- What is told of a worker's call leaves the core as it is, and where a worker's place stands, the file that it is about to make has a free key.
use Rattle.std.proofs.Common.{◌≡◌, ℕ, List, [], ◌∷◌, refl, sym, subst}
use Rattle.std.specs.Prelude.{Result, Ok, Err, ⊤}
use Rattle.meta_journal.specs.Places.{split_key}
use Rattle.source_log.specs.Log.{Log}
use Rattle.split_states.specs.declared.rows.Row.{Row}
use Rattle.index_world.specs.Calls.{Trouble, Unmade}
use Rattle.index_world.specs.Core.{Core}
use Rattle.upkeep_run.specs.Places.{WorkerHeld, WorkerPlace, Work, fetching, idle, staged, uploaded}
use Rattle.upkeep_run.specs.Steps.{fetch_by, plan_by, plan_with, raise_by, replace_by, rows_in, stage_by, upload_by, work_in}
use Rattle.upkeep_run.specs.declared.work.Aim.{Aim}
use Rattle.upkeep_run.specs.Standing.{PlaceStands}
use Rattle.upkeep_run.specs.declared.work.WorkerPlace.{WorkerPlace as HeldPlace}
use Rattle.upkeep_run.specs.declared.work.WorkerPlace.TheVariants as places
use Rattle.call_laws.proofs.CallTells.{IsFree}

rows_same : (rows : List Row) (work : Work) (core : Core) → (plan_with rows work core).core ≡ core
rows_same [] work core = refl
rows_same (row ∷ rows) work core = refl

pub planned_same : (aim : Aim) (r : Result ⊤ Trouble) (log : Log) (core : Core) → (plan_by aim r log core).core ≡ core
planned_same aim (Ok done) log core = rows_same (rows_in aim core) (work_in aim log core) core
planned_same aim (Err trouble) log core = refl

pub fetched_same : (r : Result ⊤ Trouble) (work : Work) (number : ℕ) (more : List Row) (core : Core) → (fetch_by r work number more core).core ≡ core
fetched_same (Ok done) work number more core = refl
fetched_same (Err trouble) work number more core = refl

pub staged_same : (r : Result ⊤ Unmade) (held : ℕ → WorkerHeld) (core : Core) → (stage_by r held core).core ≡ core
staged_same (Ok done) held core = refl
staged_same (Err unmade) held core = refl

pub raised_same : (r : Result ⊤ Unmade) (number : ℕ) (core : Core) → (raise_by r number core).core ≡ core
raised_same (Ok done) number core = refl
raised_same (Err unmade) number core = refl

pub uploaded_same : (r : Result ⊤ Trouble) (held : WorkerHeld) (core : Core) → (upload_by r held core).core ≡ core
uploaded_same (Ok done) held core = refl
uploaded_same (Err trouble) held core = refl

pub replaced_same : (r : Result ⊤ Unmade) (number : ℕ) (core : Core) → (replace_by r number core).core ≡ core
replaced_same (Ok done) number core = refl
replaced_same (Err unmade) number core = refl

-- nothing stands under the key of the file that it is about to make
abbrev pub WorkerIsFree : Core → WorkerPlace → Type 0
WorkerIsFree core idle = Unit {0}
WorkerIsFree core (fetching work) = Unit {0}
WorkerIsFree core (staged held) = IsFree core (split_key held.number)
WorkerIsFree core (uploaded held) = Unit {0}

pub worker_free : (aim : Aim) (log : Log) (core : Core) (kept : HeldPlace) (place : WorkerPlace) → PlaceStands aim log core kept place → WorkerIsFree core place
worker_free aim log core places.Idle place s = subst (WorkerIsFree core) (sym s) tt
worker_free aim log core (places.Fetching held) place s = subst (WorkerIsFree core) (sym s.1) tt
worker_free aim log core (places.Staged plan token bytes) place s =
    subst (WorkerIsFree core) (sym s.1) (record { absent = s.5.unused.absent; not_late = s.5.unused.not_late })
worker_free aim log core (places.Uploaded plan token) place s = subst (WorkerIsFree core) (sym s.1) tt
