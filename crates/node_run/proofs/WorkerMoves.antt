-- Whatever lands and fails, a worker's step moves the core as a call of the world does.
use Rattle.std.proofs.Common.{◌≡◌, ℕ, List, [], ◌∷◌, refl, Bool, true, false}
use Rattle.std.specs.Prelude.{Result, Ok, Err, ⊤, if◌then◌else◌}
use Rattle.meta_journal.specs.Places.{split_key}
use Rattle.meta_journal.specs.declared.entry.Act.TheVariants.{Raise, Replace}
use Rattle.source_log.specs.Log.{Log}
use Rattle.split_states.specs.declared.rows.Row.{Row}
use Rattle.index_world.specs.Calls.{Trouble, Unmade}
use Rattle.index_world.specs.Core.{Core}
use Rattle.index_world.specs.Gate.{stage_act}
use Rattle.upkeep_run.specs.Places.{WorkerHeld, WorkerPlace, Work, fetching, held_facts, held_file, idle, staged, uploaded}
use Rattle.upkeep_run.specs.Steps.{WorkerLuck, Stepped, drops_none, fetch_by, first_number, grace_in, held_of, or_short, plan_by, plan_with, raise_by, replace_by, rows_in, stage_by, step_close, step_place, step_raise, step_stage, step_work, step_worker, upload_by, work_in}
use Rattle.upkeep_run.specs.declared.work.Aim.{Aim}
use Rattle.upkeep_run.specs.declared.work.Aim.TheVariants.{Deleting, Merging}
use Rattle.call_laws.proofs.CallMoves.{Moves, same, moves_on, appended_moves, asked_and_looked_moves, fetched_moves, file_made_moves}

-- ---- what is told of a call leaves the core as it is

rows_same : (rows : List Row) (work : Work) (core : Core) → (plan_with rows work core).core ≡ core
rows_same [] work core = refl
rows_same (row ∷ rows) work core = refl

pub planned_same : (aim : Aim) (r : Result ⊤ Trouble) (log : Log) (core : Core) → (plan_by aim r log core).core ≡ core
planned_same aim (Ok done) log core = rows_same (rows_in aim core) (work_in aim log core) core
planned_same aim (Err trouble) log core = refl

pub fetched_same : (r : Result ⊤ Trouble) (work : Work) (number : ℕ) (more : List Row) (core : Core) → (fetch_by r work number more core).core ≡ core
fetched_same (Ok done) work number more core = refl
fetched_same (Err trouble) work number more core = refl

pub staged_same : (r : Result ⊤ Unmade) (held : ℕ → WorkerHeld) (core : Core) → (stage_by r held core).core ≡ core
staged_same (Ok done) held core = refl
staged_same (Err unmade) held core = refl

pub raised_same : (r : Result ⊤ Unmade) (number : ℕ) (core : Core) → (raise_by r number core).core ≡ core
raised_same (Ok done) number core = refl
raised_same (Err unmade) number core = refl

pub uploaded_same : (r : Result ⊤ Trouble) (held : WorkerHeld) (core : Core) → (upload_by r held core).core ≡ core
uploaded_same (Ok done) held core = refl
uploaded_same (Err trouble) held core = refl

pub replaced_same : (r : Result ⊤ Unmade) (number : ℕ) (core : Core) → (replace_by r number core).core ≡ core
replaced_same (Ok done) number core = refl
replaced_same (Err unmade) number core = refl

short_same : (b : Bool) (step : Stepped) → (or_short b step).core ≡ step.core
short_same true step = refl
short_same false step = refl

-- ---- a step

choice_moves : {core : Core} (b : Bool) (x y : Stepped) → Moves core x.core → Moves core y.core → Moves core (if b then x else y).core
choice_moves true x y m n = m
choice_moves false x y m n = n

module _ (luck : WorkerLuck) (log : Log) (core : Core) where
  stage_moves : (held : ℕ → WorkerHeld) → Moves core (step_stage luck held core).core
  stage_moves held = moves_on (appended_moves luck.world (stage_act [] (held_facts (held 0))) core) (same (staged_same _ held _))

  raise_moves : (number upto : ℕ) → Moves core (step_raise luck number upto core).core
  raise_moves number upto = moves_on (appended_moves luck.world (λ c. Raise number upto) core) (same (raised_same _ number _))

  close_moves : (aim : Aim) (work : Work) → Moves core (step_close aim luck work core).core
  close_moves Merging work = stage_moves (held_of Merging work core)
  close_moves Deleting work = choice_moves (drops_none work core) _ _ (raise_moves (first_number work.rows) work.upto) (stage_moves (held_of Deleting work core))

  work_moves : (aim : Aim) (work : Work) (unfetched : List Row) → Moves core (step_work aim luck work unfetched core).core
  work_moves aim work [] = close_moves aim work
  work_moves aim work (row ∷ more) = moves_on (fetched_moves (grace_in work) luck.world core) (same (fetched_same _ work row.number more _))

  place_moves : (aim : Aim) (place : WorkerPlace) → Moves core (step_place aim place luck log core).core
  place_moves aim idle = moves_on (asked_and_looked_moves luck.world core) (same (planned_same aim _ log _))
  place_moves aim (fetching work) = work_moves aim work work.unfetched
  place_moves aim (staged held) = moves_on (file_made_moves luck.world.first (split_key held.number) (held_file held) core) (same (uploaded_same _ held _))
  place_moves aim (uploaded held) = moves_on (appended_moves luck.world (λ c. Replace held.number held.old held.upto) core) (same (replaced_same _ held.number _))

  pub worker_moves : (aim : Aim) (place : WorkerPlace) → Moves core (step_worker aim luck log place core).core
  worker_moves aim place = moves_on (place_moves aim place) (same (short_same luck.short _))
