-- What a worker's step tells over a sound index: no key is foreign, and a merger raises no row.
use Rattle.std.proofs.Common.{ℕ, Bool, true, false, List, [], ◌∷◌, length, sym, subst}
use Rattle.std.specs.Prelude.{Option, Some, None, Result, Ok, Err, ⊤, if◌then◌else◌}
use Rattle.meta_journal.specs.Places.{split_key}
use Rattle.meta_journal.specs.declared.entry.Act.TheVariants.{Raise, Replace}
use Rattle.source_log.specs.Log.{Log}
use Rattle.split_states.specs.declared.rows.Row.{Row}
use Rattle.index_world.specs.Calls.{Fault, Trouble, Unmade, asked_and_looked, faulted, fetched, is_expired, is_foreign, is_full, no_memory, refused, store_fault, troubled, upload_made}
use Rattle.index_world.specs.Core.{Core}
use Rattle.index_world.specs.Gate.{raise_call, replace_call, stage_act, stage_call}
use Rattle.upkeep_run.specs.Outcomes.{UpkeepOutcome}
use Rattle.upkeep_run.specs.Places.{WorkerHeld, WorkerPlace, Work, fetching, held_facts, held_file, idle, staged, uploaded}
use Rattle.upkeep_run.specs.Standing.{PlaceStands}
use Rattle.upkeep_run.specs.Steps.{WorkerLuck, Stepped, drops_none, fetch_by, first_number, grace_in, held_of, or_short, plan_by, plan_with, raise_by, replace_by, rows_in, stage_by, step_close, step_place, step_raise, step_stage, step_work, step_worker, trouble_outcome, upload_by, work_in}
use Rattle.upkeep_run.specs.declared.work.Aim.{Aim}
use Rattle.upkeep_run.specs.declared.work.Aim.TheVariants.{Deleting, Merging}
use Rattle.upkeep_run.specs.declared.work.WorkerPlace.{WorkerPlace as HeldPlace}
use Rattle.upkeep_run.specs.declared.work.WorkerPlace.TheVariants as places
use Rattle.call_laws.specs.Faults.{IsNotForeign, IsOfStore}
use Rattle.node_run.specs.Telling.{IsOfWork, WorkerMayTell}
use Rattle.call_laws.proofs.CallTells.{AreLow, IfErr, IsFetchTrouble, IsFree, IsOwnTrouble, IsStoreTrouble, appended_own, asked_and_looked_own, fetched_own, file_own}

abbrev pub WorkTells : Aim → Option UpkeepOutcome → Type 0
WorkTells aim None = Unit {0}
WorkTells aim (Some outcome) = WorkerMayTell aim outcome

-- ---- why a call gave nothing

store_of_work : (fault : Fault) → IsOfStore fault → IsOfWork fault
store_of_work (store_fault before after) h = tt
store_of_work (is_foreign key) h = h
store_of_work is_full h = tt
store_of_work (is_expired planned_at now) h = tt

own_of_work : (fault : Fault) → IsNotForeign fault → IsOfWork fault
own_of_work (store_fault before after) h = tt
own_of_work (is_foreign key) h = h
own_of_work is_full h = tt
own_of_work (is_expired planned_at now) h = tt

module _ (aim : Aim) where
  store_tells : (trouble : Trouble) → IsStoreTrouble trouble → WorkTells aim (trouble_outcome trouble)
  store_tells (faulted fault) h = store_of_work fault h
  store_tells no_memory h = tt

  fetch_tells : (trouble : Trouble) → IsFetchTrouble trouble → WorkTells aim (trouble_outcome trouble)
  fetch_tells (faulted (store_fault before after)) h = tt
  fetch_tells (faulted (is_foreign key)) h = h
  fetch_tells (faulted is_full) h = tt
  fetch_tells (faulted (is_expired planned_at now)) h = tt
  fetch_tells no_memory h = tt

  own_tells : (trouble : Trouble) → IsOwnTrouble (troubled trouble) → WorkTells aim (trouble_outcome trouble)
  own_tells (faulted fault) h = own_of_work fault h
  own_tells no_memory h = tt

  -- ---- behind a call

  rows_tell : (rows : List Row) (work : Work) (core : Core) → WorkTells aim (plan_with rows work core).outcome
  rows_tell [] work core = tt
  rows_tell (row ∷ rows) work core = tt

  plan_tells : (r : Result ⊤ Trouble) (log : Log) (core : Core) → IfErr IsStoreTrouble r → WorkTells aim (plan_by aim r log core).outcome
  plan_tells (Ok done) log core h = rows_tell (rows_in aim core) (work_in aim log core) core
  plan_tells (Err trouble) log core h = store_tells trouble h

  fetched_tells : (r : Result ⊤ Trouble) (work : Work) (number : ℕ) (more : List Row) (core : Core) → IfErr IsFetchTrouble r → WorkTells aim (fetch_by r work number more core).outcome
  fetched_tells (Ok done) work number more core h = tt
  fetched_tells (Err trouble) work number more core h = fetch_tells trouble h

  staged_tells : (r : Result ⊤ Unmade) (held : ℕ → WorkerHeld) (core : Core) → IfErr IsOwnTrouble r → WorkTells aim (stage_by r held core).outcome
  staged_tells (Ok done) held core h = tt
  staged_tells (Err (refused refusal)) held core h = tt
  staged_tells (Err (troubled trouble)) held core h = own_tells trouble h

  uploaded_tells : (r : Result ⊤ Trouble) (held : WorkerHeld) (core : Core) → IfErr IsStoreTrouble r → WorkTells aim (upload_by r held core).outcome
  uploaded_tells (Ok done) held core h = tt
  uploaded_tells (Err trouble) held core h = store_tells trouble h

  replaced_tells : (r : Result ⊤ Unmade) (number : ℕ) (core : Core) → IfErr IsOwnTrouble r → WorkTells aim (replace_by r number core).outcome
  replaced_tells (Ok done) number core h = tt
  replaced_tells (Err (refused refusal)) number core h = tt
  replaced_tells (Err (troubled trouble)) number core h = own_tells trouble h

  short_tells : (b : Bool) (step : Stepped) → WorkTells aim step.outcome → WorkTells aim (or_short b step).outcome
  short_tells true step h = tt
  short_tells false step h = h

raised_tells : (r : Result ⊤ Unmade) (number : ℕ) (core : Core) → IfErr IsOwnTrouble r → WorkTells Deleting (raise_by r number core).outcome
raised_tells (Ok done) number core h = tt
raised_tells (Err (refused refusal)) number core h = tt
raised_tells (Err (troubled trouble)) number core h = own_tells Deleting trouble h

-- ---- a step

-- nothing stands under the key of the file that it is about to make
abbrev pub WorkerIsFree : Core → WorkerPlace → Type 0
WorkerIsFree core idle = Unit {0}
WorkerIsFree core (fetching work) = Unit {0}
WorkerIsFree core (staged held) = IsFree core (split_key held.number)
WorkerIsFree core (uploaded held) = Unit {0}

choice_tells : (aim : Aim) (b : Bool) (x y : Stepped) → WorkTells aim x.outcome → WorkTells aim y.outcome → WorkTells aim (if b then x else y).outcome
choice_tells aim true x y h k = h
choice_tells aim false x y h k = k

module _ (luck : WorkerLuck) (log : Log) (core : Core) (low : AreLow (length core.history) core) where
  stage_tells : (aim : Aim) (held : ℕ → WorkerHeld) → WorkTells aim (step_stage luck held core).outcome
  stage_tells aim held =
      let given = stage_call [] (held_facts (held 0)) luck.world core in
      staged_tells aim given.answer held given.core (appended_own luck.world (stage_act [] (held_facts (held 0))) core low)

  raise_tells : (number upto : ℕ) → WorkTells Deleting (step_raise luck number upto core).outcome
  raise_tells number upto =
      let given = raise_call number upto luck.world core in
      raised_tells given.answer number given.core (appended_own luck.world (λ c. Raise number upto) core low)

  close_tells : (aim : Aim) (work : Work) → WorkTells aim (step_close aim luck work core).outcome
  close_tells Merging work = stage_tells Merging (held_of Merging work core)
  close_tells Deleting work =
      choice_tells Deleting (drops_none work core) (step_raise luck (first_number work.rows) work.upto core) (step_stage luck (held_of Deleting work core) core)
      (raise_tells (first_number work.rows) work.upto) (stage_tells Deleting (held_of Deleting work core))

  work_tells : (aim : Aim) (work : Work) (unfetched : List Row) → WorkTells aim (step_work aim luck work unfetched core).outcome
  work_tells aim work [] = close_tells aim work
  work_tells aim work (row ∷ more) =
      let given = fetched (grace_in work) luck.world core in
      fetched_tells aim given.answer work row.number more given.core (fetched_own (grace_in work) luck.world core)

  place_tells : (aim : Aim) (place : WorkerPlace) → WorkerIsFree core place → WorkTells aim (step_place aim place luck log core).outcome
  place_tells aim idle free =
      let given = asked_and_looked luck.world core in
      plan_tells aim given.answer log given.core (asked_and_looked_own luck.world core)
  place_tells aim (fetching work) free = work_tells aim work work.unfetched
  place_tells aim (staged held) free =
      let given = upload_made luck.world held.number (held_file held) core in
      uploaded_tells aim given.answer held given.core (file_own luck.world.first (split_key held.number) (held_file held) core free)
  place_tells aim (uploaded held) free =
      let given = replace_call held.number held.old held.upto luck.world core in
      replaced_tells aim given.answer held.number given.core (appended_own luck.world (λ c. Replace held.number held.old held.upto) core low)

  pub worker_tells : (aim : Aim) (place : WorkerPlace) → WorkerIsFree core place → WorkTells aim (step_worker aim luck log place core).outcome
  worker_tells aim place free = short_tells aim luck.short (step_place aim place luck log core) (place_tells aim place free)

-- ---- a worker of the code

pub worker_free : (aim : Aim) (log : Log) (core : Core) (kept : HeldPlace) (place : WorkerPlace) → PlaceStands aim log core kept place → WorkerIsFree core place
worker_free aim log core places.Idle place s = subst (WorkerIsFree core) (sym s) tt
worker_free aim log core (places.Fetching held) place s = subst (WorkerIsFree core) (sym s.1) tt
worker_free aim log core (places.Staged plan token bytes) place s =
    subst (WorkerIsFree core) (sym s.1) (record { absent = s.5.unused.absent; not_late = s.5.unused.not_late })
worker_free aim log core (places.Uploaded plan token) place s = subst (WorkerIsFree core) (sym s.1) tt
