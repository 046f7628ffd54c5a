-- What a step of a merger or a delete worker says where it has nothing to do, is refused or fails, and what it leaves.
use Rattle.std.proofs.Common.{◌≡◌, ℕ, ◌≤◌, Bool, true, false, List, [], ◌∷◌, refl}
use Rattle.std.specs.Prelude.{Option, Some, None, Result, Ok, Err, ⊤, if◌then◌else◌}
use Rattle.index_config.specs.declared.config.IndexConfig.{IndexConfig}
use Rattle.meta_journal.specs.Places.{split_key}
use Rattle.meta_journal.specs.declared.entry.Act.TheVariants.{Raise, Replace}
use Rattle.meta_store.specs.declared.refusal.Refusal.{Refusal}
use Rattle.source_log.specs.Log.{Log}
use Rattle.split_states.specs.declared.facts.RowFacts.{RowFacts}
use Rattle.split_states.specs.declared.rows.Row.{Row}
use Rattle.index_world.specs.Calls.{Fault, store_fault, is_foreign, is_full, is_expired, Trouble, faulted, no_memory, Unmade, refused, troubled, answer_behind, asked_and_looked, entry_of, fetched, upload_made}
use Rattle.index_world.specs.Core.{Core}
use Rattle.index_world.specs.Gate.{raise_call, replace_call, stage_act, stage_call}
use Rattle.upkeep_run.specs.Outcomes.{UpkeepOutcome}
use Rattle.upkeep_run.specs.Outcomes as said
use Rattle.upkeep_run.specs.Places.{Work, WorkerHeld, WorkerPlace, fetching, held_facts, held_file, idle, staged, until_of, uploaded}
use Rattle.upkeep_run.specs.Steps.{Stepped, WorkerLuck, config_in, drops_none, fetch_by, first_number, grace_in, held_of, or_short, plan_by, plan_with, raise_by, replace_by, rows_in, stage_by, step_close, step_place, step_raise, step_stage, step_work, step_worker, trouble_outcome, upload_by, work_in}
use Rattle.upkeep_run.specs.declared.work.Aim.{Aim}
use Rattle.upkeep_run.specs.declared.work.Aim.TheVariants.{Deleting, Merging}
use Rattle.call_laws.proofs.CallTells.{IsLowCore, asked_and_looked_own}
use Rattle.thread_run.proofs.CallsSay.{FaultAt, FetchAt, Fails, TroubleAt, Unfetches, Unmakes, entry_fails, fetch_fails, file_fails, store_fails}
use Rattle.thread_run.proofs.Low.{appended_low, asked_and_looked_low, fetched_alone_low, file_made_low}

-- a plan's files are fetched under this configuration, and it was made at this moment or later
abbrev pub IsGood : IndexConfig → (least : ℕ) → WorkerPlace → Type 0
IsGood config least idle = ⊤
IsGood config least (fetching work) = (work.config ≡ config) × (least ≤ work.moment)
IsGood config least (staged held) = ⊤
IsGood config least (uploaded held) = ⊤

-- it had nothing to do where it is idle and its plan has no row
abbrev pub IsIdleThen : Aim → WorkerPlace → Core → Type 0
IsIdleThen aim idle core = rows_in aim core ≡ []
IsIdleThen aim (fetching work) core = ⊥
IsIdleThen aim (staged held) core = ⊥
IsIdleThen aim (uploaded held) core = ⊥

-- a fetch fails by the grace of its plan
abbrev pub FaultsAt : WorkerPlace → Core → Fault → Type 0
FaultsAt (fetching work) core (is_expired planned_at now) = (planned_at ≡ work.moment) × (until_of work ≤ now) × (now ≡ core.moment)
FaultsAt place core fault = FaultAt core fault

-- a row without records of its own was refused by what was taken in
abbrev pub IsUnstaged : Core → Refusal → Type 0
IsUnstaged core refusal = (facts : RowFacts) × (answer_behind core.history (entry_of (stage_act [] facts core) core) ≡ Err refusal)

abbrev pub Says : Aim → WorkerPlace → Core → Option UpkeepOutcome → Type 0
Says aim place core None = ⊤
Says aim place core (Some said.Nothing) = IsIdleThen aim place core
Says aim place core (Some (said.Planned count)) = ⊤
Says aim place core (Some (said.Fetched number)) = ⊤
Says aim place core (Some (said.Staged number)) = ⊤
Says aim place core (Some (said.Uploaded number)) = ⊤
Says aim place core (Some (said.Replaced number)) = ⊤
Says aim place core (Some (said.Raised number)) = ⊤
Says aim place core (Some (said.Lost number refusal)) = ⊤
Says aim place core (Some (said.Refused refusal)) = IsUnstaged core refusal
Says aim place core (Some (said.Faulted fault)) = FaultsAt place core fault

pub record IsStep (config : IndexConfig) (least : ℕ) (aim : Aim) (place : WorkerPlace) (step : Stepped) : Type 0 where
  pub says : Says aim place step.core step.outcome
  pub low : IsLowCore step.core
  pub good : config_in step.core ≡ config → least ≤ step.core.moment → IsGood config least step.place

-- a fault that is none of a fetch
at_place : (place : WorkerPlace) (core : Core) (fault : Fault) → FaultAt core fault → FaultsAt place core fault
at_place idle core fault h = h
at_place (fetching work) core (store_fault before now) h = h
at_place (fetching work) core (is_foreign key) h = h
at_place (fetching work) core is_full h = h
at_place (fetching work) core (is_expired planned_at now) h = absurd h
at_place (staged held) core fault h = h
at_place (uploaded held) core fault h = h

trouble_says : (aim : Aim) (place : WorkerPlace) (core : Core) (trouble : Trouble) → TroubleAt core trouble → Says aim place core (trouble_outcome trouble)
trouble_says aim place core (faulted fault) h = at_place place core fault h
trouble_says aim place core no_memory h = tt

fetch_says : (aim : Aim) (work : Work) (core : Core) (trouble : Trouble) → FetchAt (grace_in work) core trouble → Says aim (fetching work) core (trouble_outcome trouble)
fetch_says aim work core (faulted (store_fault before now)) h = h
fetch_says aim work core (faulted (is_foreign key)) h = absurd h
fetch_says aim work core (faulted is_full) h = absurd h
fetch_says aim work core (faulted (is_expired planned_at now)) h = h
fetch_says aim work core no_memory h = tt

module _ (config : IndexConfig) (least : ℕ) (luck : WorkerLuck) (log : Log) (core : Core) (low : IsLowCore core) (aim : Aim) where
  abbrev Steps : WorkerPlace → Stepped → Type 0
  Steps place step = IsStep config least aim place step

  rows_step : (rows : List Row) (c : Core) → rows_in aim c ≡ rows → IsLowCore c → Steps idle (plan_with rows (work_in aim log c) c)
  rows_step [] c is l = record { says = is; low = l; good = λ k m. tt }
  rows_step (row ∷ rows) c is l = record { says = tt; low = l; good = λ k m. (k, m) }

  plan_step : (r : Result ⊤ Trouble) (c : Core) → Fails c r → IsLowCore c → Steps idle (plan_by aim r log c)
  plan_step (Ok done) c f l = rows_step (rows_in aim c) c refl l
  plan_step (Err trouble) c f l = record { says = trouble_says aim idle c trouble f; low = l; good = λ k m. tt }

  module _ (work : Work) (good : IsGood config least (fetching work)) where
    fetch_step : (r : Result ⊤ Trouble) (number : ℕ) (more : List Row) (c : Core) → Unfetches (grace_in work) c r → IsLowCore c → Steps (fetching work) (fetch_by r work number more c)
    fetch_step (Ok done) number more c f l = record { says = tt; low = l; good = λ k m. good }
    fetch_step (Err trouble) number more c f l = record { says = fetch_says aim work c trouble f; low = l; good = λ k m. tt }

    stage_step : (r : Result ⊤ Unmade) (held : ℕ → WorkerHeld) (c : Core) → Unmakes (stage_act [] (held_facts (held 0))) c r → IsLowCore c → Steps (fetching work) (stage_by r held c)
    stage_step (Ok done) held c u l = record { says = tt; low = l; good = λ k m. tt }
    stage_step (Err (refused refusal)) held c u l = record { says = (held_facts (held 0), u); low = l; good = λ k m. tt }
    stage_step (Err (troubled trouble)) held c u l = record { says = trouble_says aim (fetching work) c trouble u; low = l; good = λ k m. tt }

    staged_step : (held : ℕ → WorkerHeld) → Steps (fetching work) (step_stage luck held core)
    staged_step held =
        let act = stage_act [] (held_facts (held 0)) in
        let given = stage_call [] (held_facts (held 0)) luck.world core in
        stage_step given.answer held given.core (entry_fails act luck.world core low) (appended_low act luck.world core low)

    raise_step : (r : Result ⊤ Unmade) (number upto : ℕ) (c : Core) → Unmakes (λ core. Raise number upto) c r → IsLowCore c → Steps (fetching work) (raise_by r number c)
    raise_step (Ok done) number upto c u l = record { says = tt; low = l; good = λ k m. tt }
    raise_step (Err (refused refusal)) number upto c u l = record { says = tt; low = l; good = λ k m. tt }
    raise_step (Err (troubled trouble)) number upto c u l = record { says = trouble_says aim (fetching work) c trouble u; low = l; good = λ k m. tt }

    raised_step : (number upto : ℕ) → Steps (fetching work) (step_raise luck number upto core)
    raised_step number upto =
        let given = raise_call number upto luck.world core in
        raise_step given.answer number upto given.core (entry_fails (λ c. Raise number upto) luck.world core low) (appended_low (λ c. Raise number upto) luck.world core low)

    either_step : (b : Bool) (x y : Stepped) → Steps (fetching work) x → Steps (fetching work) y → Steps (fetching work) (if b then x else y)
    either_step true x y p q = p
    either_step false x y p q = q

    close_step : (which : Aim) → Steps (fetching work) (step_close which luck work core)
    close_step Merging = staged_step (held_of Merging work core)
    close_step Deleting =
        either_step (drops_none work core) (step_raise luck (first_number work.rows) work.upto core) (step_stage luck (held_of Deleting work core) core) (raised_step (first_number work.rows) work.upto)
        (staged_step (held_of Deleting work core))

    work_step : (unfetched : List Row) → Steps (fetching work) (step_work aim luck work unfetched core)
    work_step [] = close_step aim
    work_step (row ∷ more) =
        let given = fetched (grace_in work) luck.world core in
        fetch_step given.answer row.number more given.core (fetch_fails (grace_in work) luck.world core) (fetched_alone_low (grace_in work) luck.world core low)

  upload_step : (r : Result ⊤ Trouble) (held : WorkerHeld) (c : Core) → Fails c r → IsLowCore c → Steps (staged held) (upload_by r held c)
  upload_step (Ok done) held c f l = record { says = tt; low = l; good = λ k m. tt }
  upload_step (Err trouble) held c f l = record { says = trouble_says aim (staged held) c trouble f; low = l; good = λ k m. tt }

  replace_step : (r : Result ⊤ Unmade) (held : WorkerHeld) (c : Core) → Unmakes (λ core. Replace held.number held.old held.upto) c r → IsLowCore c → Steps (uploaded held) (replace_by r held.number c)
  replace_step (Ok done) held c u l = record { says = tt; low = l; good = λ k m. tt }
  replace_step (Err (refused refusal)) held c u l = record { says = tt; low = l; good = λ k m. tt }
  replace_step (Err (troubled trouble)) held c u l = record { says = trouble_says aim (uploaded held) c trouble u; low = l; good = λ k m. tt }

  place_step : (place : WorkerPlace) → IsGood config least place → Steps place (step_place aim place luck log core)
  place_step idle good =
      let given = asked_and_looked luck.world core in
      plan_step given.answer given.core (store_fails given.core given.answer (asked_and_looked_own luck.world core)) (asked_and_looked_low luck.world core low)
  place_step (fetching work) good = work_step work good work.unfetched
  place_step (staged held) good =
      let given = upload_made luck.world held.number (held_file held) core in
      upload_step given.answer held given.core (file_fails luck.world.first held.number (held_file held) core) (file_made_low luck.world.first (split_key held.number) (held_file held) core low)
  place_step (uploaded held) good =
      let given = replace_call held.number held.old held.upto luck.world core in
      replace_step given.answer held given.core (entry_fails (λ c. Replace held.number held.old held.upto) luck.world core low) (appended_low (λ c. Replace held.number held.old held.upto) luck.world core low)

  short_step : (short : Bool) (place : WorkerPlace) (step : Stepped) → Steps place step → Steps place (or_short short step)
  short_step true place step s = record { says = tt; low = s.low; good = λ k m. tt }
  short_step false place step s = s

  pub step_is : (place : WorkerPlace) → IsGood config least place → Steps place (step_worker aim luck log place core)
  step_is place good = short_step luck.short place (step_place aim place luck log core) (place_step place good)
