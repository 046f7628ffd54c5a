-- Where the count stands still and nothing is late, a worker's step is that with a calm luck, or finds no memory.
use Rattle.std.proofs.Common.{◌≡◌, ◌⊎◌, ℕ, List, [], ◌∷◌, sym, ap, ◌∙◌, Bool, true, false, inl, inr, refl}
use Rattle.std.specs.Prelude.{None, ⊤, if◌then◌else◌}
use Rattle.meta_journal.specs.Places.{split_key}
use Rattle.meta_journal.specs.declared.entry.Act.TheVariants.{Raise, Replace}
use Rattle.source_log.specs.Log.{Log}
use Rattle.split_states.specs.declared.rows.Row.{Row}
use Rattle.index_world.specs.Calls.{Gives, Trouble, Unmade, asked_and_looked, calm_call, calm_fate, fetched, file_made, no_memory, troubled, upload_made}
use Rattle.index_world.specs.Core.{Core}
use Rattle.index_world.specs.Gate.{raise_call, replace_call, stage_act, stage_call}
use Rattle.upkeep_run.specs.Places.{WorkerHeld, WorkerPlace, Work, fetching, held_facts, held_file, idle, staged, uploaded}
use Rattle.upkeep_run.specs.Steps.{WorkerLuck, Stepped, drops_none, fetch_by, fetch_given, first_number, grace_in, held_of, or_short, plan_by, plan_given, raise_by, raise_given, replace_by, replace_given, stage_by, stage_given, step_close, step_place, step_raise, step_stage, step_work, step_worker, upload_by, upload_given}
use Rattle.upkeep_run.specs.declared.work.Aim.{Aim}
use Rattle.upkeep_run.specs.declared.work.Aim.TheVariants.{Deleting, Merging}
use Rattle.node_run.specs.Calm.{IsStill}
use Rattle.node_run.specs.Turns.{calm, working_luck}
use Rattle.node_run.proofs.Calming.{Calms, Same, appended_calms, asked_and_looked_calms, fetched_calms, file_made_calms}
use Rattle.node_run.proofs.WorkerMoves.{fetched_same, planned_same, raised_same, replaced_same, staged_same, uploaded_same}

abbrev pub WorkCalms : Stepped → Stepped → Type 0
WorkCalms step calm_step = (step.outcome ≡ None) ⊎ (step ≡ calm_step)

abbrev pub calm_working : WorkerLuck
calm_working = working_luck calm

-- ---- behind a call

plan_calms : (aim : Aim) (log : Log) (g g' : Gives Trouble ⊤) → Calms no_memory g g' → WorkCalms (plan_given aim log g) (plan_given aim log g')
plan_calms aim log g g' (inl e) = inl (ap (λ r. (plan_by aim r log g.core).outcome) e)
plan_calms aim log g g' (inr e) = inr (ap (plan_given aim log) e)

fetch_calms : (work : Work) (number : ℕ) (more : List Row) (g g' : Gives Trouble ⊤) → Calms no_memory g g' → WorkCalms (fetch_given work number more g) (fetch_given work number more g')
fetch_calms work number more g g' (inl e) = inl (ap (λ r. (fetch_by r work number more g.core).outcome) e)
fetch_calms work number more g g' (inr e) = inr (ap (fetch_given work number more) e)

stage_calms : (held : ℕ → WorkerHeld) (g g' : Gives Unmade ⊤) → Calms (troubled no_memory) g g' → WorkCalms (stage_given held g) (stage_given held g')
stage_calms held g g' (inl e) = inl (ap (λ r. (stage_by r held g.core).outcome) e)
stage_calms held g g' (inr e) = inr (ap (stage_given held) e)

raise_calms : (number : ℕ) (g g' : Gives Unmade ⊤) → Calms (troubled no_memory) g g' → WorkCalms (raise_given number g) (raise_given number g')
raise_calms number g g' (inl e) = inl (ap (λ r. (raise_by r number g.core).outcome) e)
raise_calms number g g' (inr e) = inr (ap (raise_given number) e)

upload_calms : (held : WorkerHeld) (g g' : Gives Trouble ⊤) → Calms no_memory g g' → WorkCalms (upload_given held g) (upload_given held g')
upload_calms held g g' (inl e) = inl (ap (λ r. (upload_by r held g.core).outcome) e)
upload_calms held g g' (inr e) = inr (ap (upload_given held) e)

replace_calms : (number : ℕ) (g g' : Gives Unmade ⊤) → Calms (troubled no_memory) g g' → WorkCalms (replace_given number g) (replace_given number g')
replace_calms number g g' (inl e) = inl (ap (λ r. (replace_by r number g.core).outcome) e)
replace_calms number g g' (inr e) = inr (ap (replace_given number) e)

-- the count behind a call that a step hands on
handed : (core a b : Core) → b ≡ a → Same core b → Same core a
handed core a b e same = sym (ap (λ c. c.store_faults) e) ∙ same

-- ---- a step

module _ (luck : WorkerLuck) (log : Log) (core : Core) (s : IsStill core) where
  abbrev StepIs : Stepped → Stepped → Type 0
  StepIs step calm_step = Same core step.core → WorkCalms step calm_step

  step_plan_calms : (aim : Aim) → StepIs (step_place aim idle luck log core) (step_place aim idle calm_working log core)
  step_plan_calms aim same =
      let given = asked_and_looked luck.world core in
      plan_calms aim log given (asked_and_looked calm_fate core)
      (asked_and_looked_calms luck.world core s (handed core given.core _ (planned_same aim given.answer log given.core) same))

  step_stage_calms : (held : ℕ → WorkerHeld) → StepIs (step_stage luck held core) (step_stage calm_working held core)
  step_stage_calms held same =
      let given = stage_call [] (held_facts (held 0)) luck.world core in
      stage_calms held given (stage_call [] (held_facts (held 0)) calm_fate core)
      (appended_calms luck.world (stage_act [] (held_facts (held 0))) core s (handed core given.core _ (staged_same given.answer held given.core) same))

  step_raise_calms : (number upto : ℕ) → StepIs (step_raise luck number upto core) (step_raise calm_working number upto core)
  step_raise_calms number upto same =
      let given = raise_call number upto luck.world core in
      raise_calms number given (raise_call number upto calm_fate core)
      (appended_calms luck.world (λ c. Raise number upto) core s (handed core given.core _ (raised_same given.answer number given.core) same))

  choice_calms : (b : Bool) (x y x' y' : Stepped) → StepIs x x' → StepIs y y' → StepIs (if b then x else y) (if b then x' else y')
  choice_calms true x y x' y' h k = h
  choice_calms false x y x' y' h k = k

  close_calms : (aim : Aim) (work : Work) → StepIs (step_close aim luck work core) (step_close aim calm_working work core)
  close_calms Merging work = step_stage_calms (held_of Merging work core)
  close_calms Deleting work =
      let number = first_number work.rows in
      choice_calms (drops_none work core) (step_raise luck number work.upto core) (step_stage luck (held_of Deleting work core) core)
      (step_raise calm_working number work.upto core) (step_stage calm_working (held_of Deleting work core) core) (step_raise_calms number work.upto) (step_stage_calms (held_of Deleting work core))

  work_calms : (aim : Aim) (work : Work) (unfetched : List Row) → StepIs (step_work aim luck work unfetched core) (step_work aim calm_working work unfetched core)
  work_calms aim work [] same = close_calms aim work same
  work_calms aim work (row ∷ more) same =
      let given = fetched (grace_in work) luck.world core in
      fetch_calms work row.number more given (fetched (grace_in work) calm_fate core)
      (fetched_calms (grace_in work) luck.world core s (handed core given.core _ (fetched_same given.answer work row.number more given.core) same))

  step_upload_calms : (aim : Aim) (held : WorkerHeld) → StepIs (step_place aim (staged held) luck log core) (step_place aim (staged held) calm_working log core)
  step_upload_calms aim held same =
      let given = upload_made luck.world held.number (held_file held) core in
      upload_calms held given (file_made calm_call (split_key held.number) (held_file held) core)
      (file_made_calms luck.world.first (split_key held.number) (held_file held) core s (handed core given.core _ (uploaded_same given.answer held given.core) same))

  step_replace_calms : (aim : Aim) (held : WorkerHeld) → StepIs (step_place aim (uploaded held) luck log core) (step_place aim (uploaded held) calm_working log core)
  step_replace_calms aim held same =
      let given = replace_call held.number held.old held.upto luck.world core in
      replace_calms held.number given (replace_call held.number held.old held.upto calm_fate core)
      (appended_calms luck.world (λ c. Replace held.number held.old held.upto) core s (handed core given.core _ (replaced_same given.answer held.number given.core) same))

  place_calms : (aim : Aim) (place : WorkerPlace) → StepIs (step_place aim place luck log core) (step_place aim place calm_working log core)
  place_calms aim idle = step_plan_calms aim
  place_calms aim (fetching work) = work_calms aim work work.unfetched
  place_calms aim (staged held) = step_upload_calms aim held
  place_calms aim (uploaded held) = step_replace_calms aim held

  short_calms : (b : Bool) (x y : Stepped) → StepIs x y → StepIs (or_short b x) y
  short_calms true x y h same = inl refl
  short_calms false x y h same = h same

  pub worker_calms : (aim : Aim) (place : WorkerPlace) → StepIs (step_worker aim luck log place core) (step_worker aim calm_working log place core)
  worker_calms aim place = short_calms luck.short (step_place aim place luck log core) (step_place aim place calm_working log core) (place_calms aim place)
