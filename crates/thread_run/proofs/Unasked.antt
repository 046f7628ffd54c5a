-- Where the clock is asked no more, each call leaves the moment the greatest of what it was and of all entries'.
use Rattle.std.proofs.Common.{◌≡◌, ℕ, max, Bool, true, false, List, [], ◌∷◌, ◌++◌, sym, ap, ◌∙◌, subst, arith}
use Rattle.std.specs.Prelude.{if◌then◌else◌}
use Rattle.meta_journal.specs.Places.{split_key}
use Rattle.meta_journal.specs.declared.entry.Act.TheVariants.{Raise, Replace}
use Rattle.meta_journal.specs.declared.entry.Entry.{Entry}
use Rattle.meta_store.proofs.Numbers.{history-snoc}
use Rattle.meta_store.specs.History.{history, moment_of}
use Rattle.source_log.specs.Log.{Log}
use Rattle.split_states.specs.declared.rows.Row.{Row}
use Rattle.index_world.specs.Calls.{asked_and_looked, asked_clock, asked_moment, fetched, taken_in, upload_made}
use Rattle.index_world.specs.Core.{Core}
use Rattle.index_world.specs.Gate.{raise_call, replace_call, stage_act, stage_call}
use Rattle.upkeep_run.specs.Places.{WorkerHeld, WorkerPlace, Work, fetching, held_facts, held_file, idle, staged, uploaded}
use Rattle.upkeep_run.specs.Steps.{WorkerLuck, Stepped, drops_none, fetch_by, first_number, grace_in, held_of, or_short, plan_by, raise_by, replace_by, stage_by, step_close, step_place, step_raise, step_stage, step_work, step_worker, upload_by}
use Rattle.upkeep_run.specs.declared.work.Aim.{Aim}
use Rattle.upkeep_run.specs.declared.work.Aim.TheVariants.{Deleting, Merging}
use Rattle.thread_run.proofs.WorkerSays.{fetched_same, planned_same, raised_same, replaced_same, staged_same, uploaded_same}
use Rattle.thread_run.specs.Settling.{IsUnasked, moment_behind}
use Rattle.thread_run.proofs.Keeping.{appended_keeps, asked_and_looked_keeps, fetched_keeps, file_made_keeps}

module _ (moment : ℕ) where
  pub unasked_same : (a b : Core) → b.history ≡ a.history → b.moment ≡ a.moment → b.frozen ≡ a.frozen → IsUnasked moment a → IsUnasked moment b
  unasked_same a b entries now frozen u = record { frozen = frozen ∙ u.frozen; moment_is = now ∙ u.moment_is ∙ sym (ap (moment_behind moment) entries) }

  pub unasked_taken : (entry : Entry) (core : Core) → IsUnasked moment core → IsUnasked moment (taken_in entry core)
  unasked_taken entry core u =
      let more : moment_of (history (core.history ++ entry ∷ [])) ≡ max (moment_of (history core.history)) entry.moment = ap moment_of (history-snoc core.history entry) in
      let was = u.moment_is in
      record { frozen = u.frozen; moment_is = omega (arith, more, was) }

  pub unasked_asked : (core : Core) → IsUnasked moment core → IsUnasked moment (asked_clock core)
  unasked_asked core u = record { frozen = u.frozen; moment_is = ap (λ b. asked_moment b core.moment core.clock) u.frozen ∙ u.moment_is }

-- ---- a worker's step

module _ (moment : ℕ) (luck : WorkerLuck) (log : Log) (core : Core) (u : IsUnasked moment core) where
  abbrev Keeps : Stepped → Type 0
  Keeps step = IsUnasked moment step.core

  -- what is told of a call leaves the core as it is
  as_was : (a b : Core) → b ≡ a → IsUnasked moment a → IsUnasked moment b
  as_was a b e v = subst (IsUnasked moment) (sym e) v

  stage_keeps : (held : ℕ → WorkerHeld) → Keeps (step_stage luck held core)
  stage_keeps held =
      let given = stage_call [] (held_facts (held 0)) luck.world core in
      as_was given.core (stage_by given.answer held given.core).core (staged_same given.answer held given.core)
      (appended_keeps (IsUnasked moment) (unasked_same moment) (unasked_taken moment) (unasked_asked moment) (stage_act [] (held_facts (held 0))) luck.world core u)

  raise_keeps : (number upto : ℕ) → Keeps (step_raise luck number upto core)
  raise_keeps number upto =
      let given = raise_call number upto luck.world core in
      as_was given.core (raise_by given.answer number given.core).core (raised_same given.answer number given.core)
      (appended_keeps (IsUnasked moment) (unasked_same moment) (unasked_taken moment) (unasked_asked moment) (λ c. Raise number upto) luck.world core u)

  choice_keeps : (b : Bool) (x y : Stepped) → Keeps x → Keeps y → Keeps (if b then x else y)
  choice_keeps true x y p q = p
  choice_keeps false x y p q = q

  close_keeps : (aim : Aim) (work : Work) → Keeps (step_close aim luck work core)
  close_keeps Merging work = stage_keeps (held_of Merging work core)
  close_keeps Deleting work =
      choice_keeps (drops_none work core) (step_raise luck (first_number work.rows) work.upto core) (step_stage luck (held_of Deleting work core) core)
      (raise_keeps (first_number work.rows) work.upto) (stage_keeps (held_of Deleting work core))

  work_keeps : (aim : Aim) (work : Work) (unfetched : List Row) → Keeps (step_work aim luck work unfetched core)
  work_keeps aim work [] = close_keeps aim work
  work_keeps aim work (row ∷ more) =
      let given = fetched (grace_in work) luck.world core in
      as_was given.core (fetch_by given.answer work row.number more given.core).core (fetched_same given.answer work row.number more given.core)
      (fetched_keeps (IsUnasked moment) (unasked_same moment) (unasked_taken moment) (unasked_asked moment) (grace_in work) luck.world core u)

  place_keeps : (aim : Aim) (place : WorkerPlace) → Keeps (step_place aim place luck log core)
  place_keeps aim idle =
      let given = asked_and_looked luck.world core in
      as_was given.core (plan_by aim given.answer log given.core).core (planned_same aim given.answer log given.core)
      (asked_and_looked_keeps (IsUnasked moment) (unasked_same moment) (unasked_taken moment) (unasked_asked moment) luck.world core u)
  place_keeps aim (fetching work) = work_keeps aim work work.unfetched
  place_keeps aim (staged held) =
      let given = upload_made luck.world held.number (held_file held) core in
      as_was given.core (upload_by given.answer held given.core).core (uploaded_same given.answer held given.core)
      (file_made_keeps (IsUnasked moment) (unasked_same moment) (unasked_taken moment) (unasked_asked moment) luck.world.first (split_key held.number) (held_file held) core u)
  place_keeps aim (uploaded held) =
      let given = replace_call held.number held.old held.upto luck.world core in
      as_was given.core (replace_by given.answer held.number given.core).core (replaced_same given.answer held.number given.core)
      (appended_keeps (IsUnasked moment) (unasked_same moment) (unasked_taken moment) (unasked_asked moment) (λ c. Replace held.number held.old held.upto) luck.world core u)

  short_keeps : (b : Bool) (step : Stepped) → Keeps step → Keeps (or_short b step)
  short_keeps true step p = p
  short_keeps false step p = p

  pub worker_keeps : (aim : Aim) (place : WorkerPlace) → Keeps (step_worker aim luck log place core)
  worker_keeps aim place = short_keeps luck.short (step_place aim place luck log core) (place_keeps aim place)
