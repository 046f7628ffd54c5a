-- The steps of a worker up to where it finds nothing to do: with each 104 of them at most the journal is longer.
use Rattle.std.proofs.Common.{◌≡◌, ◌⊎◌, inl, inr, ℕ, ◌+◌, ◌*◌, ◌<◌, ◌≤◌, Bool, true, false, List, [], ◌∷◌, ◌++◌, length, refl, sym, ap, ◌∙◌, subst, append_assoc, arith}
use Rattle.std.proofs.lemmas.Bool.{le-ltb, lt-ltb}
use Rattle.std.proofs.lemmas.List.{append-nil, length-append}
use Rattle.std.specs.List.{AllByRecursion}
use Rattle.std.specs.Prelude.{Option, Some, None, Result, Ok, Err, IsSomeAnd, ⊤, nat_lt}
use Rattle.index_config.specs.declared.config.IndexConfig.{IndexConfig}
use Rattle.meta_journal.specs.declared.entry.Entry.{Entry}
use Rattle.meta_store.proofs.Numbers.{each_found}
use Rattle.meta_store.proofs.Sound.{sound}
use Rattle.meta_store.specs.History.{history, last_opstamp}
use Rattle.meta_store.specs.Readings.{config_of}
use Rattle.meta_store.specs.Rows.{rows}
use Rattle.meta_store.specs.declared.refusal.Refusal.{Refusal}
use Rattle.source_log.specs.Log.{IsLog, Log}
use Rattle.split_states.specs.Rows.{is_published, row_at}
use Rattle.split_states.specs.declared.rows.Row.{Row}
use Rattle.split_states.specs.declared.rows.RowState.{RowState}
use Rattle.split_states.specs.declared.rows.RowState.TheVariants.{Marked, Published, Staged}
use Rattle.index_world.specs.Calls.{Fault, faulted, no_memory, is_expired, is_foreign, is_full}
use Rattle.index_world.specs.CallsMade.{made_of}
use Rattle.index_world.specs.Config.{reads}
use Rattle.index_world.specs.Configuration.{configuration}
use Rattle.index_world.specs.Core.{Core, IsOther, Nobody, journal_of, last_count}
use Rattle.index_world.specs.DirectLaws.{none_goes, stays_as_is}
use Rattle.index_world.specs.Gate.{IsSoundCore, IsTrouble, NoneBetween}
use Rattle.index_world.specs.Index.{max_entries}
use Rattle.index_world.specs.Ran.{AreSteps, IsCaused, StepMade, Works, calls_of}
use Rattle.index_world.specs.World.{GoesFor, GoesOn, Keeping, WorldStands}
use Rattle.index_world.specs.declared.world_error.WorldError.{WorldError}
use Rattle.index_world.specs.declared.world_error.WorldError.TheVariants as errors
use Rattle.index_config.proofs.Ranges.{accepted-ranges}
use Rattle.index_world.proofs.Configured.{configured_read}
use Rattle.index_world.proofs.InCore.{goes_less}
use Rattle.index_world.proofs.Ran.{goes_then, steps_more}
use Rattle.upkeep_run.proofs.Holding.{sound_legal}
use Rattle.upkeep_run.proofs.Losing.{raise_lost}
use Rattle.upkeep_run.proofs.PlannedRows.{delete_rows}
use Rattle.upkeep_run.proofs.Planning.{plan_is_work}
use Rattle.upkeep_run.proofs.Works.{did_of}
use Rattle.upkeep_run.specs.Asking.{ask_of}
use Rattle.upkeep_run.specs.Ending.{Told}
use Rattle.upkeep_run.specs.Losing.{CanRaise, LosesUnless}
use Rattle.upkeep_run.specs.Outcomes.{UpkeepOutcome, Nothing, Planned, Fetched, Uploaded, Replaced, Raised, Lost, Refused, Faulted}
use Rattle.upkeep_run.specs.Outcomes as outcomes
use Rattle.upkeep_run.specs.Places.{IsWork, WorkerHeld, WorkerPlace, Work, fetching, idle, number_held, staged, uploaded}
use Rattle.upkeep_run.specs.Standing.{Answers, IsSaid, PlaceStands}
use Rattle.upkeep_run.specs.Steps.{Stepped, first_number, rows_in, step_worker, work_in}
use Rattle.upkeep_run.specs.WorkAll.{Holds, WorkerStep, core_there, end_of, worker_at}
use Rattle.upkeep_run.specs.declared.outcome.UpkeepOutcome.{UpkeepOutcome as Said}
use Rattle.upkeep_run.specs.declared.outcome.UpkeepOutcome.TheVariants as said
use Rattle.upkeep_run.specs.declared.work.Aim.{Aim}
use Rattle.upkeep_run.specs.declared.work.Aim.TheVariants.{Deleting, Merging}
use Rattle.upkeep_run.specs.declared.work.WorkerPlace.{WorkerPlace as HeldPlace}
use Rattle.upkeep_run.specs.declared.work.WorkerPlace.TheVariants as places
use Rattle.upkeep_run.specs.declared.working.WorkerEnd.TheVariants as ends
use Rattle.thread_run.specs.Alone.{WorksAlone}
use Rattle.call_laws.proofs.CallTells.{AreLow, called_low}
use Rattle.thread_run.proofs.WorkerSays.{worker_free}
use Rattle.thread_run.specs.Resting.{HasRested, IsIdle, IsStop, Rests, Worked, went_on}
use Rattle.thread_run.specs.Settling.{HadWork, IsAtRest, IsCrowded, IsHindered, IsUnasked, WorksFrom, moment_behind}
use Rattle.thread_run.specs.declared.settling.Stop.{Stop}
use Rattle.thread_run.specs.declared.settling.Stop.TheVariants as stops
use Rattle.thread_run.proofs.AtRest.{rests_none}
use Rattle.thread_run.proofs.Crowding.{is_crowded}
use Rattle.thread_run.proofs.RestSteps.{Did, DidClose, DidFetch, DidIdle, DidReplace, DidUpload, DidWork, RaiseLost, step_did}
use Rattle.thread_run.proofs.Unasked.{worker_keeps}

-- ---- how far a worker has come

-- so many steps at most, where each 104 of them make an entry
abbrev pub IsReached : (count : ℕ) → WorkerPlace → (entries : ℕ) → Type 0
IsReached count idle entries = count ≤ 104 * entries
IsReached count (fetching work) entries = count + length work.unfetched ≤ 104 * entries + 101
IsReached count (staged held) entries = count + 2 ≤ 104 * entries
IsReached count (uploaded held) entries = count + 1 ≤ 104 * entries

-- the row of deletes is published
abbrev pub IsThere : Aim → Work → Core → Type 0
IsThere Merging work core = ⊤
IsThere Deleting work core = CanRaise (rows (history core.history)) (first_number work.rows)

-- What is known behind so many steps from a core on. Only before the first one there may have been nothing to do.
abbrev pub Since : Aim → (start : Core) → (turns : ℕ) → WorkerPlace → Core → Type 0
Since aim start turns idle core = ((turns ≡ 0) × (core ≡ start)) ⊎ ((0 < turns) × HadWork start core)
Since aim start turns (fetching work) core = HadWork start core × (work.moment ≡ core.moment) × IsThere aim work core
Since aim start turns (staged held) core = HadWork start core
Since aim start turns (uploaded held) core = HadWork start core

-- so many steps of a worker from a core on, each of which found something to do
pub record Going (aim : Aim) (start : Core) (log : Log) (turns : ℕ) (held : HeldPlace) (world : Keeping) : Type 0 where
  pub place : WorkerPlace
  pub core : Core
  pub stands : PlaceStands aim log core held place
  pub world_stands : WorldStands world core log
  pub steps : List (StepMade Told)
  pub are : AreSteps (WorkerStep NoneBetween aim log) (worker_at idle start) steps (worker_at place core)
  pub goes_on : GoesFor Nobody start core
  pub unasked : IsUnasked start.moment core
  pub reached : IsReached (104 * length start.history + turns) place (length core.history)
  pub since : Since aim start turns place core

pub sound_core : (world : Keeping) (core : Core) (log : Log) → WorldStands world core log → IsSoundCore core log
sound_core world core log s = record { kept = s.kept; world = s.world; timely = s.timely; opened = s.opened }

pub none_yet : (aim : Aim) (start : Core) (log : Log) (held : HeldPlace) (world : Keeping) → IsIdle held → start.frozen ≡ true → WorldStands world start log → Going aim start log 0 held world
none_yet aim start log held world is frozen s =
    let greatest = s.timely.greatest in
    record {
      place = idle;
      core = start;
      stands = subst (λ h. PlaceStands aim log start h idle) (sym is) refl;
      world_stands = s;
      steps = [];
      are = refl;
      goes_on = stays_as_is Nobody start;
      unasked = record { frozen = frozen; moment_is = omega (arith, greatest) };
      reached = omega arith;
      since = inl (refl, refl);
    }

-- ---- there was something to do

pub had_on : (start core behind : Core) (more : List Entry) → behind.history ≡ core.history ++ more → HadWork start core → HadWork start behind
had_on start core behind more grown h =
    record {
      more = h.more;
      behind = h.behind ++ more;
      history_is = grown ∙ ap (λ es. es ++ more) h.history_is ∙ append_assoc (start.history ++ h.more) h.behind more;
      restless = h.restless;
    }

-- a plan has rows
had_now : (aim : Aim) (start core : Core) (log : Log) → IsSoundCore core log → IsUnasked start.moment core → (more : List Entry) → core.history ≡ start.history ++ more → (rows_in aim core ≡ [] → ⊥) → HadWork start core
had_now aim start core log s u more grown some =
    record {
      more = more;
      behind = [];
      history_is = grown ∙ sym (append-nil (start.history ++ more));
      restless = λ r.
          let P : List Entry → Type 0 = λ es. IsAtRest es (moment_behind start.moment es) in
          some (rests_none core (sound_legal core log s) s.opened aim (subst (IsAtRest core.history) (sym u.moment_is) (subst P (sym grown) r)));
    }

-- ---- the row of deletes

published_state : (state : RowState) → is_published state ≡ true → state ≡ Published
published_state Staged e = absurd cc
published_state Published e = refl
published_state Marked e = absurd cc

module _ (core : Core) (log : Log) (s : IsSoundCore core log) where
  abbrev IsKnown : Row → Type 0
  IsKnown row = (row_at (rows (history core.history)) row.number ≡ Some row) × (row.state ≡ Published)

  each_known : (list : List Row) → AllByRecursion (λ row. row_at (rows (history core.history)) row.number ≡ Some row) list →
      AllByRecursion (λ row. (row_at (rows (history core.history)) row.number ≡ Some row) × (is_published row.state ≡ true → IsKnown row)) list
  each_known [] h = tt
  each_known (row ∷ list) h = ((h.0, λ shown. (h.0, published_state row.state shown)), each_known list h.1)

  first_there : (list : List Row) → AllByRecursion IsKnown list → (list ≡ [] → ⊥) → CanRaise (rows (history core.history)) (first_number list)
  first_there [] h some = absurd (some refl)
  first_there (row ∷ list) h some = subst (λ (o : Option Row). IsSomeAnd o (λ r. (r.state ≡ Published) × ⊤)) (sym h.0.0) (h.0.1, tt)

  -- the row of a plan for deletes is published
  row_there : (rows_in Deleting core ≡ [] → ⊥) → CanRaise (rows (history core.history)) (first_number (rows_in Deleting core))
  row_there some =
      let apart = (sound reads (history core.history) (sound_legal core log s)).held.apart in
      let all = delete_rows IsKnown (rows (history core.history)) (each_known (rows (history core.history)) (each_found (rows (history core.history)) apart)) (config_of reads (history core.history)) core.moment (last_opstamp (history core.history)) in
      first_there (rows_in Deleting core) all.0 some

  plan_there : (aim : Aim) → (rows_in aim core ≡ [] → ⊥) → IsThere aim (work_in aim log core) core
  plan_there Merging some = tt
  plan_there Deleting some = row_there some

-- ---- which outcomes are no ends

abbrev GoesOnBy : Option UpkeepOutcome → Type 0
GoesOnBy None = ⊥
GoesOnBy (Some Nothing) = ⊥
GoesOnBy (Some (Planned count)) = ⊤
GoesOnBy (Some (Fetched number)) = ⊤
GoesOnBy (Some (outcomes.Staged number)) = ⊤
GoesOnBy (Some (Uploaded number)) = ⊤
GoesOnBy (Some (Replaced number)) = ⊤
GoesOnBy (Some (Raised number)) = ⊤
GoesOnBy (Some (Lost number refusal)) = ⊤
GoesOnBy (Some (Refused refusal)) = ⊥
GoesOnBy (Some (Faulted fault)) = ⊥

goes_as : (outcome other : UpkeepOutcome) → outcome ≡ other → GoesOnBy (Some other) → GoesOnBy (Some outcome)
goes_as outcome other e go = subst (λ o. GoesOnBy (Some o)) (sym e) go

said_goes : (given : Said) (outcome : UpkeepOutcome) → went_on (Ok given) ≡ Ok true → IsSaid given outcome → GoesOnBy (Some outcome)
said_goes said.Nothing outcome e is = absurd cc
said_goes (said.Planned count) outcome e is = goes_as outcome (Planned count) is tt
said_goes (said.Fetched number) outcome e is = goes_as outcome (Fetched number) is tt
said_goes (said.Staged number) outcome e is = goes_as outcome (outcomes.Staged number) is tt
said_goes (said.Uploaded number) outcome e is = goes_as outcome (Uploaded number) is tt
said_goes (said.Replaced number) outcome e is = goes_as outcome (Replaced number) is tt
said_goes (said.Raised number) outcome e is = goes_as outcome (Raised number) is tt
said_goes (said.Lost number refusal) outcome e is = goes_as outcome (Lost number refusal) is tt
said_goes (said.Refused refusal) outcome e is = absurd cc
said_goes (said.Fault error) outcome e is = absurd cc

told_goes : (told : Told) (outcome : Option UpkeepOutcome) → went_on told ≡ Ok true → Answers told outcome → GoesOnBy outcome
told_goes (Ok given) None e a = absurd a
told_goes (Ok given) (Some outcome) e a = said_goes given outcome e a
told_goes (Err refused) outcome e a = absurd cc

-- ---- a step that found something to do

module _ (aim : Aim) (log : Log) (start core behind : Core) (turns : ℕ) (more : List Entry) (grown : behind.history ≡ core.history ++ more) (s : IsSoundCore behind log)
    (steady : behind.history ≡ core.history → behind.moment ≡ core.moment) (now : (rows_in aim behind ≡ [] → ⊥) → HadWork start behind) where
  abbrev count : ℕ
  count = 104 * length start.history + turns

  longer : length behind.history ≡ length core.history + length more
  longer = ap (λ (es : List Entry). length es) grown ∙ length-append core.history more

  abbrev On : WorkerPlace → Type 0
  On after = IsReached (count + 1) after (length behind.history) × Since aim start (turns + 1) after behind

  -- it leads to this place
  on_to : (after next : WorkerPlace) → after ≡ next → On next → On after
  on_to after next e o = subst On (sym e) o

  had_later : HadWork start core → HadWork start behind
  had_later h = had_on start core behind more grown h

  there_later : (work : Work) (rest : List Row) → behind.history ≡ core.history → IsThere aim work core → IsThere aim (record work { unfetched = rest }) behind
  there_later work rest same there = by aim there
    where
      by : (a : Aim) → IsThere a work core → IsThere a (record work { unfetched = rest }) behind
      by Merging t = tt
      by Deleting t = subst (λ (es : List Entry). CanRaise (rows (history es)) (first_number work.rows)) (sym same) t

  -- a plan
  planned_on : (after : WorkerPlace) → count ≤ 104 * length core.history → after ≡ fetching (work_in aim log behind) → (rows_in aim behind ≡ [] → ⊥) → On after
  planned_on after reached e some =
      let few : length (rows_in aim behind) ≤ 100 = (plan_is_work behind log s aim).few in
      let up = longer in
      on_to after (fetching (work_in aim log behind)) e (omega (arith, reached, few, up), (now some, refl, plan_there behind log s aim some))

  -- a file was fetched
  fetched_on : (work : Work) (row : Row) (rest : List Row) (after : WorkerPlace) → work.unfetched ≡ row ∷ rest → IsReached count (fetching work) (length core.history) → Since aim start turns (fetching work) core →
      after ≡ fetching (record work { unfetched = rest }) → behind.history ≡ core.history → On after
  fetched_on work row rest after unfetched reached since e same =
      let as_long : length behind.history ≡ length core.history = ap (λ (es : List Entry). length es) same in
      let left : length work.unfetched ≡ length rest + 1 = ap (λ (rs : List Row). length rs) unfetched ∙ longer_rest in
      on_to after (fetching (record work { unfetched = rest })) e (omega (arith, reached, left, as_long), (had_later since.0, since.1 ∙ sym (steady same), there_later work rest same since.2))
    where
      longer_rest : length (row ∷ rest) ≡ length rest + 1
      longer_rest = omega arith

  module _ (work : Work) (unfetched : work.unfetched ≡ []) (reached : IsReached count (fetching work) (length core.history)) (since : Since aim start turns (fetching work) core) where
    none_left : length work.unfetched ≡ 0
    none_left = ap (λ (rs : List Row). length rs) unfetched

    staged_on : (held : WorkerHeld) (after : WorkerPlace) → after ≡ staged held → length core.history < length behind.history → On after
    staged_on held after e up = let none = none_left in on_to after (staged held) e (omega (arith, reached, none, up), had_later since.0)

    closed_on : (after : WorkerPlace) → after ≡ idle → length core.history < length behind.history → On after
    closed_on after e up = let none = none_left in on_to after idle e (omega (arith, reached, none, up), inr (omega arith, had_later since.0))

    close_on : (outcome : Option UpkeepOutcome) (after : WorkerPlace) → ((number : ℕ) (refusal : Refusal) → outcome ≡ Some (Lost number refusal) → RaiseLost aim work core → length core.history < length behind.history) →
        GoesOnBy outcome → DidClose aim work core outcome after behind → On after
    close_on None after lost go d = absurd go
    close_on (Some (outcomes.Staged number)) after lost go d = staged_on d.0.0 after d.0.1 d.1
    close_on (Some (Raised number)) after lost go d = closed_on after d.0 d.1
    close_on (Some (Lost number refusal)) after lost go d = closed_on after d.0 (lost number refusal refl d.1)
    close_on (Some (Refused refusal)) after lost go d = absurd go
    close_on (Some (Faulted fault)) after lost go d = absurd go
    close_on (Some Nothing) after lost go d = absurd go
    close_on (Some (Planned n)) after lost go d = absurd d
    close_on (Some (Fetched n)) after lost go d = absurd d
    close_on (Some (Uploaded n)) after lost go d = absurd d
    close_on (Some (Replaced n)) after lost go d = absurd d

  fetch_on : (work : Work) (row : Row) (rest : List Row) → work.unfetched ≡ row ∷ rest → IsReached count (fetching work) (length core.history) → Since aim start turns (fetching work) core →
      (outcome : Option UpkeepOutcome) (after : WorkerPlace) → GoesOnBy outcome → DidFetch work rest core outcome after behind → On after
  fetch_on work row rest unfetched reached since None after go d = absurd go
  fetch_on work row rest unfetched reached since (Some (Fetched number)) after go d = fetched_on work row rest after unfetched reached since d.0 d.1
  fetch_on work row rest unfetched reached since (Some (Faulted fault)) after go d = absurd go
  fetch_on work row rest unfetched reached since (Some (Refused refusal)) after go d = absurd go
  fetch_on work row rest unfetched reached since (Some Nothing) after go d = absurd go
  fetch_on work row rest unfetched reached since (Some (Planned n)) after go d = absurd d
  fetch_on work row rest unfetched reached since (Some (outcomes.Staged n)) after go d = absurd d
  fetch_on work row rest unfetched reached since (Some (Uploaded n)) after go d = absurd d
  fetch_on work row rest unfetched reached since (Some (Replaced n)) after go d = absurd d
  fetch_on work row rest unfetched reached since (Some (Raised n)) after go d = absurd d
  fetch_on work row rest unfetched reached since (Some (Lost n refusal)) after go d = absurd d

  idle_on : count ≤ 104 * length core.history → (outcome : Option UpkeepOutcome) (after : WorkerPlace) → GoesOnBy outcome → DidIdle aim log core outcome after behind → On after
  idle_on reached None after go d = absurd go
  idle_on reached (Some (Planned n)) after go d = planned_on after reached d.0 d.1
  idle_on reached (Some (Faulted fault)) after go d = absurd go
  idle_on reached (Some (Refused refusal)) after go d = absurd go
  idle_on reached (Some Nothing) after go d = absurd go
  idle_on reached (Some (Fetched n)) after go d = absurd d
  idle_on reached (Some (outcomes.Staged n)) after go d = absurd d
  idle_on reached (Some (Uploaded n)) after go d = absurd d
  idle_on reached (Some (Replaced n)) after go d = absurd d
  idle_on reached (Some (Raised n)) after go d = absurd d
  idle_on reached (Some (Lost n refusal)) after go d = absurd d

  upload_on : (held : WorkerHeld) → count + 2 ≤ 104 * length core.history → HadWork start core → (outcome : Option UpkeepOutcome) (after : WorkerPlace) → GoesOnBy outcome → DidUpload held outcome after behind → On after
  upload_on held reached had None after go d = absurd go
  upload_on held reached had (Some (Uploaded n)) after go d = let up = longer in on_to after (uploaded held) d (omega (arith, reached, up), had_later had)
  upload_on held reached had (Some (Faulted fault)) after go d = absurd go
  upload_on held reached had (Some (Refused refusal)) after go d = absurd go
  upload_on held reached had (Some Nothing) after go d = absurd go
  upload_on held reached had (Some (Planned n)) after go d = absurd d
  upload_on held reached had (Some (Fetched n)) after go d = absurd d
  upload_on held reached had (Some (outcomes.Staged n)) after go d = absurd d
  upload_on held reached had (Some (Replaced n)) after go d = absurd d
  upload_on held reached had (Some (Raised n)) after go d = absurd d
  upload_on held reached had (Some (Lost n refusal)) after go d = absurd d

  replaced_on : (after : WorkerPlace) → count + 1 ≤ 104 * length core.history → HadWork start core → after ≡ idle → On after
  replaced_on after reached had e = let up = longer in on_to after idle e (omega (arith, reached, up), inr (omega arith, had_later had))

  replace_on : count + 1 ≤ 104 * length core.history → HadWork start core → (outcome : Option UpkeepOutcome) (after : WorkerPlace) → GoesOnBy outcome → DidReplace outcome after behind → On after
  replace_on reached had None after go d = absurd go
  replace_on reached had (Some (Replaced n)) after go d = replaced_on after reached had d
  replace_on reached had (Some (Lost n refusal)) after go d = replaced_on after reached had d
  replace_on reached had (Some (Faulted fault)) after go d = absurd go
  replace_on reached had (Some (Refused refusal)) after go d = absurd go
  replace_on reached had (Some Nothing) after go d = absurd go
  replace_on reached had (Some (Planned n)) after go d = absurd d
  replace_on reached had (Some (Fetched n)) after go d = absurd d
  replace_on reached had (Some (outcomes.Staged n)) after go d = absurd d
  replace_on reached had (Some (Uploaded n)) after go d = absurd d
  replace_on reached had (Some (Raised n)) after go d = absurd d

  work_on : (work : Work) (list : List Row) → work.unfetched ≡ list → IsReached count (fetching work) (length core.history) → Since aim start turns (fetching work) core → (outcome : Option UpkeepOutcome) (after : WorkerPlace) →
      ((number : ℕ) (refusal : Refusal) → outcome ≡ Some (Lost number refusal) → work.unfetched ≡ [] → RaiseLost aim work core → length core.history < length behind.history) →
      GoesOnBy outcome → DidWork aim work list core outcome after behind → On after
  work_on work [] unfetched reached since outcome after lost go d = close_on work unfetched reached since outcome after (λ number refusal e l. lost number refusal e unfetched l) go d
  work_on work (row ∷ rest) unfetched reached since outcome after lost go d = fetch_on work row rest unfetched reached since outcome after go d

  pub place_on : (place : WorkerPlace) → IsReached count place (length core.history) → Since aim start turns place core → (outcome : Option UpkeepOutcome) (after : WorkerPlace) →
      ((work : Work) → place ≡ fetching work → IsThere aim work core → (number : ℕ) (refusal : Refusal) → outcome ≡ Some (Lost number refusal) → work.unfetched ≡ [] → RaiseLost aim work core → length core.history < length behind.history) →
      GoesOnBy outcome → Did aim log place core outcome after behind → On after
  place_on idle reached since outcome after lost go d = idle_on reached outcome after go d
  place_on (fetching work) reached since outcome after lost go d = work_on work work.unfetched refl reached since outcome after (lost work refl since.2) go d
  place_on (staged held) reached since outcome after lost go d = upload_on held reached since outcome after go d
  place_on (uploaded held) reached since outcome after lost go d = replace_on reached since outcome after go d

-- ---- a row that is lost

idle_or_work : (work : Work) → fetching work ≡ idle → ⊥
idle_or_work work e = cc

staged_or_work : (work : Work) (held : WorkerHeld) → fetching work ≡ staged held → ⊥
staged_or_work work held e = cc

uploaded_or_work : (work : Work) (held : WorkerHeld) → fetching work ≡ uploaded held → ⊥
uploaded_or_work work held e = cc

same_work : (a b : Work) → fetching a ≡ fetching b → a ≡ b
same_work a b e = cc

work_known : (aim : Aim) (log : Log) (core : Core) (held : HeldPlace) (work : Work) → PlaceStands aim log core held (fetching work) → IsWork log core work
work_known aim log core places.Idle work s = absurd (idle_or_work work s)
work_known aim log core (places.Fetching held) work s = subst (IsWork log core) (sym (same_work work s.0 s.1)) s.3
work_known aim log core (places.Staged plan token bytes) work s = absurd (staged_or_work work s.0 s.1)
work_known aim log core (places.Uploaded plan token) work s = absurd (uploaded_or_work work s.0 s.1)

-- An entry came, since the row was published.
lost_longer : (log : Log) (core behind : Core) (more : List Entry) → behind.history ≡ core.history ++ more → (work : Work) → CanRaise (rows (history core.history)) (first_number work.rows) →
    (CanRaise (rows (history behind.history)) (first_number work.rows) → ⊥) → length core.history < length behind.history
lost_longer log core behind [] grown work there lost =
    let same : behind.history ≡ core.history = grown ∙ append-nil core.history in
    absurd (lost (subst (λ (es : List Entry). CanRaise (rows (history es)) (first_number work.rows)) (sym same) there))
lost_longer log core behind (entry ∷ more) grown work there lost =
    let long : length behind.history ≡ length core.history + length (entry ∷ more) = ap (λ (es : List Entry). length es) grown ∙ length-append core.history (entry ∷ more) in
    omega (arith, long)

-- the deletion grace of an index is a second at least
least_grace : (entries : List Entry) (config : IndexConfig) → configuration entries ≡ Some config → 1 ≤ config.deletion_grace
least_grace entries config e = let r = configured_read entries config e in (accepted-ranges r.0 config r.1).deletion_grace.0

-- ---- a step

module _ (aim : Aim) (start : Core) (log : Log) (turns : ℕ) (held : HeldPlace) (world : Keeping) (g : Going aim start log turns held world)
    (told : Told) (kept : HeldPlace) (new : Keeping) (w : WorksAlone aim told g.place g.core log kept new) where
  others_on : GoesFor Nobody g.core w.behind
  others_on = goes_less (IsOther (number_held g.place)) Nobody g.core w.behind (λ n none. absurd none) w.goes_on

  start_on : GoesFor Nobody start w.behind
  start_on = goes_then start g.core w.behind g.goes_on others_on

  abbrev this : StepMade Told
  this = record { result = told; made = made_of (ask_of aim g.place g.core) w.behind ∷ [] }

  is_step : WorkerStep NoneBetween aim log (worker_at g.place g.core) this (worker_at w.after w.behind)
  is_step = record { mid = g.core; passed = refl; luck = w.luck; outcome = w.outcome; did = w.did; answer = w.answer; recorded = inl refl; goes_on = others_on }

  are_steps : AreSteps (WorkerStep NoneBetween aim log) (worker_at idle start) (g.steps ++ this ∷ []) (worker_at w.after w.behind)
  are_steps = steps_more (WorkerStep NoneBetween aim log) (worker_at idle start) (worker_at g.place g.core) (worker_at w.after w.behind) g.steps this g.are is_step

  work_done : WorksFrom aim log start w.behind
  work_done = record { steps = g.steps ++ this ∷ []; place = w.after; are = are_steps }

  now_sound : IsSoundCore w.behind log
  now_sound = sound_core new w.behind log w.world_stands

  now_unasked : IsUnasked start.moment w.behind
  now_unasked =
      let P : Stepped → Type 0 = λ step. IsUnasked start.moment step.core in
      subst P w.did (worker_keeps start.moment w.luck log g.core g.unasked aim g.place)

  -- without an entry the moment stays
  steady_here : w.behind.history ≡ g.core.history → w.behind.moment ≡ g.core.moment
  steady_here same = now_unasked.moment_is ∙ ap (moment_behind start.moment) same ∙ sym g.unasked.moment_is

  low : AreLow (length g.core.history) g.core
  low = called_low g.core.history g.core.late g.world_stands.world.stands_for.called

  did_step : Did aim log g.place g.core w.outcome w.after w.behind
  did_step =
      let P : Stepped → Type 0 = λ step. Did aim log g.place g.core step.outcome step.place step.core in
      subst P w.did (step_did aim w.luck log g.core low g.place (worker_free aim log g.core held g.place g.stands))

  had_before : HadWork start g.core → HadWork start w.behind
  had_before h = had_on start g.core w.behind others_on.grown.0 others_on.grown.1 h

  -- an entry came where a row to be raised was lost
  raise_longer : (a : Aim) → aim ≡ a → (work : Work) → g.place ≡ fetching work → IsThere a work g.core → (number : ℕ) (refusal : Refusal) → w.outcome ≡ Some (Lost number refusal) → work.unfetched ≡ [] → RaiseLost a work g.core →
      length g.core.history < length w.behind.history
  raise_longer Merging a work at there number refusal e unfetched lost = absurd lost
  raise_longer Deleting a work at there number refusal e unfetched lost =
      lost_longer log g.core w.behind others_on.grown.0 others_on.grown.1 work there
      (subst (λ (o : Option UpkeepOutcome). LosesUnless Can o w.behind) e
      (subst (λ (step : Stepped). LosesUnless Can step.outcome step.core) did
      (raise_lost log work w.luck g.core unfetched lost known (subst (λ (step : Stepped). GoesOn None g.core step.core) (sym did) goes) (subst (λ (step : Stepped). IsSoundCore step.core log) (sym did) now_sound))))
    where
      Can : List Row → Type 0
      Can all = CanRaise all (first_number work.rows)

      did : step_worker Deleting w.luck log (fetching work) g.core ≡ record { outcome = w.outcome; place = w.after; core = w.behind }
      did = ap (λ (p : WorkerPlace). step_worker Deleting w.luck log p g.core) (sym at) ∙ ap (λ (x : Aim). step_worker x w.luck log g.place g.core) (sym a) ∙ w.did

      known : IsWork log g.core work
      known = work_known aim log g.core held work (subst (PlaceStands aim log g.core held) at g.stands)

      goes : GoesOn None g.core w.behind
      goes = subst (λ (p : WorkerPlace). GoesOn (number_held p) g.core w.behind) at w.goes_on

  pub goes_further : went_on told ≡ Ok true → Going aim start log (turns + 1) kept new
  goes_further e =
      let on = place_on aim log start g.core w.behind turns others_on.grown.0 others_on.grown.1 now_sound steady_here (had_now aim start w.behind log now_sound now_unasked start_on.grown.0 start_on.grown.1) g.place g.reached g.since
      w.outcome w.after (λ work at there number refusal o unfetched lost. raise_longer aim refl work at there number refusal o unfetched lost) (told_goes told w.outcome e w.answer) did_step in
      let reached = on.0 in
      record {
        place = w.after;
        core = w.behind;
        stands = w.stands;
        world_stands = w.world_stands;
        steps = g.steps ++ this ∷ [];
        are = are_steps;
        goes_on = start_on;
        unasked = now_unasked;
        reached = subst (λ (n : ℕ). IsReached n w.after (length w.behind.history)) (omega arith) on.0;
        since = on.1;
      }

  -- ---- it found nothing to do

  nothing_told : (t : Told) (outcome : Option UpkeepOutcome) → went_on t ≡ Ok false → Answers t outcome → outcome ≡ Some Nothing
  nothing_told (Ok said.Nothing) None e a = absurd a
  nothing_told (Ok said.Nothing) (Some outcome) e a = ap (λ o. Some o) a
  nothing_told (Ok (said.Planned count)) outcome e a = absurd cc
  nothing_told (Ok (said.Fetched number)) outcome e a = absurd cc
  nothing_told (Ok (said.Staged number)) outcome e a = absurd cc
  nothing_told (Ok (said.Uploaded number)) outcome e a = absurd cc
  nothing_told (Ok (said.Replaced number)) outcome e a = absurd cc
  nothing_told (Ok (said.Raised number)) outcome e a = absurd cc
  nothing_told (Ok (said.Lost number refusal)) outcome e a = absurd cc
  nothing_told (Ok (said.Refused refusal)) outcome e a = absurd cc
  nothing_told (Ok (said.Fault error)) outcome e a = absurd cc
  nothing_told (Err refused) outcome e a = absurd cc

  rested_work : (work : Work) (list : List Row) (after : WorkerPlace) → DidWork aim work list g.core (Some Nothing) after w.behind → ⊥
  rested_work work [] after d = d
  rested_work work (row ∷ more) after d = d

  rested_by : (place : WorkerPlace) → IsReached (104 * length start.history + turns) place (length g.core.history) → Since aim start turns place g.core → Did aim log place g.core (Some Nothing) w.after w.behind →
      HasRested aim (nat_lt 0 turns) start w.behind
  rested_by idle reached (inl first) d =
      record {
        none = d.0;
        sure = d.1;
        worked_is =
            let none : nat_lt 0 turns ≡ false = le-ltb 0 turns (let zero = first.0 in omega (arith, zero)) in
            subst (λ (b : Bool). Worked b start w.behind) (sym none)
            (λ sure. d.2 (ap (λ (c : Core). c.unsure) first.1 ∙ sure) g.unasked.frozen ∙ first.1);
      }
  rested_by idle reached (inr later) d =
      record {
        none = d.0;
        sure = d.1;
        worked_is =
            let some : nat_lt 0 turns ≡ true = lt-ltb 0 turns later.0 in
            let up : length w.behind.history ≡ length g.core.history + length others_on.grown.0 = ap (λ (es : List Entry). length es) others_on.grown.1 ∙ length-append g.core.history others_on.grown.0 in
            let went = later.0 in
            subst (λ (b : Bool). Worked b start w.behind) (sym some) (had_before later.1, omega (arith, reached, up, went));
      }
  rested_by (fetching work) reached since d = absurd (rested_work work work.unfetched w.after d)
  rested_by (staged h) reached since d = absurd d
  rested_by (uploaded h) reached since d = absurd d

  pub rests_here : went_on told ≡ Ok false → Rests aim (Ok (nat_lt 0 turns)) start log new
  rests_here e =
      record {
        after = w.behind;
        works = work_done;
        goes_on = start_on;
        stands = w.world_stands;
        unasked = now_unasked;
        ended = rested_by g.place g.reached g.since (subst (λ (o : Option UpkeepOutcome). Did aim log g.place g.core o w.after w.behind) (nothing_told told w.outcome e w.answer) did_step);
      }

  -- ---- it goes on no more

  refusal_said : (outcome : Option UpkeepOutcome) (refusal : Refusal) → Answers (Ok (said.Refused refusal)) outcome → outcome ≡ Some (Refused refusal)
  refusal_said None refusal a = absurd a
  refusal_said (Some outcome) refusal a = ap (λ o. Some o) a

  refused_work : (refusal : Refusal) (work : Work) (list : List Row) (after : WorkerPlace) → HadWork start g.core → DidWork aim work list g.core (Some (Refused refusal)) after w.behind → HadWork start w.behind × IsCrowded w.behind.history refusal
  refused_work refusal work [] after had d =
      (had_before had, is_crowded w.behind.history w.behind.moment (sound_legal w.behind log now_sound) now_sound.opened now_sound.timely.greatest d.0 refusal d.1)
  refused_work refusal work (row ∷ more) after had d = absurd d

  refused_by : (refusal : Refusal) (place : WorkerPlace) → Since aim start turns place g.core → Did aim log place g.core (Some (Refused refusal)) w.after w.behind → HadWork start w.behind × IsCrowded w.behind.history refusal
  refused_by refusal idle since d = absurd d
  refused_by refusal (fetching work) since d = refused_work refusal work work.unfetched w.after since.0 d
  refused_by refusal (staged h) since d = absurd d
  refused_by refusal (uploaded h) since d = absurd d

  -- the cause of a fault of the store
  caused : (error : WorldError) → told ≡ Ok (said.Fault error) → g.core.store_faults ≤ last_count → IsCaused error g.core w.behind
  caused error e within = (did_of NoneBetween aim log none_goes 1 kept g.place g.core (calls_of (this ∷ [])) w.behind (ends.Fault error) works).cause within
    where
      works : Works (WorkerStep NoneBetween aim log) core_there end_of ends.Turns (Holds aim log kept) 1 (ends.Fault error) (worker_at g.place g.core) (calls_of (this ∷ [])) w.behind
      works =
          record {
            steps = this ∷ [];
            last = worker_at w.after w.behind;
            are = (worker_at w.after w.behind, is_step, refl);
            left = w.stands;
            calls = refl;
            goes_on = stays_as_is Nobody w.behind;
            ended = inl (omega arith, record { front = []; last = this; are = refl; going = tt; ends = ap end_of e });
          }

  fault_said : (error : WorldError) (outcome : Option UpkeepOutcome) → Answers (Ok (said.Fault error)) outcome → (fault : Fault) × (outcome ≡ Some (Faulted fault)) × IsTrouble error (faulted fault)
  fault_said error None a = absurd a
  fault_said error (Some outcome) a = (a.0, ap (λ o. Some o) a.1, a.2)

  same_fault : (x y : Fault) → faulted x ≡ faulted y → x ≡ y
  same_fault x y e = cc

  -- no key is foreign
  foreign_work : (key : List ℕ) (work : Work) (list : List Row) (after : WorkerPlace) → DidWork aim work list g.core (Some (Faulted (is_foreign key))) after w.behind → ⊥
  foreign_work key work [] after d = d
  foreign_work key work (row ∷ more) after d = d

  foreign_never : (key : List ℕ) (place : WorkerPlace) → Did aim log place g.core (Some (Faulted (is_foreign key))) w.after w.behind → ⊥
  foreign_never key idle d = d
  foreign_never key (fetching work) d = foreign_work key work work.unfetched w.after d
  foreign_never key (staged h) d = d
  foreign_never key (uploaded h) d = d

  full_work : (work : Work) (list : List Row) (after : WorkerPlace) → HadWork start g.core → DidWork aim work list g.core (Some (Faulted is_full)) after w.behind → HadWork start w.behind × (max_entries ≤ length w.behind.history)
  full_work work [] after had d = (had_before had, d)
  full_work work (row ∷ more) after had d = absurd d

  full_by : (place : WorkerPlace) → Since aim start turns place g.core → Did aim log place g.core (Some (Faulted is_full)) w.after w.behind → HadWork start w.behind × (max_entries ≤ length w.behind.history)
  full_by idle since d = absurd d
  full_by (fetching work) since d = full_work work work.unfetched w.after since.0 d
  full_by (staged h) since d = absurd d
  full_by (uploaded h) since d = (had_before since, d)

  module _ (planned_at now : ℕ) where
    -- no plan is over
    late_work : (work : Work) (list : List Row) (after : WorkerPlace) → g.place ≡ fetching work → work.moment ≡ g.core.moment → DidWork aim work list g.core (Some (Faulted (is_expired planned_at now))) after w.behind → ⊥
    late_work work [] after at same d = d
    late_work work (row ∷ more) after at same d =
        let known = work_known aim log g.core held work (subst (PlaceStands aim log g.core held) at g.stands) in
        let grace = least_grace (journal_of g.core) work.config known.configured in
        let over = d.0 in
        let here = d.1 in
        let still = steady_here d.2 in
        omega (arith, same, grace, over, here, still)

    late_never : (place : WorkerPlace) → g.place ≡ place → Since aim start turns place g.core → Did aim log place g.core (Some (Faulted (is_expired planned_at now))) w.after w.behind → ⊥
    late_never idle at since d = d
    late_never (fetching work) at since d = late_work work work.unfetched w.after at since.1 d
    late_never (staged h) at since d = d
    late_never (uploaded h) at since d = d

  did_fault : (fault : Fault) → w.outcome ≡ Some (Faulted fault) → Did aim log g.place g.core (Some (Faulted fault)) w.after w.behind
  did_fault fault e = subst (λ (o : Option UpkeepOutcome). Did aim log g.place g.core o w.after w.behind) e did_step

  hindered : (error : WorldError) → told ≡ Ok (said.Fault error) → g.core.store_faults ≤ last_count → IsHindered error start w.behind
  hindered error e within = by error e (fault_said error w.outcome (subst (λ (t : Told). Answers t w.outcome) e w.answer))
    where
      by : (error : WorldError) → told ≡ Ok (said.Fault error) → (fault : Fault) × (w.outcome ≡ Some (Faulted fault)) × IsTrouble error (faulted fault) → IsHindered error start w.behind
      by (errors.Memory refused) e f = absurd (no_want f.0 f.2)
        where
          no_want : (fault : Fault) → faulted fault ≡ no_memory → ⊥
          no_want fault same = cc
      by (errors.Refused refusal) e f = absurd f.2
      by (errors.StoreFault low_count high) e f =
          let c = caused (errors.StoreFault low_count high) e within in
          let up = g.goes_on.faults in
          let past = c.0 in
          (omega (arith, up, past), c.1, c.2)
      by (errors.Missing key) e f = absurd f.2
      by (errors.Corrupt key) e f = absurd f.2
      by (errors.Foreign key) e f = foreign_never key g.place (did_fault (is_foreign key) (f.1 ∙ ap (λ x. Some (Faulted x)) (same_fault f.0 (is_foreign key) f.2)))
      by errors.Full e f = full_by g.place g.since (did_fault is_full (f.1 ∙ ap (λ x. Some (Faulted x)) (same_fault f.0 is_full f.2)))
      by (errors.Expired planned_at now) e f =
          late_never planned_at now g.place refl g.since (did_fault (is_expired planned_at now) (f.1 ∙ ap (λ x. Some (Faulted x)) (same_fault f.0 (is_expired planned_at now) f.2)))
      by errors.NoIndex e f = absurd f.2
      by errors.IndexExists e f = absurd f.2
      by (errors.BadConfig bad) e f = absurd f.2

  stop_is : (stop other : Stop) → ◌≡◌ {A = Result Bool Stop} (Err other) (Err stop) → IsStop other start w.behind → IsStop stop start w.behind
  stop_is stop other e is = subst (λ (x : Stop). IsStop x start w.behind) (same_stop e) is
    where
      same_stop : ◌≡◌ {A = Result Bool Stop} (Err other) (Err stop) → other ≡ stop
      same_stop e = cc

  stopped : (stop : Stop) (t : Told) → told ≡ t → went_on t ≡ Err stop → g.core.store_faults ≤ last_count → IsStop stop start w.behind
  stopped stop (Ok said.Nothing) is e within = absurd cc
  stopped stop (Ok (said.Planned count)) is e within = absurd cc
  stopped stop (Ok (said.Fetched number)) is e within = absurd cc
  stopped stop (Ok (said.Staged number)) is e within = absurd cc
  stopped stop (Ok (said.Uploaded number)) is e within = absurd cc
  stopped stop (Ok (said.Replaced number)) is e within = absurd cc
  stopped stop (Ok (said.Raised number)) is e within = absurd cc
  stopped stop (Ok (said.Lost number refusal)) is e within = absurd cc
  stopped stop (Ok (said.Refused refusal)) is e within =
      stop_is stop (stops.Refused refusal) e
      (refused_by refusal g.place g.since (subst (λ (o : Option UpkeepOutcome). Did aim log g.place g.core o w.after w.behind) (refusal_said w.outcome refusal (subst (λ (x : Told). Answers x w.outcome) is w.answer)) did_step))
  stopped stop (Ok (said.Fault error)) is e within = stop_is stop (stops.Fault error) e (hindered error is within)
  stopped stop (Err refused) is e within = stop_is stop (stops.Memory refused) e tt

  pub stops_here : (stop : Stop) → went_on told ≡ Err stop → world.store_faults ≤ last_count → Rests aim (Err stop) start log new
  stops_here stop e within =
      let same = g.world_stands.store_faults in
      record { after = w.behind; works = work_done; goes_on = start_on; stands = w.world_stands; unasked = now_unasked; ended = stopped stop told refl e (omega (arith, within, same)) }

-- ---- so many steps fill a journal

filled : (aim : Aim) (start core : Core) (turns : ℕ) → 1040000000 ≤ turns → (place : WorkerPlace) → IsReached (104 * length start.history + turns) place (length core.history) → Since aim start turns place core →
    HadWork start core × (max_entries ≤ length core.history)
filled aim start core turns many idle reached (inl none) = absurd (let zero = none.0 in omega (arith, many, zero))
filled aim start core turns many idle reached (inr some) = (some.1, omega (arith, many, reached))
filled aim start core turns many (fetching work) reached since = (since.0, omega (arith, many, reached))
filled aim start core turns many (staged held) reached since = (since, omega (arith, many, reached))
filled aim start core turns many (uploaded held) reached since = (since, omega (arith, many, reached))

pub fills : (aim : Aim) (start : Core) (log : Log) (turns : ℕ) (held : HeldPlace) (world : Keeping) → 1040000000 ≤ turns → Going aim start log turns held world → Rests aim (Err (stops.Fault errors.Full)) start log world
fills aim start log turns held world many g =
    record { after = g.core; works = record { steps = g.steps; place = g.place; are = g.are }; goes_on = g.goes_on; stands = g.world_stands; unasked = g.unasked; ended = filled aim start g.core turns many g.place g.reached g.since }

-- ---- a step of a worker of the code

-- as one of the aim that it has
pub works_for : (aim other : Aim) → other ≡ aim → (start : Core) (log : Log) (turns : ℕ) (held : HeldPlace) (world : Keeping) (told : Told) (kept : HeldPlace) (new : Keeping) → IsLog log →
    ((place : WorkerPlace) (core : Core) (read : Log) → IsLog read → PlaceStands other read core held place → WorldStands world core read → WorksAlone other told place core read kept new) →
    (g : Going aim start log turns held world) → WorksAlone aim told g.place g.core log kept new
works_for aim other same start log turns held world told kept new is step g =
    subst (λ (a : Aim). WorksAlone a told g.place g.core log kept new) same
    (step g.place g.core log is (subst (λ (a : Aim). PlaceStands a log g.core held g.place) (sym same) g.stands) g.world_stands)
