-- What a step of a worker says of the core that it came to.
use Rattle.std.proofs.Common.{◌≡◌, ℕ, ◌<◌, ◌≤◌, Bool, true, false, List, [], ◌∷◌, length, refl, sym, ◌∙◌, arith}
use Rattle.std.proofs.lemmas.Bool.{leb-true}
use Rattle.std.specs.Prelude.{Option, Some, None, Result, Ok, Err, ⊤, ◌||◌, if◌then◌else◌, nat_le}
use Rattle.meta_journal.specs.Places.{split_key}
use Rattle.meta_journal.specs.declared.entry.Act.{Act}
use Rattle.meta_journal.specs.declared.entry.Act.TheVariants.{Raise, Replace}
use Rattle.meta_journal.specs.declared.entry.Entry.{Entry}
use Rattle.source_log.specs.Log.{Log}
use Rattle.split_states.specs.declared.facts.RowFacts.{RowFacts}
use Rattle.split_states.specs.declared.rows.Row.{Row}
use Rattle.index_world.specs.Calls.{Call, Fate, Gives, Grace, Made, made, exists, failed, Trouble, faulted, no_memory, Unmade, refused, troubled, store_fault, is_foreign, is_full, is_expired, and_then_by, answer_behind, asked_and_looked, asked_clock, asking, begun, create_at_end, entry_of, fence_of, fetched, file_got, got_at, got_file, is_at_once, may_fail, or_short as or_short_call, risen, settle_made, settle_making, settle_with, settled_and_copied, taken_unless, unless_over, unless_short, upload_made}
use Rattle.index_world.specs.Core.{Core}
use Rattle.index_world.specs.Gate.{raise_call, replace_call, stage_act, stage_call}
use Rattle.index_world.specs.Index.{max_entries}
use Rattle.index_world.proofs.Gates.{frozen_asks}
use Rattle.index_world.proofs.Worlds.{same-landed}
use Rattle.upkeep_run.specs.Outcomes.{UpkeepOutcome, Nothing, Planned, Fetched, Uploaded, Replaced, Raised, Lost, Refused, Faulted}
use Rattle.upkeep_run.specs.Outcomes as said
use Rattle.upkeep_run.specs.Places.{WorkerHeld, WorkerPlace, Work, fetching, held_facts, held_file, idle, staged, until_of, uploaded}
use Rattle.upkeep_run.specs.Steps.{WorkerLuck, Stepped, drops_none, fetch_by, first_number, grace_in, held_of, or_short, plan_by, plan_with, raise_by, replace_by, rows_in, stage_by, step_close, step_raise, step_stage, step_work, step_worker, upload_by, work_in}
use Rattle.upkeep_run.specs.declared.work.Aim.{Aim}
use Rattle.upkeep_run.specs.declared.work.Aim.TheVariants.{Deleting, Merging}
use Rattle.call_laws.proofs.CallTells.{AreLow, IfErr, IsOwnTrouble, IsStoreTrouble, appended_own, asked_and_looked_own, file_own}
use Rattle.thread_run.proofs.WorkerSays.{WorkerIsFree}
use Rattle.thread_run.proofs.Appending.{Appends, appended_comes}

-- ---- a call that settles leaves nothing unsure; where nothing was, and the clock is asked no more, it changes nothing

abbrev Sure : {E A : Type 0} → Result A E → Core → Type 0
Sure (Ok a) core = core.unsure ≡ false
Sure (Err e) core = ⊤

abbrev IsSure : Gives Trouble ⊤ → Type 0
IsSure given = Sure given.answer given.core

taken_sure : (b unsure : Bool) (entry : Entry) (core : Core) → IsSure (taken_unless b unsure entry core)
taken_sure true unsure entry core = tt
taken_sure false unsure entry core = refl

got_sure : (b : Bool) (call : Call) (count : ℕ) (entry : Entry) (core : Core) → IsSure (got_at b call count entry core)
got_sure true call count entry core = tt
got_sure false call count entry core = taken_sure call.short (core.unsure || is_at_once call.effect) entry core

settle_made_sure : (get : Call) (count : ℕ) (fence : Entry) (m : Made) (core : Core) → IsSure (settle_made get count fence m core)
settle_made_sure get count fence made core = taken_sure get.short true fence core
settle_made_sure get count fence (exists entry) core = got_sure (may_fail get core.store_faults) get count entry (begun get core)
settle_made_sure get count fence failed core = tt

abbrev Looked : Core → Result ⊤ Trouble → Core → Type 0
Looked start (Ok done) core = (core.unsure ≡ false) × (start.unsure ≡ false → start.frozen ≡ true → core ≡ start)
Looked start (Err trouble) core = ⊤

abbrev Looks : Core → Gives Trouble ⊤ → Type 0
Looks start given = Looked start given.answer given.core

copied : (start : Core) (short : Bool) (r : Result ⊤ Trouble) (core : Core) → Looked start r core → Looks start (and_then_by r core (λ c. unless_short short c))
copied start true (Ok done) core l = tt
copied start false (Ok done) core l = l
copied start true (Err trouble) core l = tt
copied start false (Err trouble) core l = tt

module _ (start : Core) (first second : Call) where
  unless_looked : (b : Bool) → start.unsure ≡ false → Looks start (unless_short b (asked_clock start))
  unless_looked true e = tt
  unless_looked false e = (e, λ sure frozen. frozen_asks start frozen)

  as_looked : (r : Result ⊤ Trouble) (core : Core) → start.unsure ≡ true → Sure r core → Looked start r core
  as_looked (Ok done) core e sure = (sure, λ f. absurd (both e f))
    where
      both : start.unsure ≡ true → start.unsure ≡ false → ⊥
      both t f = cc
  as_looked (Err trouble) core e sure = tt

  settle_looked : (b : Bool) → start.unsure ≡ b → Looks start (settle_with b first second (asked_clock start))
  settle_looked false e = unless_looked first.short e
  settle_looked true e = by first.short
    where
      by : (b : Bool) → Looks start (or_short_call b no_memory first (asked_clock start) (settle_making second (asked_clock start).store_faults (fence_of (asked_clock start)) (create_at_end first (fence_of (asked_clock start)) (asked_clock start))))
      by true = tt
      by false =
          let made_first = create_at_end first (fence_of (asked_clock start)) (asked_clock start) in
          let given = settle_made second (asked_clock start).store_faults (fence_of (asked_clock start)) made_first.answer made_first.core in
          as_looked given.answer given.core e (settle_made_sure second (asked_clock start).store_faults (fence_of (asked_clock start)) made_first.answer made_first.core)

looks : (fate : Fate) (start : Core) → Looks start (asked_and_looked fate start)
looks fate start = by fate.unasked
  where
    by : (b : Bool) → Looks start (asking b no_memory start (λ c. settled_and_copied fate c))
    by true = tt
    by false =
        let given = settle_with start.unsure fate.first fate.second (asked_clock start) in
        copied start fate.third.short given.answer given.core (settle_looked start fate.first fate.second start.unsure refl)

-- ---- a plan

-- It found no rows, or works on those that it found.
abbrev pub DidIdle : Aim → Log → (start : Core) → Option UpkeepOutcome → WorkerPlace → Core → Type 0
DidIdle aim log start None after core = ⊤
DidIdle aim log start (Some Nothing) after core = (rows_in aim core ≡ []) × (core.unsure ≡ false) × (start.unsure ≡ false → start.frozen ≡ true → core ≡ start)
DidIdle aim log start (Some (Planned count)) after core = (after ≡ fetching (work_in aim log core)) × (rows_in aim core ≡ [] → ⊥)
DidIdle aim log start (Some (Faulted (store_fault low high))) after core = ⊤
DidIdle aim log start (Some other) after core = ⊥

some_rows : (row : Row) (rows : List Row) → row ∷ rows ≡ [] → ⊥
some_rows row rows e = cc

rows_did : (aim : Aim) (log : Log) (start core : Core) (list : List Row) → rows_in aim core ≡ list → Looked start (Ok tt) core →
    let step = plan_with list (work_in aim log core) core in DidIdle aim log start step.outcome step.place step.core
rows_did aim log start core [] e l = (e, l.0, l.1)
rows_did aim log start core (row ∷ rows) e l = (refl, λ none. some_rows row rows (sym e ∙ none))

plan_did : (aim : Aim) (log : Log) (start : Core) (r : Result ⊤ Trouble) (core : Core) → Looked start r core → IfErr IsStoreTrouble r →
    let step = plan_by aim r log core in DidIdle aim log start step.outcome step.place step.core
plan_did aim log start (Ok done) core l h = rows_did aim log start core (rows_in aim core) refl l
plan_did aim log start (Err (faulted (store_fault low high))) core l h = tt
plan_did aim log start (Err (faulted (is_foreign key))) core l h = absurd h
plan_did aim log start (Err (faulted is_full)) core l h = absurd h
plan_did aim log start (Err (faulted (is_expired planned_at now))) core l h = absurd h
plan_did aim log start (Err no_memory) core l h = tt

-- ---- a fetch

abbrev FetchDid : Grace → Core → Result ⊤ Trouble → Core → Type 0
FetchDid grace start (Ok done) core = core.history ≡ start.history
FetchDid grace start (Err (faulted (store_fault low high))) core = ⊤
FetchDid grace start (Err (faulted (is_foreign key))) core = ⊥
FetchDid grace start (Err (faulted is_full)) core = ⊥
FetchDid grace start (Err (faulted (is_expired planned_at now))) core = (grace.until ≤ now) × (now ≡ core.moment) × (core.history ≡ start.history)
FetchDid grace start (Err no_memory) core = ⊤

module _ (grace : Grace) (fate : Fate) (start : Core) where
  abbrev Fetches : Gives Trouble ⊤ → Type 0
  Fetches given = FetchDid grace start given.answer given.core

  got_did : (b : Bool) (count : ℕ) → Fetches (got_file b count (begun fate.first (asked_clock start)))
  got_did true count = tt
  got_did false count = (same-landed fate.first.lands (record (asked_clock start) { store_faults = risen start.store_faults fate.first.rises })).history

  file_did : (b : Bool) → Fetches (or_short_call b no_memory fate.first (asked_clock start) (got_file (may_fail fate.first start.store_faults) start.store_faults (begun fate.first (asked_clock start))))
  file_did true = tt
  file_did false = got_did (may_fail fate.first start.store_faults) start.store_faults

  over_did : (b : Bool) → nat_le grace.until (asked_clock start).moment ≡ b → Fetches (unless_over b grace.planned_at (asked_clock start) (file_got fate.first (asked_clock start)))
  over_did true e = (leb-true grace.until (asked_clock start).moment e, refl, refl)
  over_did false e = file_did fate.first.short

  fetched_did : Fetches (fetched grace fate start)
  fetched_did = by fate.unasked
    where
      by : (b : Bool) → Fetches (asking b no_memory start (λ c. unless_over (nat_le grace.until c.moment) grace.planned_at c (file_got fate.first c)))
      by true = tt
      by false = over_did (nat_le grace.until (asked_clock start).moment) refl

-- The file is fetched, and nothing is taken in. It came too late where the grace of the plan was over.
abbrev pub DidFetch : Work → (more : List Row) → (start : Core) → Option UpkeepOutcome → WorkerPlace → Core → Type 0
DidFetch work more start None after core = ⊤
DidFetch work more start (Some (Fetched number)) after core = (after ≡ fetching (record work { unfetched = more })) × (core.history ≡ start.history)
DidFetch work more start (Some (Faulted (store_fault low high))) after core = ⊤
DidFetch work more start (Some (Faulted (is_expired planned_at now))) after core = (until_of work ≤ now) × (now ≡ core.moment) × (core.history ≡ start.history)
DidFetch work more start (Some other) after core = ⊥

fetch_did : (work : Work) (number : ℕ) (more : List Row) (start : Core) (r : Result ⊤ Trouble) (core : Core) → FetchDid (grace_in work) start r core →
    let step = fetch_by r work number more core in DidFetch work more start step.outcome step.place step.core
fetch_did work number more start (Ok done) core h = (refl, h)
fetch_did work number more start (Err (faulted (store_fault low high))) core h = tt
fetch_did work number more start (Err (faulted (is_foreign key))) core h = absurd h
fetch_did work number more start (Err (faulted is_full)) core h = absurd h
fetch_did work number more start (Err (faulted (is_expired planned_at now))) core h = h
fetch_did work number more start (Err no_memory) core h = tt

-- ---- a replacement is staged, or the row is raised

-- nothing of the planned row is covered
abbrev pub RaiseLost : Aim → Work → Core → Type 0
RaiseLost Merging work core = ⊥
RaiseLost Deleting work core = drops_none work core ≡ true

-- An entry was made; or it was refused behind what is taken in now, or the journal is full.
abbrev pub DidClose : Aim → Work → (start : Core) → Option UpkeepOutcome → WorkerPlace → Core → Type 0
DidClose aim work start None after core = ⊤
DidClose aim work start (Some (said.Staged number)) after core = ((held : WorkerHeld) × (after ≡ staged held)) × (length start.history < length core.history)
DidClose aim work start (Some (Raised number)) after core = (after ≡ idle) × (length start.history < length core.history)
DidClose aim work start (Some (Lost number refusal)) after core = (after ≡ idle) × RaiseLost aim work start
DidClose aim work start (Some (Refused refusal)) after core = (facts : RowFacts) × (answer_behind core.history (entry_of (stage_act [] facts core) core) ≡ Err refusal)
DidClose aim work start (Some (Faulted (store_fault low high))) after core = ⊤
DidClose aim work start (Some (Faulted is_full)) after core = max_entries ≤ length core.history
DidClose aim work start (Some other) after core = ⊥

module _ (aim : Aim) (work : Work) (start : Core) where
  abbrev Closes : Stepped → Type 0
  Closes step = DidClose aim work start step.outcome step.place step.core

  stage_did : (facts : RowFacts) (held : ℕ → WorkerHeld) (r : Result ⊤ Unmade) (core : Core) → Appends (stage_act [] facts) (length start.history) r core → IfErr IsOwnTrouble r → Closes (stage_by r held core)
  stage_did facts held (Ok done) core a own = ((_, refl), a)
  stage_did facts held (Err (refused refusal)) core a own = (facts, a)
  stage_did facts held (Err (troubled (faulted (store_fault low high)))) core a own = tt
  stage_did facts held (Err (troubled (faulted (is_foreign key)))) core a own = absurd own
  stage_did facts held (Err (troubled (faulted is_full))) core a own = a
  stage_did facts held (Err (troubled (faulted (is_expired planned_at now)))) core a own = absurd own
  stage_did facts held (Err (troubled no_memory)) core a own = tt

  raise_did : (number upto : ℕ) (r : Result ⊤ Unmade) (core : Core) → RaiseLost aim work start → Appends (λ c. Raise number upto) (length start.history) r core → IfErr IsOwnTrouble r → Closes (raise_by r number core)
  raise_did number upto (Ok done) core lost a own = (refl, a)
  raise_did number upto (Err (refused refusal)) core lost a own = (refl, lost)
  raise_did number upto (Err (troubled (faulted (store_fault low high)))) core lost a own = tt
  raise_did number upto (Err (troubled (faulted (is_foreign key)))) core lost a own = absurd own
  raise_did number upto (Err (troubled (faulted is_full))) core lost a own = a
  raise_did number upto (Err (troubled (faulted (is_expired planned_at now)))) core lost a own = absurd own
  raise_did number upto (Err (troubled no_memory)) core lost a own = tt

  module _ (luck : WorkerLuck) (low : AreLow (length start.history) start) where
    staging_did : (held : ℕ → WorkerHeld) → Closes (step_stage luck held start)
    staging_did held =
        let facts = held_facts (held 0) in
        let given = stage_call [] facts luck.world start in
        stage_did facts held given.answer given.core (appended_comes (stage_act [] facts) (length start.history) luck.world start (omega arith)) (appended_own luck.world (stage_act [] facts) start low)

    raising_did : (number upto : ℕ) → RaiseLost aim work start → Closes (step_raise luck number upto start)
    raising_did number upto lost =
        let given = raise_call number upto luck.world start in
        raise_did number upto given.answer given.core lost (appended_comes (λ c. Raise number upto) (length start.history) luck.world start (omega arith)) (appended_own luck.world (λ c. Raise number upto) start low)

close_did : (aim : Aim) (work : Work) (start : Core) (luck : WorkerLuck) → AreLow (length start.history) start → Closes aim work start (step_close aim luck work start)
close_did Merging work start luck low = staging_did Merging work start luck low (held_of Merging work start)
close_did Deleting work start luck low = by (drops_none work start) refl
  where
    by : (b : Bool) → drops_none work start ≡ b →
        Closes Deleting work start (if b then step_raise luck (first_number work.rows) work.upto start else step_stage luck (held_of Deleting work start) start)
    by true e = raising_did Deleting work start luck low (first_number work.rows) work.upto e
    by false e = staging_did Deleting work start luck low (held_of Deleting work start)

-- ---- its file is made

abbrev pub DidUpload : WorkerHeld → Option UpkeepOutcome → WorkerPlace → Core → Type 0
DidUpload held None after core = ⊤
DidUpload held (Some (Uploaded number)) after core = after ≡ uploaded held
DidUpload held (Some (Faulted (store_fault low high))) after core = ⊤
DidUpload held (Some other) after core = ⊥

upload_did : (held : WorkerHeld) (r : Result ⊤ Trouble) (core : Core) → IfErr IsStoreTrouble r → let step = upload_by r held core in DidUpload held step.outcome step.place step.core
upload_did held (Ok done) core h = refl
upload_did held (Err (faulted (store_fault low high))) core h = tt
upload_did held (Err (faulted (is_foreign key))) core h = absurd h
upload_did held (Err (faulted is_full)) core h = absurd h
upload_did held (Err (faulted (is_expired planned_at now))) core h = absurd h
upload_did held (Err no_memory) core h = tt

-- ---- the planned rows are replaced

abbrev pub DidReplace : Option UpkeepOutcome → WorkerPlace → Core → Type 0
DidReplace None after core = ⊤
DidReplace (Some (Replaced number)) after core = after ≡ idle
DidReplace (Some (Lost number refusal)) after core = after ≡ idle
DidReplace (Some (Faulted (store_fault low high))) after core = ⊤
DidReplace (Some (Faulted is_full)) after core = max_entries ≤ length core.history
DidReplace (Some other) after core = ⊥

replace_did : (act : Core → Act) (count number : ℕ) (r : Result ⊤ Unmade) (core : Core) → Appends act count r core → IfErr IsOwnTrouble r → let step = replace_by r number core in DidReplace step.outcome step.place step.core
replace_did act count number (Ok done) core a own = refl
replace_did act count number (Err (refused refusal)) core a own = refl
replace_did act count number (Err (troubled (faulted (store_fault low high)))) core a own = tt
replace_did act count number (Err (troubled (faulted (is_foreign key)))) core a own = absurd own
replace_did act count number (Err (troubled (faulted is_full))) core a own = a
replace_did act count number (Err (troubled (faulted (is_expired planned_at now)))) core a own = absurd own
replace_did act count number (Err (troubled no_memory)) core a own = tt

-- ---- a step

abbrev pub DidWork : Aim → Work → List Row → (start : Core) → Option UpkeepOutcome → WorkerPlace → Core → Type 0
DidWork aim work [] start outcome after core = DidClose aim work start outcome after core
DidWork aim work (row ∷ more) start outcome after core = DidFetch work more start outcome after core

-- what a step from a place answered, and where it led
abbrev pub Did : Aim → Log → WorkerPlace → (start : Core) → Option UpkeepOutcome → WorkerPlace → Core → Type 0
Did aim log idle start outcome after core = DidIdle aim log start outcome after core
Did aim log (fetching work) start outcome after core = DidWork aim work work.unfetched start outcome after core
Did aim log (staged held) start outcome after core = DidUpload held outcome after core
Did aim log (uploaded held) start outcome after core = DidReplace outcome after core

-- without memory there is no outcome
short_did : (D : Option UpkeepOutcome → WorkerPlace → Core → Type 0) → ((after : WorkerPlace) (core : Core) → D None after core) → (b : Bool) (step : Stepped) → D step.outcome step.place step.core →
    D (or_short b step).outcome (or_short b step).place (or_short b step).core
short_did D none true step d = none idle step.core
short_did D none false step d = d

module _ (aim : Aim) (luck : WorkerLuck) (log : Log) (start : Core) (low : AreLow (length start.history) start) where
  work_did : (work : Work) (unfetched : List Row) → let step = or_short luck.short (step_work aim luck work unfetched start) in DidWork aim work unfetched start step.outcome step.place step.core
  work_did work [] = short_did (DidClose aim work start) (λ after core. tt) luck.short (step_close aim luck work start) (close_did aim work start luck low)
  work_did work (row ∷ more) =
      let given = fetched (grace_in work) luck.world start in
      short_did (DidFetch work more start) (λ after core. tt) luck.short (fetch_by given.answer work row.number more given.core)
      (fetch_did work row.number more start given.answer given.core (fetched_did (grace_in work) luck.world start))

  pub step_did : (place : WorkerPlace) → WorkerIsFree start place → let step = step_worker aim luck log place start in Did aim log place start step.outcome step.place step.core
  step_did idle free =
      let given = asked_and_looked luck.world start in
      short_did (DidIdle aim log start) (λ after core. tt) luck.short (plan_by aim given.answer log given.core)
      (plan_did aim log start given.answer given.core (looks luck.world start) (asked_and_looked_own luck.world start))
  step_did (fetching work) free = work_did work work.unfetched
  step_did (staged held) free =
      let given = upload_made luck.world held.number (held_file held) start in
      short_did (DidUpload held) (λ after core. tt) luck.short (upload_by given.answer held given.core)
      (upload_did held given.answer given.core (file_own luck.world.first (split_key held.number) (held_file held) start free))
  step_did (uploaded held) free =
      let given = replace_call held.number held.old held.upto luck.world start in
      short_did DidReplace (λ after core. tt) luck.short (replace_by given.answer held.number given.core)
      (replace_did (λ c. Replace held.number held.old held.upto) (length start.history) held.number given.answer given.core
      (appended_comes (λ c. Replace held.number held.old held.upto) (length start.history) luck.world start (omega arith)) (appended_own luck.world (λ c. Replace held.number held.old held.upto) start low))
