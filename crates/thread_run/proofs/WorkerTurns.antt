-- A merger or a delete worker uses up its turns only where entries come: of each round one comes.
use Rattle.std.proofs.Common.{◌≡◌, inl, inr, ℕ, suc, ◌+◌, ◌*◌, ◌≤◌, ◌<◌, Bool, true, false, List, [], ◌∷◌, ◌++◌, length, refl, sym, ap, ◌∙◌, subst, append-nil, arith}
use Rattle.std.proofs.lemmas.List.{length-append}
use Rattle.std.specs.List.{AllByRecursion}
use Rattle.std.specs.Prelude.{◌-◌, IsOk, IsSomeAnd, Option, Some, None, Result, Ok, Err, ⊤, if◌then◌else◌}
use Rattle.meta_journal.specs.declared.entry.Act.TheVariants.{Raise}
use Rattle.meta_journal.specs.declared.entry.Entry.{Entry}
use Rattle.meta_store.proofs.Answered.{answered}
use Rattle.meta_store.proofs.Numbers.{each_found}
use Rattle.meta_store.proofs.Sound.{sound}
use Rattle.meta_store.specs.History.{history, last_opstamp, moment_of}
use Rattle.meta_store.specs.Readings.{config_of, reading_of}
use Rattle.meta_store.specs.Rows.{rows}
use Rattle.meta_store.specs.State.{Legal, MayCome, MayFollow, state_of}
use Rattle.meta_store.specs.declared.config.Config.{Config}
use Rattle.meta_store.specs.declared.refusal.Refusal.{Refusal}
use Rattle.source_log.specs.Log.{Log}
use Rattle.split_states.specs.Answers.{IsIn}
use Rattle.split_states.specs.Rows.{is_published, row_at}
use Rattle.split_states.specs.declared.rows.Row.{Row}
use Rattle.split_states.specs.declared.rows.RowState.{RowState}
use Rattle.split_states.specs.declared.rows.RowState.TheVariants.{Staged, Published, Marked}
use Rattle.index_world.specs.Calls.{Gives, gives, Trouble, faulted, no_memory, Unmade, refused, troubled, answer_behind, asked_and_looked, fetched, upload_made}
use Rattle.index_world.specs.CallsMade.{IsRecorded, made_of}
use Rattle.index_world.specs.Config.{reads}
use Rattle.index_world.specs.Core.{Core, Nobody}
use Rattle.index_world.specs.Gate.{raise_call, replace_call, stage_act, stage_call}
use Rattle.index_world.specs.Ran.{AreSteps, StepMade, calls_of}
use Rattle.index_world.specs.World.{GoesFor}
use Rattle.index_world.proofs.Asking.{Begun, begun_history}
use Rattle.index_world.proofs.Numbers.{revision_is}
use Rattle.index_world.proofs.Ran.{goes_then, steps_go}
use Rattle.indexing_run.proofs.Appended.{appended_longer}
use Rattle.root_search.proofs.NextReplies.{Begins, begins_on}
use Rattle.root_search.proofs.Stands.{legal_before}
use Rattle.root_search.proofs.Stretches.{longer}
use Rattle.root_search.proofs.TaskCalls.{appended_refused}
use Rattle.upkeep_run.specs.Asking.{ask_of}
use Rattle.upkeep_run.specs.Outcomes.{UpkeepOutcome}
use Rattle.upkeep_run.specs.Outcomes as said
use Rattle.upkeep_run.specs.Places.{Work, WorkerHeld, WorkerPlace, fetching, held_facts, held_file, idle, staged, uploaded}
use Rattle.upkeep_run.specs.Standing.{Answers}
use Rattle.upkeep_run.specs.Steps.{Stepped, WorkerLuck, drops_none, fetch_by, first_number, grace_in, held_of, or_short, plan_by, plan_with, raise_by, replace_by, rows_in, stage_by, step_close, step_place, step_raise, step_stage, step_work, step_worker, trouble_outcome, upload_by, work_in}
use Rattle.upkeep_run.specs.WorkAll.{WorkerAt, WorkerStep, core_there, end_of, worker_at}
use Rattle.upkeep_run.specs.Ending.{Told}
use Rattle.upkeep_run.specs.declared.outcome.UpkeepOutcome.TheVariants as answers
use Rattle.upkeep_run.specs.declared.work.Aim.{Aim}
use Rattle.upkeep_run.specs.declared.work.Aim.TheVariants.{Deleting, Merging}
use Rattle.upkeep_run.proofs.PlannedRows.{delete_rows, merge_rows}
use Rattle.thread_run.specs.Meanwhile.{IsCalled}
use Rattle.thread_run.proofs.Lists.{all_back, all_front}

-- ---- planned rows

published_is : (state : RowState) → is_published state ≡ true → state ≡ Published
published_is Staged e = absurd cc
published_is Published e = refl
published_is Marked e = absurd cc

some_published : (list : List Row) (row : Row) → row_at list row.number ≡ Some row → is_published row.state ≡ true → IsIn Published list row.number
some_published list row found published = subst (λ (o : Option Row). IsSomeAnd o (λ r. (r.state ≡ Published) × ⊤)) (sym found) (published_is row.state published, tt)

-- these rows are few, and were published behind these entries
pub record ArePlanned (planned : List Entry) (list : List Row) : Type 0 where
  pub few : length list ≤ 100
  pub published : AllByRecursion (λ row. IsIn Published (rows (history planned)) row.number) list

module _ (core : Core) (legal : Legal reads (history core.history)) where
  abbrev there : List Row
  there = rows (history core.history)

  each : AllByRecursion (λ row. (row_at there row.number ≡ Some row) × (is_published row.state ≡ true → IsIn Published there row.number)) there
  each = by there (each_found there (sound reads (history core.history) legal).held.apart)
    where
      by : (list : List Row) → AllByRecursion (λ row. row_at there row.number ≡ Some row) list →
          AllByRecursion (λ row. (row_at there row.number ≡ Some row) × (is_published row.state ≡ true → IsIn Published there row.number)) list
      by [] found = tt
      by (row ∷ list) found = ((found.0, some_published there row found.0), by list found.1)

  pub are_planned : (aim : Aim) → ArePlanned core.history (rows_in aim core)
  are_planned Merging =
      let r = merge_rows (λ row. IsIn Published there row.number) there each (config_of reads (history core.history)) core.moment (last_opstamp (history core.history)) in
      record { few = r.2; published = r.0 }
  are_planned Deleting =
      let r = delete_rows (λ row. IsIn Published there row.number) there each (config_of reads (history core.history)) core.moment (last_opstamp (history core.history)) in
      let one = r.1 in
      record { few = omega (arith, one); published = r.0 }

-- ---- a Raise that is refused

ok_apart : (refusal : Refusal) (r : Result (Unit {0}) Refusal) → r ≡ Err refusal → IsOk r → ⊥
ok_apart refusal (Ok done) e ok = absurd cc
ok_apart refusal (Err other) e ok = false_true ok
  where
    false_true : false ≡ true → ⊥
    false_true f = cc

-- behind entries where its row is published a Raise is not refused
raise_allowed : (es : List Entry) (moment n : ℕ) (refusal : Refusal) → Legal reads (history es) → 0 < length es → moment_of (history es) ≤ moment → IsIn Published (rows (history es)) n →
    answer_behind es (record { moment = moment; act = Raise n (last_opstamp (history es)) }) ≡ Err refusal → ⊥
raise_allowed es moment n refusal legal some late published e = ok_apart refusal (answer_behind es entry) e ((answered (reading_of reads (config_of reads (history es)) (Raise n upto)) (state_of reads (history es)) entry tt).1 may)
  where
    upto : ℕ
    upto = last_opstamp (history es)

    entry : Entry
    entry = record { moment = moment; act = Raise n (last_opstamp (history es)) }

    begun : Begun (history es)
    begun = begun_history (history es) legal (let r = revision_is es in omega (arith, r, some))

    may : MayFollow (reading_of reads (config_of reads (history es)) (Raise n (last_opstamp (history es)))) (state_of reads (history es)) entry
    may = (late, subst (λ (c : Option Config). MayCome (reading_of reads c (Raise n upto)) c (state_of reads (history es)) moment (Raise n upto)) (sym begun.is) (published, omega arith))

-- ---- how many steps are left at most

-- the rows of a plan behind these entries, which are some, and the task up to which they are to be applied
record IsOf (planned : List Entry) (work : Work) : Type 0 where
  some : 0 < length work.rows
  rows_are : ArePlanned planned work.rows
  upto : work.upto ≡ last_opstamp (history planned)

-- Of a journal that will have so many entries, where it has these by now: so many steps may be taken at most, and an entry comes for each 104 of them.
abbrev IsLeft : (top : ℕ) → WorkerPlace → List Entry → ℕ → Type 0
IsLeft top idle es left = (more : ℕ) × (more + length es ≡ top) × (left ≡ 104 * more + 102)
IsLeft top (fetching work) es left = (planned : List Entry) × Begins planned es × IsOf planned work × ((more : ℕ) × (more + length planned ≡ top) × (left ≡ 104 * more + (length work.unfetched + 1)))
IsLeft top (staged held) es left = (more : ℕ) × (more + length es ≡ top) × (left ≡ 104 * more + 104)
IsLeft top (uploaded held) es left = (more : ℕ) × (more + length es ≡ top) × (left ≡ 104 * more + 103)

-- a step that ends so is no end
abbrev Goes : Option UpkeepOutcome → Type 0
Goes None = ⊥
Goes (Some said.Nothing) = ⊥
Goes (Some (said.Planned count)) = ⊤
Goes (Some (said.Fetched number)) = ⊤
Goes (Some (said.Staged number)) = ⊤
Goes (Some (said.Uploaded number)) = ⊤
Goes (Some (said.Replaced number)) = ⊤
Goes (Some (said.Raised number)) = ⊤
Goes (Some (said.Lost number refusal)) = ⊤
Goes (Some (said.Refused refusal)) = ⊥
Goes (Some (said.Faulted fault)) = ⊥

-- a step that is no end leaves fewer
abbrev IsFewer : (top left : ℕ) → Stepped → Type 0
IsFewer top left step = Goes step.outcome → (next : ℕ) × IsLeft top step.place step.core.history next × (next < left)

-- what is left of the journal, where it has these entries
left_of : (top n : ℕ) → n ≤ top → (more : ℕ) × (more + n ≡ top)
left_of top n le = (top - n, omega (arith, le))

module _ (top left : ℕ) where
  trouble_ends : (trouble : Trouble) (core : Core) → IsFewer top left (record { outcome = trouble_outcome trouble; place = idle; core = core })
  trouble_ends (faulted fault) core goes = absurd goes
  trouble_ends no_memory core goes = absurd goes

  -- it is idle again, behind an entry more than these
  back_idle : (es now : List Entry) (more : ℕ) → more + length es ≡ top → 104 * more < left → length es < length now → length now ≤ top → (next : ℕ) × IsLeft top idle now next × (next < left)
  back_idle es now more is low longer_now within =
      let d = left_of top (length now) within in
      let here = d.1 in
      (104 * d.0 + 102, (d.0, d.1, refl), omega (arith, is, low, longer_now, here))

-- From the entries that were there when the step began, up to those of the core that it leaves.
module _ (aim : Aim) (luck : WorkerLuck) (log : Log) (core : Core) (es : List Entry) (top left : ℕ) where
  module _ (work : Work) (planned : List Entry) (begins : Begins planned es) (of : IsOf planned work) (more : ℕ) (rest : more + length planned ≡ top) (left_is : left ≡ 104 * more + (length work.unfetched + 1)) where
    fetch_fewer : (r : Result ⊤ Trouble) (row : Row) (rows : List Row) (c : Core) → work.unfetched ≡ row ∷ rows → Begins es c.history → IsFewer top left (fetch_by r work row.number rows c)
    fetch_fewer (Ok done) row rows c is on goes =
        let long : length work.unfetched ≡ suc (length rows) = ap (λ (l : List Row). length l) is in
        (104 * more + (length rows + 1), (planned, begins_on planned es c.history begins on, record { some = of.some; rows_are = of.rows_are; upto = of.upto }, (more, rest, refl)), omega (arith, left_is, long))
    fetch_fewer (Err trouble) row rows c is on goes = trouble_ends top left trouble c goes

    stage_fewer : (r : Result ⊤ Unmade) (held : ℕ → WorkerHeld) (c : Core) → (r ≡ Ok tt → length es < length c.history) → length c.history ≤ top → IsFewer top left (stage_by r held c)
    stage_fewer (Ok done) held c made within goes =
        let d = left_of top (length c.history) within in
        let here = d.1 in
        let came = made refl in
        let low = longer planned es begins in
        (104 * d.0 + 104, (d.0, d.1, refl), omega (arith, rest, left_is, here, came, low))
    stage_fewer (Err (refused refusal)) held c made within goes = absurd goes
    stage_fewer (Err (troubled trouble)) held c made within goes = trouble_ends top left trouble c goes

    raise_fewer : (r : Result ⊤ Unmade) (number : ℕ) (c : Core) → (r ≡ Ok tt → length es < length c.history) → ((refusal : Refusal) → r ≡ Err (refused refusal) → length planned < length c.history) → length c.history ≤ top →
        IsFewer top left (raise_by r number c)
    raise_fewer (Ok done) number c made lost within goes =
        let came = made refl in
        let low = longer planned es begins in
        back_idle top left planned c.history more rest (omega (arith, left_is)) (omega (arith, came, low)) within
    raise_fewer (Err (refused refusal)) number c made lost within goes = back_idle top left planned c.history more rest (omega (arith, left_is)) (lost refusal refl) within
    raise_fewer (Err (troubled trouble)) number c made lost within goes = trouble_ends top left trouble c goes

  rows_fewer : (list : List Row) (c : Core) → rows_in aim c ≡ list → ArePlanned c.history list → IsLeft top idle es left → Begins es c.history → length c.history ≤ top → IsFewer top left (plan_with list (work_in aim log c) c)
  rows_fewer [] c is planned here on within goes = absurd goes
  rows_fewer (row ∷ rows) c is planned here on within goes =
      let d = left_of top (length c.history) within in
      let there = d.1 in
      let few = planned.few in
      let up = longer es c.history on in
      let before = here.1 in
      let now = here.2 in
      let work = work_in aim log c in
      let long : length work.unfetched ≡ length (row ∷ rows) = ap (λ (l : List Row). length l) is in (
        104 * d.0 + (length work.unfetched + 1),
        (c.history, ([], sym (append-nil c.history)), record { some = (let e : length work.rows ≡ suc (length rows) = ap (λ (l : List Row). length l) is in omega (arith, e)); rows_are = subst (ArePlanned c.history) (sym is) planned; upto = refl }, (d.0, d.1, refl)),
        omega (arith, there, few, up, before, now, long),
      )

  plan_fewer : (r : Result ⊤ Trouble) (c : Core) → Legal reads (history c.history) → IsLeft top idle es left → Begins es c.history → length c.history ≤ top → IsFewer top left (plan_by aim r log c)
  plan_fewer (Ok done) c legal here on within = rows_fewer (rows_in aim c) c refl (are_planned c legal aim) here on within
  plan_fewer (Err trouble) c legal here on within = trouble_ends top left trouble c

  upload_fewer : (r : Result ⊤ Trouble) (held : WorkerHeld) (c : Core) → IsLeft top (staged held) es left → Begins es c.history → length c.history ≤ top → IsFewer top left (upload_by r held c)
  upload_fewer (Ok done) held c here on within goes =
      let d = left_of top (length c.history) within in
      let there = d.1 in
      let before = here.1 in
      let now = here.2 in
      let up = longer es c.history on in
      (104 * d.0 + 103, (d.0, d.1, refl), omega (arith, there, before, now, up))
  upload_fewer (Err trouble) held c here on within goes = trouble_ends top left trouble c goes

  replaced_idle : (held : WorkerHeld) (c : Core) → IsLeft top (uploaded held) es left → Begins es c.history → length c.history ≤ top → (next : ℕ) × IsLeft top idle c.history next × (next < left)
  replaced_idle held c here on within =
      let d = left_of top (length c.history) within in
      let there = d.1 in
      let before = here.1 in
      let now = here.2 in
      let up = longer es c.history on in
      (104 * d.0 + 102, (d.0, d.1, refl), omega (arith, there, before, now, up))

  replace_fewer : (r : Result ⊤ Unmade) (held : WorkerHeld) (c : Core) → IsLeft top (uploaded held) es left → Begins es c.history → length c.history ≤ top → IsFewer top left (replace_by r held.number c)
  replace_fewer (Ok done) held c here on within goes = replaced_idle held c here on within
  replace_fewer (Err (refused refusal)) held c here on within goes = replaced_idle held c here on within
  replace_fewer (Err (troubled trouble)) held c here on within goes = trouble_ends top left trouble c goes

-- ---- a step of the machine

done_of : (given : Gives Unmade ⊤) → given.answer ≡ Ok tt → given ≡ gives (Ok tt) given.core
done_of given e = ap (λ (r : Result ⊤ Unmade). gives r given.core) e

refused_of : (given : Gives Unmade ⊤) (refusal : Refusal) → given.answer ≡ Err (refused refusal) → given ≡ gives (Err (refused refusal)) given.core
refused_of given refusal e = ap (λ (r : Result ⊤ Unmade). gives r given.core) e

-- a raised row's number is that of the plan's first row
first_published : (planned : List Entry) (list : List Row) → 0 < length list → AllByRecursion (λ row. IsIn Published (rows (history planned)) row.number) list → IsIn Published (rows (history planned)) (first_number list)
first_published planned [] some all = absurd (omega (arith, some))
first_published planned (row ∷ list) some all = all.0

module _ (aim : Aim) (luck : WorkerLuck) (log : Log) (core : Core) (es : List Entry) (found : Begins es core.history) (top left : ℕ) where
  -- what the step leaves goes on from what it found
  record IsOn (step : Stepped) : Type 0 where
    on : Begins es step.core.history
    within : length step.core.history ≤ top
    legal : Legal reads (history step.core.history)
    some : 0 < length step.core.history
    late : Goes step.outcome → moment_of (history step.core.history) ≤ step.core.moment

  core_of_stage : (r : Result ⊤ Unmade) (held : ℕ → WorkerHeld) (c : Core) → (stage_by r held c).core ≡ c
  core_of_stage (Ok done) held c = refl
  core_of_stage (Err unmade) held c = refl

  core_of_raise : (r : Result ⊤ Unmade) (number : ℕ) (c : Core) → (raise_by r number c).core ≡ c
  core_of_raise (Ok done) number c = refl
  core_of_raise (Err unmade) number c = refl

  core_of_fetch : (r : Result ⊤ Trouble) (work : Work) (number : ℕ) (more : List Row) (c : Core) → (fetch_by r work number more c).core ≡ c
  core_of_fetch (Ok done) work number more c = refl
  core_of_fetch (Err trouble) work number more c = refl

  core_of_rows : (list : List Row) (work : Work) (c : Core) → (plan_with list work c).core ≡ c
  core_of_rows [] work c = refl
  core_of_rows (row ∷ rows) work c = refl

  core_of_plan : (r : Result ⊤ Trouble) (c : Core) → (plan_by aim r log c).core ≡ c
  core_of_plan (Ok done) c = core_of_rows (rows_in aim c) (work_in aim log c) c
  core_of_plan (Err trouble) c = refl

  core_of_upload : (r : Result ⊤ Trouble) (held : WorkerHeld) (c : Core) → (upload_by r held c).core ≡ c
  core_of_upload (Ok done) held c = refl
  core_of_upload (Err trouble) held c = refl

  core_of_replace : (r : Result ⊤ Unmade) (number : ℕ) (c : Core) → (replace_by r number c).core ≡ c
  core_of_replace (Ok done) number c = refl
  core_of_replace (Err unmade) number c = refl

  module _ (work : Work) (planned : List Entry) (begins : Begins planned es) (of : IsOf planned work) (more : ℕ) (rest : more + length planned ≡ top) (left_is : left ≡ 104 * more + (length work.unfetched + 1)) where
    staged_fewer : (held : ℕ → WorkerHeld) → IsOn (step_stage luck held core) → IsFewer top left (step_stage luck held core)
    staged_fewer held i =
        let given = stage_call [] (held_facts (held 0)) luck.world core in
        let same = core_of_stage given.answer held given.core in
        let up = longer es core.history found in
        stage_fewer aim luck log core es top left work planned begins of more rest left_is given.answer held given.core
        (λ done. let came = appended_longer (stage_act [] (held_facts (held 0))) luck.world core given.core (done_of given done) in omega (arith, came, up)) (subst (λ (c : Core). length c.history ≤ top) same i.within)

    -- a row is lost only where an entry came since its plan
    lost_longer : (number upto : ℕ) (c : Core) (refusal : Refusal) → number ≡ first_number work.rows → upto ≡ work.upto → Begins planned c.history → Legal reads (history c.history) → 0 < length c.history → moment_of (history c.history) ≤ c.moment →
        answer_behind c.history (record { moment = c.moment; act = Raise number upto }) ≡ Err refusal → length planned < length c.history
    lost_longer number upto c refusal number_is upto_is (more_entries, grown) legal any late refused_so = by more_entries grown
      where
        by : (extra : List Entry) → c.history ≡ planned ++ extra → length planned < length c.history
        by [] e =
            let same : c.history ≡ planned = e ∙ append-nil planned in
            let published : IsIn Published (rows (history c.history)) number =
            subst (λ (n : ℕ). IsIn Published (rows (history c.history)) n) (sym number_is)
            (subst (λ (xs : List Entry). IsIn Published (rows (history xs)) (first_number work.rows)) (sym same) (first_published planned work.rows of.some of.rows_are.published)) in
            let upto_here : upto ≡ last_opstamp (history c.history) = upto_is ∙ (of.upto ∙ ap (λ (xs : List Entry). last_opstamp (history xs)) (sym same)) in
            absurd (raise_allowed c.history c.moment number refusal legal any late published (subst (λ (u : ℕ). answer_behind c.history (record { moment = c.moment; act = Raise number u }) ≡ Err refusal) upto_here refused_so))
        by (entry ∷ extra) e = let long : length c.history ≡ length planned + length (entry ∷ extra) = ap (λ (l : List Entry). length l) e ∙ length-append planned (entry ∷ extra) in omega (arith, long)

    raised_fewer : IsOn (step_raise luck (first_number work.rows) work.upto core) → IsFewer top left (step_raise luck (first_number work.rows) work.upto core)
    raised_fewer i goes =
        let number = first_number work.rows in
        let given = raise_call number work.upto luck.world core in
        let same = core_of_raise given.answer number given.core in
        let up = longer es core.history found in
        let on : Begins es given.core.history = subst (λ (c : Core). Begins es c.history) same i.on in
        let legal : Legal reads (history given.core.history) = subst (λ (c : Core). Legal reads (history c.history)) same i.legal in
        let any : 0 < length given.core.history = subst (λ (c : Core). 0 < length c.history) same i.some in
        let late : moment_of (history given.core.history) ≤ given.core.moment = subst (λ (c : Core). moment_of (history c.history) ≤ c.moment) same (i.late goes) in
        raise_fewer aim luck log core es top left work planned begins of more rest left_is given.answer number given.core
        (λ done. let came = appended_longer (λ c. Raise number work.upto) luck.world core given.core (done_of given done) in omega (arith, came, up))
        (λ refusal e.
        lost_longer number work.upto given.core refusal refl refl (begins_on planned es given.core.history begins on) legal any late (appended_refused (λ c. Raise number work.upto) luck.world core given.core refusal (refused_of given refusal e)))
        (subst (λ (c : Core). length c.history ≤ top) same i.within) goes

    close_fewer : (which : Aim) → IsOn (step_close which luck work core) → IsFewer top left (step_close which luck work core)
    close_fewer Merging i = staged_fewer (held_of Merging work core) i
    close_fewer Deleting i = by (drops_none work core) i
      where
        by : (b : Bool) → IsOn (if b then step_raise luck (first_number work.rows) work.upto core else step_stage luck (held_of Deleting work core) core) →
            IsFewer top left (if b then step_raise luck (first_number work.rows) work.upto core else step_stage luck (held_of Deleting work core) core)
        by true j = raised_fewer j
        by false j = staged_fewer (held_of Deleting work core) j

    work_fewer : (unfetched : List Row) → work.unfetched ≡ unfetched → IsOn (step_work aim luck work unfetched core) → IsFewer top left (step_work aim luck work unfetched core)
    work_fewer [] is i = close_fewer aim i
    work_fewer (row ∷ rows) is i =
        let given = fetched (grace_in work) luck.world core in
        fetch_fewer aim luck log core es top left work planned begins of more rest left_is given.answer row rows given.core is (subst (λ (c : Core). Begins es c.history) (core_of_fetch given.answer work row.number rows given.core) i.on)

  place_fewer : (place : WorkerPlace) → IsLeft top place es left → IsOn (step_place aim place luck log core) → IsFewer top left (step_place aim place luck log core)
  place_fewer idle here i =
      let given = asked_and_looked luck.world core in
      let same = core_of_plan given.answer given.core in
      plan_fewer aim luck log core es top left given.answer given.core (subst (λ (c : Core). Legal reads (history c.history)) same i.legal) here (subst (λ (c : Core). Begins es c.history) same i.on) (subst (λ (c : Core). length c.history ≤ top) same i.within)
  place_fewer (fetching work) (planned, begins, of, (more, rest, is)) i = work_fewer work planned begins of more rest is work.unfetched refl i
  place_fewer (staged held) here i =
      let given = upload_made luck.world held.number (held_file held) core in
      let same = core_of_upload given.answer held given.core in
      upload_fewer aim luck log core es top left given.answer held given.core here (subst (λ (c : Core). Begins es c.history) same i.on) (subst (λ (c : Core). length c.history ≤ top) same i.within)
  place_fewer (uploaded held) here i =
      let given = replace_call held.number held.old held.upto luck.world core in
      let same = core_of_replace given.answer held.number given.core in
      replace_fewer aim luck log core es top left given.answer held given.core here (subst (λ (c : Core). Begins es c.history) same i.on) (subst (λ (c : Core). length c.history ≤ top) same i.within)

  step_fewer : (place : WorkerPlace) → IsLeft top place es left → IsOn (step_worker aim luck log place core) → IsFewer top left (step_worker aim luck log place core)
  step_fewer place here i = by luck.short i
    where
      by : (short : Bool) → IsOn (or_short short (step_place aim place luck log core)) → IsFewer top left (or_short short (step_place aim place luck log core))
      by true j = λ goes. absurd goes
      by false j = place_fewer place here j

-- ---- steps

goes_by : (told : Told) (o : Option UpkeepOutcome) → Answers told o → end_of told ≡ None → Goes o
goes_by (Ok answers.Nothing) o a e = absurd cc
goes_by (Ok (answers.Planned count)) None a e = absurd a
goes_by (Ok (answers.Planned count)) (Some o) a e = subst (λ x. Goes (Some x)) (sym a) tt
goes_by (Ok (answers.Fetched number)) None a e = absurd a
goes_by (Ok (answers.Fetched number)) (Some o) a e = subst (λ x. Goes (Some x)) (sym a) tt
goes_by (Ok (answers.Staged number)) None a e = absurd a
goes_by (Ok (answers.Staged number)) (Some o) a e = subst (λ x. Goes (Some x)) (sym a) tt
goes_by (Ok (answers.Uploaded number)) None a e = absurd a
goes_by (Ok (answers.Uploaded number)) (Some o) a e = subst (λ x. Goes (Some x)) (sym a) tt
goes_by (Ok (answers.Replaced number)) None a e = absurd a
goes_by (Ok (answers.Replaced number)) (Some o) a e = subst (λ x. Goes (Some x)) (sym a) tt
goes_by (Ok (answers.Raised number)) None a e = absurd a
goes_by (Ok (answers.Raised number)) (Some o) a e = subst (λ x. Goes (Some x)) (sym a) tt
goes_by (Ok (answers.Lost number refusal)) None a e = absurd a
goes_by (Ok (answers.Lost number refusal)) (Some o) a e = subst (λ x. Goes (Some x)) (sym a) tt
goes_by (Ok (answers.Refused refusal)) o a e = absurd cc
goes_by (Ok (answers.Fault error)) o a e = absurd cc
goes_by (Err short) o a e = absurd cc

-- Up to the last core. What was seen behind each call is no later than its moment.
module _ (log : Log) (Between : Core → Core → Type 0) (goes : (core mid : Core) → Between core mid → GoesFor Nobody core mid) (aim : Aim) (last : Core) (legal_last : Legal reads (history last.history)) where
  abbrev top : ℕ
  top = length last.history

  one_fewer : (from : WorkerAt) (step : StepMade Told) (to : WorkerAt) (s : WorkerStep Between aim log from step to) → end_of step.result ≡ None → 0 < length from.core.history → GoesFor Nobody to.core last →
      moment_of (history to.core.history) ≤ to.core.moment → (left : ℕ) → IsLeft top from.place from.core.history left → (next : ℕ) × IsLeft top to.place to.core.history next × (next < left)
  one_fewer from step to s none some to_last late left here =
      let up = (goes from.core s.mid s.passed).grown in
      let more = longer from.core.history to.core.history s.goes_on.grown in
      let P : Stepped → Type 0 = λ st. IsOn aim s.luck log s.mid from.core.history up top left st in
      let i : P (record { outcome = s.outcome; place = to.place; core = to.core }) = record {
        on = s.goes_on.grown;
        within = longer to.core.history last.history to_last.grown;
        legal = legal_before to.core.history last.history to_last.grown.0 to_last.grown.1 legal_last;
        some = omega (arith, some, more);
        late = λ g. late;
      } in
      let fewer = step_fewer aim s.luck log s.mid from.core.history up top left from.place here (subst P (sym s.did) i) in
      subst (λ (st : Stepped). IsFewer top left st) s.did fewer (goes_by step.result s.outcome s.answer none)

  never_short : (told : Told) (o : Option UpkeepOutcome) → Goes o → o ≡ None → ⊥
  never_short told None g e = g
  never_short told (Some o) g e = some_is_none o e
    where
      some_is_none : (x : UpkeepOutcome) → Some x ≡ None → ⊥
      some_is_none x f = cc

  -- a step that goes on has one call, which left its core
  one_made : (from : WorkerAt) (step : StepMade Told) (to : WorkerAt) (s : WorkerStep Between aim log from step to) → end_of step.result ≡ None → step.made ≡ made_of (ask_of aim from.place s.mid) to.core ∷ []
  one_made from step to s none = by s.recorded
    where
      by : IsRecorded (ask_of aim from.place s.mid) s.mid to.core (s.outcome ≡ None) step.made → step.made ≡ made_of (ask_of aim from.place s.mid) to.core ∷ []
      by (inl once) = once
      by (inr short) = absurd (never_short step.result s.outcome (goes_by step.result s.outcome s.answer none) short.2)

  -- steps none of which is an end are no more than are left
  all_fewer : (first exit : Core) (from to : WorkerAt) (steps : List (StepMade Told)) → AreSteps (WorkerStep Between aim log) from steps to → AllByRecursion (λ (step : StepMade Told). end_of step.result ≡ None) steps →
      AllByRecursion (IsCalled first exit) (calls_of steps) → GoesFor Nobody to.core last → 0 < length from.core.history → (left : ℕ) → IsLeft top from.place from.core.history left → length steps ≤ left
  all_fewer first exit from to [] are going called to_last some left here = omega arith
  all_fewer first exit from to (step ∷ steps) are going called to_last some left here =
      let there = are.0 in
      let s = are.1 in
      let rest = steps_go (WorkerStep Between aim log) core_there end_of (λ at. ⊤) (λ a x b t. t.goes_on) there to steps are.2 in
      let once = one_made from step there s going.0 in
      let call = (subst (AllByRecursion (IsCalled first exit)) once (all_front (IsCalled first exit) step.made (calls_of steps) called)).0 in
      let up = longer from.core.history there.core.history s.goes_on.grown in
      let fewer = one_fewer from step there s going.0 some (goes_then there.core to.core last rest to_last) call.greatest left here in
      let more = all_fewer first exit there to steps are.2 going.1 (all_back (IsCalled first exit) step.made (calls_of steps) called) to_last (omega (arith, some, up)) fewer.0 fewer.1 in
      let low = fewer.2 in
      omega (arith, more, low)

  -- from idle on
  pub turns_fewer : (first exit from : Core) (to : WorkerAt) (steps : List (StepMade Told)) → AreSteps (WorkerStep Between aim log) (worker_at idle from) steps to → AllByRecursion (λ (step : StepMade Told). end_of step.result ≡ None) steps →
      AllByRecursion (IsCalled first exit) (calls_of steps) → GoesFor Nobody to.core last → 0 < length from.history → length steps < 104 * (length last.history - length from.history + 1)
  turns_fewer first exit from to steps are going called to_last some =
      let way = goes_then from to.core last (steps_go (WorkerStep Between aim log) core_there end_of (λ at. ⊤) (λ a x b t. t.goes_on) (worker_at idle from) to steps are) to_last in
      let up = longer from.history last.history way.grown in
      let d = left_of top (length from.history) up in
      let is = d.1 in
      let few = all_fewer first exit (worker_at idle from) to steps are going called to_last some (104 * d.0 + 102) (d.0, d.1, refl) in
      omega (arith, is, few)
