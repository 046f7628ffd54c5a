-- What a delete worker says of each line is what it did, by the journal at exit.
use Rattle.std.proofs.Common.{◌≡◌, ◌⊎◌, ◌≢◌, ℕ, ◌<◌, ◌≤◌, Bool, true, false, cond, List, [], ◌∷◌, ◌++◌, find, length, option_map, refl, sym, ap, ap₂, ◌∙◌, subst, inl, inr, arith}
use Rattle.std.proofs.Math.Seq.{take-length}
use Rattle.std.specs.List.{AllByRecursion}
use Rattle.std.specs.Prelude.{Some, None, Result, Ok, Err, ⊤}
use Rattle.meta_journal.specs.declared.entry.Act.TheVariants.{Raise, Replace}
use Rattle.meta_journal.specs.declared.entry.Entry.{Entry}
use Rattle.meta_store.specs.History.{history, last_number, last_opstamp}
use Rattle.meta_store.specs.Planning.{is_behind}
use Rattle.meta_store.specs.Rows.{rows}
use Rattle.meta_store.specs.State.{Legal}
use Rattle.meta_store.specs.declared.refusal.Refusal.{Refusal}
use Rattle.source_log.specs.Log.{Log}
use Rattle.split_states.specs.Answers.{IsIn, answer_to_raise}
use Rattle.split_states.specs.declared.rows.Row.{Row}
use Rattle.split_states.specs.declared.rows.RowState.TheVariants.{Published}
use Rattle.index_world.specs.Calls.{Trouble, faulted, no_memory, Unmade, refused, troubled, answer_behind, asked_and_looked, fetched, upload_made}
use Rattle.index_world.specs.Config.{reads}
use Rattle.index_world.specs.Core.{Core}
use Rattle.index_world.specs.Gate.{raise_call, replace_call, stage_act, stage_call}
use Rattle.index_world.specs.Index.{HasStaged}
use Rattle.index_world.proofs.Replaced.{opstamps_on}
use Rattle.upkeep_run.specs.Outcomes.{UpkeepOutcome}
use Rattle.upkeep_run.specs.Outcomes as said
use Rattle.upkeep_run.specs.Places.{WorkerHeld, WorkerPlace, Work, fetching, held_facts, held_file, idle, row_numbers, staged, uploaded}
use Rattle.upkeep_run.specs.Steps.{WorkerLuck, Stepped, drops_none, fetch_by, first_number, grace_in, held_of, or_short, plan_by, plan_with, raise_by, replace_by, rows_in, stage_by, step_place, step_raise, step_stage, step_work, step_worker, trouble_outcome, upload_by, work_in}
use Rattle.upkeep_run.specs.declared.work.Aim.TheVariants.{Merging, Deleting}
use Rattle.node_run.specs.Node.{Node, Line, Outcome, worker_said, worker_restarted, node_restarted, node_failed}
use Rattle.node_run.specs.Turns.{Turns}
use Rattle.call_laws.proofs.CallMoves.{Grows}
use Rattle.node_run.proofs.Moving.{turn_later, turns_later}
use Rattle.node_run.proofs.WorkerMoves.{fetched_same, planned_same, raised_same, replaced_same, staged_same, uploaded_same}
use Rattle.quick_node.specs.Applies.{Applied, Applies, AppliesFrom, Applying, IsApplied, IsLost, IsRaising, IsUnraised, Progress, Settled, Settles, SettlesFrom, behind_at, last_task}
use Rattle.quick_node.specs.Applies as doing
use Rattle.quick_node.specs.Reading.{last_moment}
use Rattle.quick_node.specs.Replaces.{IsHindered}
use Rattle.quick_node.specs.Serve.{IsPrefixOf, Before, After, End, HasEnd, IsFresh, Answers, Lives}
use Rattle.quick_node.proofs.ApplyCalls.{all_applied, is_unraised, none_first, picks_one, tail_same, head_same}
use Rattle.quick_node.proofs.Beginning.{RiseFrom, end_rises, lives_say, starts}
use Rattle.quick_node.proofs.Clocks.{turn_ticks}
use Rattle.quick_node.proofs.Files.{IsTimed, appended_few}
use Rattle.quick_node.proofs.Prefixes.{crowded_on, entry_on, front_legal, hindered_on, longer, refused_on, replacing_on, same_front, staged_on, staging_on}
use Rattle.quick_node.proofs.MergeCalls.{Appends, appended_says, is_crowded, is_hindered, is_refused, made_stands, stages_now}
use Rattle.quick_node.proofs.Searching.{prefix_on}
use Rattle.quick_node.proofs.Timing.{Rises, turn_timed}
use Rattle.quick_node.proofs.WorkerLines.{IsDrop, IsOther, Steps, WorkerLine, worker_line}
use Rattle.quick_node.proofs.Working.{appended_came}

-- ---- what a delete worker holds between its lines

-- the one row of a plan
record IsPlanOf (entries : List Entry) (work : Applying) (held : Work) : Type 0 where
  row : Row
  rows : held.rows ≡ row ∷ []
  number : row.number ≡ work.row
  upto : held.upto ≡ work.upto
  known : work.upto ≤ last_opstamp (history entries)

-- and whether its file was fetched
abbrev IsFetched : Progress → Applying → Work → Type 0
IsFetched at work held = ((held.unfetched ≡ held.rows) × (at ≡ doing.planned work)) ⊎ ((held.unfetched ≡ []) × (at ≡ doing.fetched work))

record HoldsWork (entries : List Entry) (at : Progress) (held : Work) : Type 0 where
  work : Applying
  plan : IsPlanOf entries work held
  is : IsFetched at work held

record HoldsRow (entries : List Entry) (at : Progress) (held : WorkerHeld) (made : Applying → Progress) : Type 0 where
  work : Applying
  is : at ≡ made work
  old : held.old ≡ work.row ∷ []
  upto : held.upto ≡ work.upto
  known : work.upto ≤ last_opstamp (history entries)
  staged : HasStaged entries held.number [] (held_facts held)

abbrev Holds : List Entry → Progress → WorkerPlace → Type 0
Holds entries at idle = at ≡ doing.idle
Holds entries at (fetching held) = HoldsWork entries at held
Holds entries at (staged held) = HoldsRow entries at held (λ work. doing.staged work held.number)
Holds entries at (uploaded held) = HoldsRow entries at held (λ work. doing.uploaded work held.number)

-- ---- over a longer journal

known_on : (es more : List Entry) (upto : ℕ) → Legal reads (history (es ++ more)) → upto ≤ last_opstamp (history es) → upto ≤ last_opstamp (history (es ++ more))
known_on es more upto legal known = let on = opstamps_on es more legal in omega (arith, on, known)

row_on : (es more : List Entry) (at : Progress) (held : WorkerHeld) (made : Applying → Progress) → Legal reads (history (es ++ more)) → HoldsRow es at held made → HoldsRow (es ++ more) at held made
row_on es more at held made legal h = record {
  work = h.work;
  is = h.is;
  old = h.old;
  upto = h.upto;
  known = known_on es more h.work.upto legal h.known;
  staged = staged_on es more held.number (held_facts held) legal h.staged;
}

plan_on : (es more : List Entry) (work : Applying) (held : Work) → Legal reads (history (es ++ more)) → IsPlanOf es work held → IsPlanOf (es ++ more) work held
plan_on es more work held legal h = record { row = h.row; rows = h.rows; number = h.number; upto = h.upto; known = known_on es more work.upto legal h.known }

holds_on : (es more : List Entry) (at : Progress) (place : WorkerPlace) → Legal reads (history (es ++ more)) → Holds es at place → Holds (es ++ more) at place
holds_on es more at idle legal h = h
holds_on es more at (fetching held) legal h = record { work = h.work; plan = plan_on es more h.work held legal h.plan; is = h.is }
holds_on es more at (staged held) legal h = row_on es more at held (λ work. doing.staged work held.number) legal h
holds_on es more at (uploaded held) legal h = row_on es more at held (λ work. doing.uploaded work held.number) legal h

module _ (entries exit : List Entry) (p : IsPrefixOf entries exit) (least lower : ℕ) (le : lower ≤ least) where
  last_on : (revision : ℕ) → revision ≤ length entries → last_task revision entries ≡ last_task revision exit
  last_on revision short = ap (λ (es : List Entry). last_opstamp (history es)) (sym (same_front entries exit p revision short))

  behind_on : (revision : ℕ) → revision ≤ length entries → behind_at revision exit ≡ behind_at revision entries
  behind_on revision short =
      ap (λ (es : List Entry). option_map (λ (r : Row). r.number) (find (is_behind (last_opstamp (history es))) (rows (history es)))) (same_front entries exit p revision short)

  unraised_on : (revision row : ℕ) (refusal : Refusal) → revision ≤ length entries → IsUnraised revision entries row refusal → IsUnraised revision exit row refusal
  unraised_on revision row refusal short h =
      let same = sym (same_front entries exit p revision short) in (
        h.0,
        subst (λ (es : List Entry). IsIn Published (rows (history es)) row → ⊥) same h.1,
        subst (λ (es : List Entry). answer_to_raise (rows (history es)) row ≡ Err h.0) same h.2,
        h.3,
      )

  lost_on : (revision : ℕ) (at : Progress) (work : Applying) (number : ℕ) (refusal : Refusal) → revision ≤ length entries → IsLost revision entries at work number refusal → IsLost revision exit at work number refusal
  lost_on revision at work number refusal short (inl h) = inl (h.0, h.1, unraised_on revision number refusal short h.2)
  lost_on revision at work number refusal short (inr h) =
      inr (h.0, hindered_on entries exit p revision number (work.row ∷ []) short h.1, refused_on entries exit p revision number (work.row ∷ []) refusal short h.2)

  raising_on : (place : ℕ) (work : Applying) → IsRaising entries place work → IsRaising exit place work
  raising_on place work r = (r.0, entry_on entries exit p place r.0 r.1, r.2)

  applied_on : (at after : Progress) (outcome : UpkeepOutcome) → Applied entries least (length entries) at after outcome → Applied exit lower (length entries) at after outcome
  applied_on at after said.Nothing m = m
  applied_on at after (said.Planned count) m = (m.0, m.1, omega (arith, le, m.2), m.3, m.4, m.5, behind_on m.0 m.3 ∙ m.6, m.7 ∙ ap (λ (n : ℕ). doing.planned (record { row = m.1; upto = n })) (last_on m.0 m.3))
  applied_on at after (said.Fetched number) m = m
  applied_on at after (said.Staged number) m = (m.0, m.1, omega (arith, le, m.2), m.3, m.4, staging_on entries exit p m.1 number m.5, m.6)
  applied_on at after (said.Uploaded number) m = m
  applied_on at after (said.Replaced number) m =
      let work = m.0 in (m.0, m.1, omega (arith, le, m.2), m.3, m.4, replacing_on entries exit p m.1 number (work.row ∷ []) work.upto m.5, m.6)
  applied_on at after (said.Raised number) m = (m.0, m.1, omega (arith, le, m.2), m.3, m.4, m.5, raising_on m.1 m.0 m.6, m.7)
  applied_on at after (said.Lost number refusal) m = (m.0, m.1, omega (arith, le, m.2), m.3, lost_on m.1 at m.0 number refusal m.3 m.4, m.5)
  applied_on at after (said.Refused refusal) m = (m.0, m.1, omega (arith, le, m.2), m.3, m.4, crowded_on entries exit p m.1 refusal m.3 m.5, m.6)
  applied_on at after (said.Faulted fault) m = m

  settled_on : (outcome : UpkeepOutcome) → Settled entries least (length entries) outcome → Settled exit lower (length entries) outcome
  settled_on said.Nothing r = (
    r.0,
    omega (arith, le, r.1),
    r.2,
    subst (λ (es : List Entry). AllByRecursion (IsApplied (last_opstamp (history es))) (rows (history es))) (sym (same_front entries exit p r.0 r.2)) r.3,
  )
  settled_on outcome r = tt

-- ---- a step

-- by its outcome: what it says, and what it holds then
record Did (start : Core) (at : Progress) (outcome : UpkeepOutcome) (place : WorkerPlace) (core : Core) : Type 0 where
  after : Progress
  applied : Applied core.history (length start.history) (length core.history) at after outcome
  settled : Settled core.history (length start.history) (length core.history) outcome
  holds : Holds core.history after place

abbrev DidStep : Core → Progress → Stepped → Type 0
DidStep start at step = (outcome : UpkeepOutcome) → step.outcome ≡ Some outcome → Did start at outcome step.place step.core

none_some : {X : Type 0} (x : X) → None ≡ Some x → ⊥
none_some x e = cc

outcome_same : (a b : UpkeepOutcome) → Some a ≡ Some b → a ≡ b
outcome_same a b e = cc

one_some : (n : ℕ) → (n ∷ []) ≢ []
one_some n e = cc

module _ (start : Core) (at : Progress) where
  said_is : (outcome : UpkeepOutcome) (place : WorkerPlace) (core : Core) → Did start at outcome place core → (o : UpkeepOutcome) → Some outcome ≡ Some o → Did start at o place core
  said_is outcome place core d o e = subst (λ (x : UpkeepOutcome). Did start at x place core) (outcome_same outcome o e) d

  trouble_did : (trouble : Trouble) (core : Core) (o : UpkeepOutcome) → trouble_outcome trouble ≡ Some o → Did start at o idle core
  trouble_did (faulted fault) core o e = said_is (said.Faulted fault) idle core (record { after = doing.idle; applied = refl; settled = tt; holds = refl }) o e
  trouble_did no_memory core o e = absurd (none_some o e)

  module _ (core : Core) (up : length start.history ≤ length core.history) (legal : Legal reads (history core.history)) (some : 0 < length core.history) where
    -- ---- a plan

    rows_did : at ≡ doing.idle → (list : List Row) (held : Work) → rows_in Deleting core ≡ list → held.rows ≡ list → held.unfetched ≡ list → held.upto ≡ last_opstamp (history core.history) → DidStep start at (plan_with list held core)
    rows_did h [] held is rows left last o e =
        said_is said.Nothing idle core (record { after = doing.idle; applied = (h, refl); settled = (length core.history, up, omega arith, all_applied core legal some is); holds = refl }) o e
    rows_did h (row ∷ list) held is rows left last o e =
        said_is (said.Planned (length (row ∷ list))) (fetching held) core
        (record {
          after = doing.planned work;
          applied = (length core.history, row.number, up, omega arith, h, one, picked.1, refl);
          settled = tt;
          holds = record {
            work = work;
            plan = record { row = row; rows = rows ∙ ap (λ (l : List Row). row ∷ l) picked.0; number = refl; upto = last ∙ sym last_is; known = omega (arith, last_is) };
            is = inl (left ∙ sym rows, refl);
          };
        }) o e
      where
        work : Applying
        work = record { row = row.number; upto = last_task (length core.history) core.history }

        picked : (list ≡ []) × (behind_at (length core.history) core.history ≡ Some row.number)
        picked = picks_one core legal some row list is

        one : length (row ∷ list) ≡ 1
        one = let none = ap (λ (l : List Row). length l) picked.0 in omega (arith, none)

        last_is : last_task (length core.history) core.history ≡ last_opstamp (history core.history)
        last_is = ap (λ (es : List Entry). last_opstamp (history es)) (take-length core.history)

    plan_did : at ≡ doing.idle → (log : Log) (r : Result ⊤ Trouble) → DidStep start at (plan_by Deleting r log core)
    plan_did h log (Ok done) o e = rows_did h (rows_in Deleting core) (work_in Deleting log core) refl refl refl refl o e
    plan_did h log (Err trouble) o e = trouble_did trouble core o e

    -- ---- a fetch

    fetch_did : (r : Result ⊤ Trouble) (work : Applying) (held : Work) (row : Row) (more : List Row) → IsPlanOf core.history work held → at ≡ doing.planned work → row.number ≡ work.row → more ≡ [] → DidStep start at (fetch_by r held row.number more core)
    fetch_did (Ok done) work held row more plan is number none o e =
        said_is (said.Fetched row.number) (fetching (record held { unfetched = more })) core
        (record {
          after = doing.fetched work;
          applied = (work, is, number, refl);
          settled = tt;
          holds = record { work = work; plan = record { row = plan.row; rows = plan.rows; number = plan.number; upto = plan.upto; known = plan.known }; is = inr (none, refl) };
        }) o e
    fetch_did (Err trouble) work held row more plan is number none o e = trouble_did trouble core o e

    -- ---- the row is raised

    raise_did : (r : Result ⊤ Unmade) (work : Applying) (number upto : ℕ) → number ≡ work.row → upto ≡ work.upto → work.upto ≤ last_opstamp (history core.history) → at ≡ doing.fetched work → IsTimed core →
        Appends (λ c. Raise number upto) start r core → DidStep start at (raise_by r number core)
    raise_did (Ok done) work number upto same last known is t a o e =
        let new = made_stands (λ c. Raise number upto) start core a in
        said_is (said.Raised number) idle core
        (record {
          after = doing.idle;
          applied = (work, new.place, new.least, new.below, is, same, (new.entry, new.there, new.is ∙ ap₂ (λ (n last : ℕ). Raise n last) same last), refl);
          settled = tt;
          holds = refl;
        }) o e
    raise_did (Err (refused refusal)) work number upto same last known is t a o e =
        let lost = is_unraised core.history core.moment legal some t.least number upto refusal (omega (arith, last, known)) a.1 in
        said_is (said.Lost number refusal) idle core
        (record { after = doing.idle; applied = (work, length core.history, up, omega arith, inl (is, same, lost), refl); settled = tt; holds = refl }) o e
    raise_did (Err (troubled trouble)) work number upto same last known is t a o e = trouble_did trouble core o e

    -- ---- another row is staged in its place

    stage_did : (r : Result ⊤ Unmade) (work : Applying) (held : Work) (before : Core) → IsPlanOf core.history work held → at ≡ doing.fetched work → IsTimed core →
        Appends (stage_act [] (held_facts (held_of Deleting held before 0))) start r core → DidStep start at (stage_by r (held_of Deleting held before) core)
    stage_did (Ok done) work held before plan is t a o e =
        let now = stages_now (held_facts (held_of Deleting held before 0)) start core legal a in
        let new = now.stands in
        said_is (said.Staged (last_number (history core.history))) (staged (held_of Deleting held before (last_number (history core.history)))) core
        (record {
          after = doing.staged work (last_number (history core.history));
          applied = (work, new.place, new.least, new.below, is, (new.entry, held_facts (held_of Deleting held before 0), new.there, new.is), refl);
          settled = tt;
          holds = record {
            work = work;
            is = refl;
            old = ap row_numbers plan.rows ∙ ap (λ (n : ℕ). n ∷ []) plan.number;
            upto = plan.upto;
            known = plan.known;
            staged = now.staged;
          };
        }) o e
    stage_did (Err (refused refusal)) work held before plan is t a o e =
        said_is (said.Refused refusal) idle core
        (record {
          after = doing.idle;
          applied = (
            work,
            length core.history,
            up,
            omega arith,
            is,
            is_crowded core.history core.moment legal some t.least [] (held_facts (held_of Deleting held before 0)) refusal refl a.1,
            refl,
          );
          settled = tt;
          holds = refl;
        }) o e
    stage_did (Err (troubled trouble)) work held before plan is t a o e = trouble_did trouble core o e

    -- ---- its file is made

    upload_did : (r : Result ⊤ Trouble) (held : WorkerHeld) → HoldsRow core.history at held (λ work. doing.staged work held.number) → DidStep start at (upload_by r held core)
    upload_did (Ok done) held h o e =
        said_is (said.Uploaded held.number) (uploaded held) core
        (record {
          after = doing.uploaded h.work held.number;
          applied = (h.work, h.is, refl);
          settled = tt;
          holds = record { work = h.work; is = refl; old = h.old; upto = h.upto; known = h.known; staged = h.staged };
        }) o e
    upload_did (Err trouble) held h o e = trouble_did trouble core o e

    -- ---- the row is replaced

    replace_did : (r : Result ⊤ Unmade) (held : WorkerHeld) → HoldsRow core.history at held (λ work. doing.uploaded work held.number) → IsTimed core → Appends (λ c. Replace held.number held.old held.upto) start r core →
        DidStep start at (replace_by r held.number core)
    replace_did (Ok done) held h t a o e =
        let new = made_stands (λ c. Replace held.number held.old held.upto) start core a in
        said_is (said.Replaced held.number) idle core
        (record {
          after = doing.idle;
          applied = (h.work, new.place, new.least, new.below, h.is, (new.entry, new.there, new.is ∙ ap₂ (λ (old : List ℕ) (upto : ℕ). Replace held.number old upto) h.old h.upto), refl);
          settled = tt;
          holds = refl;
        }) o e
    replace_did (Err (refused refusal)) held h t a o e =
        said_is (said.Lost held.number refusal) idle core
        (record {
          after = doing.idle;
          applied = (
            h.work,
            length core.history,
            up,
            omega arith,
            inr (h.is, hindered, is_refused core.history core.moment legal some t.least held.number (h.work.row ∷ []) h.work.upto refusal h.known same),
            refl,
          );
          settled = tt;
          holds = refl;
        }) o e
      where
        same : answer_behind core.history (record { moment = core.moment; act = Replace held.number (h.work.row ∷ []) h.work.upto }) ≡ Err refusal
        same = ap₂ (λ (old : List ℕ) (upto : ℕ). answer_behind core.history (record { moment = core.moment; act = Replace held.number old upto })) (sym h.old) (sym h.upto) ∙ a.1

        hindered : IsHindered (length core.history) core.history held.number (h.work.row ∷ [])
        hindered =
            is_hindered core.history core.moment held.number (h.work.row ∷ []) h.work.upto (held_facts held) legal some t.least h.known h.staged (one_some h.work.row) (refl, tt) refusal same
    replace_did (Err (troubled trouble)) held h t a o e = trouble_did trouble core o e

-- ---- what a step of the machine did

module _ (luck : WorkerLuck) (log : Log) (start : Core) (at : Progress) (t : IsTimed start) (some : 0 < length start.history) where
  abbrev DidAll : Stepped → Type 0
  DidAll step = Legal reads (history step.core.history) → Grows start step.core → DidStep start at step

  up : (core : Core) → Grows start core → length start.history ≤ length core.history
  up core g = longer start.history core.history g

  more : (core : Core) → Grows start core → 0 < length core.history
  more core g = let l = up core g in omega (arith, l, some)

  carried : (core : Core) (place : WorkerPlace) → Legal reads (history core.history) → Grows start core → Holds start.history at place → Holds core.history at place
  carried core place legal g h =
      subst (λ (es : List Entry). Holds es at place) (sym g.1) (holds_on start.history g.0 at place (subst (λ (es : List Entry). Legal reads (history es)) g.1 legal) h)

  plan_carried : (core : Core) (work : Applying) (held : Work) → Legal reads (history core.history) → Grows start core → IsPlanOf start.history work held → IsPlanOf core.history work held
  plan_carried core work held legal g plan =
      subst (λ (es : List Entry). IsPlanOf es work held) (sym g.1) (plan_on start.history g.0 work held (subst (λ (es : List Entry). Legal reads (history es)) g.1 legal) plan)

  module _ (work : Applying) (held : Work) (plan : IsPlanOf start.history work held) where
    raising_did : at ≡ doing.fetched work → DidAll (step_raise luck (first_number held.rows) held.upto start)
    raising_did is legal g =
        let given = raise_call (first_number held.rows) held.upto luck.world start in
        let same = raised_same given.answer (first_number held.rows) given.core in
        let legal_here = subst (λ (c : Core). Legal reads (history c.history)) same legal in
        let grown = subst (Grows start) same g in
        raise_did start at given.core (up given.core grown) legal_here (more given.core grown) given.answer work (first_number held.rows) held.upto (ap first_number plan.rows ∙ plan.number) plan.upto
        (plan_carried given.core work held legal_here grown plan).known is
        ((appended_came (λ c. Raise (first_number held.rows) held.upto) luck.world start).timed t) (appended_says (λ c. Raise (first_number held.rows) held.upto) luck.world start)

    staging_did : at ≡ doing.fetched work → DidAll (step_stage luck (held_of Deleting held start) start)
    staging_did is legal g =
        let facts = held_facts (held_of Deleting held start 0) in
        let given = stage_call [] facts luck.world start in
        let same = staged_same given.answer (held_of Deleting held start) given.core in
        let legal_here = subst (λ (c : Core). Legal reads (history c.history)) same legal in
        let grown = subst (Grows start) same g in
        stage_did start at given.core (up given.core grown) legal_here (more given.core grown) given.answer work held start (plan_carried given.core work held legal_here grown plan) is
        ((appended_few (stage_act [] facts) (λ c. tt) luck.world start).timed t) (appended_says (stage_act [] facts) luck.world start)

    close_did : at ≡ doing.fetched work → (b : Bool) → DidAll (cond b (step_raise luck (first_number held.rows) held.upto start) (step_stage luck (held_of Deleting held start) start))
    close_did is true = raising_did is
    close_did is false = staging_did is

    fetching_did : (row : Row) (rest : List Row) → at ≡ doing.planned work → row ∷ rest ≡ plan.row ∷ [] → DidAll (step_work Deleting luck held (row ∷ rest) start)
    fetching_did row rest is one legal g =
        let given = fetched (grace_in held) luck.world start in
        let same = fetched_same given.answer held row.number rest given.core in
        let legal_here = subst (λ (c : Core). Legal reads (history c.history)) same legal in
        let grown = subst (Grows start) same g in
        fetch_did start at given.core (up given.core grown) legal_here (more given.core grown) given.answer work held row rest (plan_carried given.core work held legal_here grown plan) is
        (ap (λ (r : Row). r.number) (head_same row plan.row rest [] one) ∙ plan.number) (tail_same row plan.row rest [] one)

    work_did : (unfetched : List Row) → held.unfetched ≡ unfetched → IsFetched at work held → DidAll (step_work Deleting luck held unfetched start)
    work_did [] left (inl h) = absurd (none_first plan.row [] (sym left ∙ h.0 ∙ plan.rows))
    work_did [] left (inr h) = close_did h.1 (drops_none held start)
    work_did (row ∷ rest) left (inl h) = fetching_did row rest h.1 (sym left ∙ h.0 ∙ plan.rows)
    work_did (row ∷ rest) left (inr h) = absurd (none_first row rest (sym h.0 ∙ left))

  place_did : (place : WorkerPlace) → Holds start.history at place → DidAll (step_place Deleting place luck log start)
  place_did idle h legal g =
      let given = asked_and_looked luck.world start in
      let same = planned_same Deleting given.answer log given.core in
      let grown = subst (Grows start) same g in
      plan_did start at given.core (up given.core grown) (subst (λ (c : Core). Legal reads (history c.history)) same legal) (more given.core grown) h log given.answer
  place_did (fetching held) h legal g = work_did h.work held h.plan held.unfetched refl h.is legal g
  place_did (staged held) h legal g =
      let given = upload_made luck.world held.number (held_file held) start in
      let same = uploaded_same given.answer held given.core in
      let legal_here = subst (λ (c : Core). Legal reads (history c.history)) same legal in
      let grown = subst (Grows start) same g in
      upload_did start at given.core (up given.core grown) legal_here (more given.core grown) given.answer held (carried given.core (staged held) legal_here grown h)
  place_did (uploaded held) h legal g =
      let given = replace_call held.number held.old held.upto luck.world start in
      let same = replaced_same given.answer held.number given.core in
      let legal_here = subst (λ (c : Core). Legal reads (history c.history)) same legal in
      let grown = subst (Grows start) same g in
      replace_did start at given.core (up given.core grown) legal_here (more given.core grown) given.answer held (carried given.core (uploaded held) legal_here grown h)
      ((appended_came (λ c. Replace held.number held.old held.upto) luck.world start).timed t) (appended_says (λ c. Replace held.number held.old held.upto) luck.world start)

  short_did : (b : Bool) (step : Stepped) → DidAll step → DidAll (or_short b step)
  short_did true step d = λ legal g o e. absurd (none_some o e)
  short_did false step d = d

  step_did : (place : WorkerPlace) → Holds start.history at place → DidAll (step_worker Deleting luck log place start)
  step_did place h = short_did luck.short (step_place Deleting place luck log start) (place_did place h)

-- ---- a line

-- what a line did by the journal behind it, and what the delete worker holds then
record LineDid (start : Core) (at : Progress) (line : Line) (outcome : Outcome) (node : Node) : Type 0 where
  after : Progress
  applies : Applies node.core.history (length start.history) (length node.core.history) at after line outcome
  settles : Settles node.core.history (length start.history) (length node.core.history) outcome
  holds : Holds node.core.history after node.deleter

other_applies : (entries : List Entry) (least next : ℕ) (at : Progress) (line : Line) (outcome : Outcome) → IsOther Deleting outcome → Applies entries least next at at line outcome
other_applies entries least next at line (worker_said Deleting outcome) h = absurd h
other_applies entries least next at line (worker_restarted Deleting) h = absurd h
other_applies entries least next at line (node_restarted revision) h = absurd h
other_applies entries least next at line (node_failed fault) h = absurd h
other_applies entries least next at line outcome h = refl

other_settles : (entries : List Entry) (least next : ℕ) (outcome : Outcome) → IsOther Deleting outcome → Settles entries least next outcome
other_settles entries least next (worker_said Deleting outcome) h = absurd h
other_settles entries least next outcome h = tt

aims_apart : Merging ≡ Deleting → ⊥
aims_apart e = cc

drop_applies : (entries : List Entry) (least next : ℕ) (at : Progress) (line : Line) (outcome : Outcome) → IsDrop Deleting line outcome → Applies entries least next at doing.idle line outcome
drop_applies entries least next at line (worker_restarted Deleting) d = (d.1, refl)
drop_applies entries least next at line (worker_restarted Merging) d = absurd (aims_apart d.0)
drop_applies entries least next at line (node_restarted revision) d = refl
drop_applies entries least next at line (node_failed fault) d = refl
drop_applies entries least next at line outcome d = absurd d

drop_settles : (entries : List Entry) (least next : ℕ) (line : Line) (outcome : Outcome) → IsDrop Deleting line outcome → Settles entries least next outcome
drop_settles entries least next line (worker_said Deleting outcome) d = absurd d
drop_settles entries least next line outcome d = tt

module _ (node : Node) (line : Line) (outcome : Outcome) (last : Node) (at : Progress) (t : IsTimed node.core) (some : 0 < length node.core.history) (h : Holds node.core.history at node.deleter)
    (legal : Legal reads (history last.core.history)) (grows : Grows node.core last.core) where
  -- what is held stays so
  held_by : last.deleter ≡ node.deleter → Holds last.core.history at last.deleter
  held_by same =
      subst (Holds last.core.history at) (sym same)
      (subst (λ (es : List Entry). Holds es at node.deleter) (sym grows.1)
      (holds_on node.core.history grows.0 at node.deleter (subst (λ (es : List Entry). Legal reads (history es)) grows.1 legal) h))

  stepped_did : Steps Deleting node line outcome last → LineDid node.core at line outcome last
  stepped_did s = subst (λ (o : Outcome). LineDid node.core at line o last) (sym s.is) (record { after = k.after; applies = (s.line_is, k.applied); settles = k.settled; holds = k.holds })
    where
      step : Stepped
      step = step_worker Deleting s.luck node.log node.deleter node.core

      d : Did node.core at s.said step.place step.core
      d =
          step_did s.luck node.log node.core at t some node.deleter h (subst (λ (c : Core). Legal reads (history c.history)) (sym s.core) legal)
          (subst (λ (c : Core). Grows node.core c) (sym s.core) grows) s.said s.answers

      k : Did node.core at s.said last.deleter last.core
      k = subst (λ (c : Core). Did node.core at s.said last.deleter c) s.core (subst (λ (place : WorkerPlace). Did node.core at s.said place step.core) s.place d)

  line_did : WorkerLine Deleting node line outcome last → LineDid node.core at line outcome last
  line_did (inl l) = record {
    after = at;
    applies = other_applies last.core.history (length node.core.history) (length last.core.history) at line outcome l.other;
    settles = other_settles last.core.history (length node.core.history) (length last.core.history) outcome l.other;
    holds = held_by l.same;
  }
  line_did (inr (inl d)) = record {
    after = doing.idle;
    applies = drop_applies last.core.history (length node.core.history) (length last.core.history) at line outcome d.drop;
    settles = drop_settles last.core.history (length node.core.history) (length last.core.history) line outcome d.drop;
    holds = subst (Holds last.core.history doing.idle) (sym d.is_idle) refl;
  }
  line_did (inr (inr s)) = stepped_did s

-- ---- lines, and a call

module _ (exit : List Entry) (legal : Legal reads (history exit)) where
  applies_on : (entries : List Entry) (p : IsPrefixOf entries exit) (least lower : ℕ) → lower ≤ least → (at after : Progress) (line : Line) (outcome : Outcome) → Applies entries least (length entries) at after line outcome →
      Applies exit lower (length entries) at after line outcome
  applies_on entries p least lower le at after line (worker_said Deleting outcome) r = (r.0, applied_on entries exit p least lower le at after outcome r.1)
  applies_on entries p least lower le at after line (worker_restarted Deleting) r = r
  applies_on entries p least lower le at after line (node_restarted revision) r = r
  applies_on entries p least lower le at after line (node_failed fault) r = r
  applies_on entries p least lower le at after line outcome r = r

  settles_on : (entries : List Entry) (p : IsPrefixOf entries exit) (least lower : ℕ) → lower ≤ least → (outcome : Outcome) → Settles entries least (length entries) outcome → Settles exit lower (length entries) outcome
  settles_on entries p least lower le (worker_said Deleting outcome) r = settled_on entries exit p least lower le outcome r
  settles_on entries p least lower le outcome r = tt

  abbrev Both : (least : ℕ) (at : Progress) (lines : List Line) (outcomes : List Outcome) → Type 0
  Both least at lines outcomes = AppliesFrom exit least at lines outcomes × SettlesFrom exit least outcomes

  turns_apply : (clock least : ℕ) (at : Progress) (node last : Node) (lines : List Line) (outcomes : List Outcome) → node.core.clock ≡ clock → IsTimed node.core → RiseFrom clock lines → 0 < length node.core.history →
      Holds node.core.history at node.deleter → least ≤ length node.core.history → IsPrefixOf last.core.history exit → Turns node lines outcomes last → Both least at lines outcomes
  turns_apply clock least at node last [] [] told t rise some h le p run = (tt, tt)
  turns_apply clock least at node last [] (o ∷ os) told t rise some h le p run = absurd run
  turns_apply clock least at node last (line ∷ lines) [] told t rise some h le p run = absurd run
  turns_apply clock least at node last (line ∷ lines) (o ∷ os) told t rise some h le p run =
      let mid = run.0 in
      let here : IsPrefixOf mid.core.history exit = prefix_on mid.core.history last.core.history exit (turns_later mid last lines os run.2).grows p in
      let grows : Grows node.core mid.core = (turn_later node line (Some o) mid run.1).grows in
      let up : length node.core.history ≤ length mid.core.history = longer node.core.history mid.core.history grows in
      let is_next : last_moment node.core.clock (line ∷ []) ≡ last_moment clock (line ∷ []) = ap (λ (m : ℕ). last_moment m (line ∷ [])) told in
      let d = line_did node line o mid at t some h (front_legal mid.core.history exit here legal) grows (worker_line Deleting node line o mid run.1) in
      let rest : Both (length mid.core.history) d.after lines os =
      turns_apply (last_moment clock (line ∷ [])) (length mid.core.history) d.after mid last lines os (turn_ticks node line o mid run.1 ∙ is_next)
      (turn_timed node line o mid t (subst (λ (m : ℕ). Rises m line) (sym told) rise.0) run.1) rise.1 (omega (arith, some, up)) d.holds (omega arith) p run.2 in (
        (length mid.core.history, d.after, omega (arith, le, up), longer mid.core.history exit here, applies_on mid.core.history here (length node.core.history) least le at d.after line o d.applies, rest.0),
        (length mid.core.history, omega (arith, le, up), longer mid.core.history exit here, settles_on mid.core.history here (length node.core.history) least le o d.settles, rest.1),
      )

  module _ (entry : List Entry) (before : Before) (fresh : Node) (is : IsFresh before entry fresh) where
    answers_apply : (lines : List Line) (outcomes : List Outcome) (last : Node) → Answers fresh lines outcomes last → IsPrefixOf last.core.history exit → RiseFrom 0 lines → Both (length entry) doing.idle lines outcomes
    answers_apply lines outcomes last a p rise =
        let s = starts entry before fresh is lines outcomes last a in
        turns_apply 0 (length entry) doing.idle a.opened last lines outcomes s.told s.timed rise s.some (subst (Holds a.opened.core.history doing.idle) (sym s.deleter) refl) s.goes_on p a.turns

    -- WHAT A DELETE WORKER SAID of each line is what it did, and where it had nothing to do all was applied
    pub lives_apply : (after : After) (end : End) (lines : List Line) (outcomes : List Outcome) (last : Node) → HasEnd before after lines end → Lives before end fresh lines outcomes last → IsPrefixOf last.core.history exit →
        Both (length entry) doing.idle lines outcomes
    lives_apply after end lines outcomes last ends l p =
        lives_say exit before fresh (λ (ls : List Line) (os : List Outcome). RiseFrom 0 ls → Both (length entry) doing.idle ls os) (λ rise. (tt, tt)) answers_apply end lines outcomes last l p (end_rises before after end lines ends)
