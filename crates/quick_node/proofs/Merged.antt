-- What a merger says of each line is what it did, by the journal at exit.
use Rattle.std.proofs.Common.{◌≡◌, ◌≢◌, ℕ, suc, ◌<◌, ◌≤◌, max, Bool, true, false, List, [], ◌∷◌, ◌++◌, length, refl, sym, ap, ap₂, ◌∙◌, subst, inl, inr, arith}
use Rattle.std.proofs.Math.Seq.{take-length}
use Rattle.std.proofs.lemmas.List.{length-map}
use Rattle.std.specs.List.{AllByRecursion}
use Rattle.std.specs.Prelude.{Option, Some, None, Result, Ok, Err, ⊤, Contains}
use Rattle.meta_journal.specs.declared.entry.Act.TheVariants.{Replace}
use Rattle.meta_journal.specs.declared.entry.Entry.{Entry}
use Rattle.meta_store.specs.History.{history, last_number, moment_of}
use Rattle.meta_store.specs.Rows.{rows}
use Rattle.meta_store.specs.State.{Legal}
use Rattle.source_log.specs.Log.{Log}
use Rattle.split_states.specs.Answers.{AreApart}
use Rattle.split_states.specs.declared.rows.Row.{Row}
use Rattle.index_world.specs.Calls.{Trouble, faulted, no_memory, Unmade, refused, troubled, answer_behind, asked_and_looked, fetched, upload_made}
use Rattle.index_world.specs.Config.{reads}
use Rattle.index_world.specs.Configuration.{config_or, configuration}
use Rattle.index_world.specs.Core.{Core}
use Rattle.index_world.specs.Gate.{replace_call, stage_act, stage_call}
use Rattle.index_world.specs.Index.{HasStaged}
use Rattle.upkeep_run.specs.Outcomes.{UpkeepOutcome}
use Rattle.upkeep_run.specs.Outcomes as said
use Rattle.upkeep_run.specs.Places.{WorkerHeld, WorkerPlace, Work, fetching, held_facts, held_file, idle, row_numbers, staged, uploaded}
use Rattle.upkeep_run.specs.Steps.{WorkerLuck, Stepped, fetch_by, grace_in, held_of, or_short, plan_by, plan_with, replace_by, rows_in, stage_by, step_place, step_work, step_worker, trouble_outcome, upload_by, work_in}
use Rattle.upkeep_run.specs.declared.work.Aim.TheVariants.{Merging, Deleting}
use Rattle.node_run.specs.Node.{Node, Line, Outcome, worker_said, worker_restarted, node_restarted, node_failed}
use Rattle.node_run.specs.Turns.{Turns}
use Rattle.call_laws.proofs.CallMoves.{Grows, asked_and_looked_moves}
use Rattle.node_run.proofs.Moving.{turn_later, turns_later}
use Rattle.node_run.proofs.WorkerMoves.{fetched_same, planned_same, replaced_same, staged_same, uploaded_same}
use Rattle.quick_node.specs.Replaces.{IsHindered, Merge, Merged, Replaces, ReplacesFrom, Rested, Rests, RestsFrom, chosen_at, chosen_by}
use Rattle.quick_node.specs.Replaces as doing
use Rattle.quick_node.specs.Reading.{last_moment}
use Rattle.quick_node.specs.Serve.{IsPrefixOf, Before, After, End, HasEnd, IsFresh, Answers, Lives}
use Rattle.quick_node.proofs.Beginning.{RiseFrom, end_rises, lives_say, starts}
use Rattle.quick_node.proofs.Clocks.{turn_ticks}
use Rattle.quick_node.proofs.Files.{IsTimed, appended_few, asked_and_looked_one}
use Rattle.quick_node.proofs.Prefixes.{crowded_on, front_legal, hindered_on, longer, refused_on, replacing_on, same_front, staged_on, staging_on}
use Rattle.quick_node.proofs.MergeCalls.{Appends, Picks, appended_says, is_crowded, is_hindered, is_refused, made_stands, picks, picks_none, stages_now}
use Rattle.quick_node.proofs.Searching.{prefix_on}
use Rattle.quick_node.proofs.Timing.{Rises, asked_late, turn_timed}
use Rattle.quick_node.proofs.WorkerLines.{IsDrop, IsOther, Steps, WorkerLine, worker_line}
use Rattle.quick_node.proofs.Working.{appended_came}

-- ---- what a merger holds between its lines

-- the rows of a plan: some, each once
record IsPlan (plan : List ℕ) : Type 0 where
  some : plan ≢ []
  apart : AreApart plan

-- what is left to be fetched is of the plan
abbrev AreOf : List ℕ → List ℕ → Type 0
AreOf plan numbers = AllByRecursion (Contains plan) numbers

record HoldsWork (at : Merge) (work : Work) : Type 0 where
  plan : List ℕ
  is : at ≡ doing.planned plan
  is_plan : IsPlan plan
  rows : row_numbers work.rows ≡ plan
  left : AreOf plan (row_numbers work.unfetched)

record HoldsRow (entries : List Entry) (at : Merge) (held : WorkerHeld) (made : List ℕ → Merge) : Type 0 where
  plan : List ℕ
  is : at ≡ made plan
  is_plan : IsPlan plan
  old : held.old ≡ plan
  upto : held.upto ≡ 0
  staged : HasStaged entries held.number [] (held_facts held)

abbrev Holds : List Entry → Merge → WorkerPlace → Type 0
Holds entries at idle = at ≡ doing.idle
Holds entries at (fetching work) = HoldsWork at work
Holds entries at (staged held) = HoldsRow entries at held (λ rows. doing.staged rows held.number)
Holds entries at (uploaded held) = HoldsRow entries at held (λ rows. doing.uploaded rows held.number)

all_each : {X : Type 0} (P Q : X → Type 0) (xs : List X) → ((x : X) → P x → Q x) → AllByRecursion P xs → AllByRecursion Q xs
all_each P Q [] f all = tt
all_each P Q (x ∷ xs) f all = (f x all.0, all_each P Q xs f all.1)

all_of : (numbers : List ℕ) → AreOf numbers numbers
all_of [] = tt
all_of (n ∷ numbers) =
    ((0, omega arith, refl), all_each (Contains numbers) (Contains (n ∷ numbers)) numbers (λ x c. (suc c.0, (let l = c.1 in omega (arith, l)), c.2)) (all_of numbers))

-- ---- over a longer journal

row_on : (es more : List Entry) (at : Merge) (held : WorkerHeld) (made : List ℕ → Merge) → Legal reads (history (es ++ more)) → HoldsRow es at held made → HoldsRow (es ++ more) at held made
row_on es more at held made legal h =
    record { plan = h.plan; is = h.is; is_plan = h.is_plan; old = h.old; upto = h.upto; staged = staged_on es more held.number (held_facts held) legal h.staged }

holds_on : (es more : List Entry) (at : Merge) (place : WorkerPlace) → Legal reads (history (es ++ more)) → Holds es at place → Holds (es ++ more) at place
holds_on es more at idle legal h = h
holds_on es more at (fetching work) legal h = h
holds_on es more at (staged held) legal h = row_on es more at held (λ rows. doing.staged rows held.number) legal h
holds_on es more at (uploaded held) legal h = row_on es more at held (λ rows. doing.uploaded rows held.number) legal h

module _ (entries exit : List Entry) (p : IsPrefixOf entries exit) (clock least lower : ℕ) (le : lower ≤ least) where
  chosen_on : (revision : ℕ) → revision ≤ length entries → chosen_at clock revision exit ≡ chosen_at clock revision entries
  chosen_on revision short =
      ap (λ (es : List Entry). chosen_by (config_or (configuration es)) (max clock (moment_of (history es))) es) (same_front entries exit p revision short)

  merged_on : (at after : Merge) (outcome : UpkeepOutcome) → Merged entries clock least (length entries) at after outcome → Merged exit clock lower (length entries) at after outcome
  merged_on at after said.Nothing m = m
  merged_on at after (said.Planned count) m = (m.0, m.1, omega (arith, le, m.2), m.3, m.4, chosen_on m.0 m.3 ∙ m.5, m.6, m.7)
  merged_on at after (said.Fetched number) m = m
  merged_on at after (said.Staged number) m = (m.0, m.1, omega (arith, le, m.2), m.3, m.4, staging_on entries exit p m.1 number m.5, m.6)
  merged_on at after (said.Uploaded number) m = m
  merged_on at after (said.Replaced number) m = (m.0, m.1, omega (arith, le, m.2), m.3, m.4, replacing_on entries exit p m.1 number m.0 0 m.5, m.6)
  merged_on at after (said.Raised number) m = m
  merged_on at after (said.Lost number refusal) m =
      (m.0, m.1, omega (arith, le, m.2), m.3, m.4, hindered_on entries exit p m.1 number m.0 m.3 m.5, refused_on entries exit p m.1 number m.0 refusal m.3 m.6, m.7)
  merged_on at after (said.Refused refusal) m = (m.0, m.1, omega (arith, le, m.2), m.3, m.4, crowded_on entries exit p m.1 refusal m.3 m.5, m.6)
  merged_on at after (said.Faulted fault) m = m

  rested_on : (outcome : UpkeepOutcome) → Rested entries clock least (length entries) outcome → Rested exit clock lower (length entries) outcome
  rested_on said.Nothing r = (r.0, omega (arith, le, r.1), r.2, chosen_on r.0 r.2 ∙ r.3)
  rested_on (said.Planned count) r = tt
  rested_on (said.Fetched number) r = tt
  rested_on (said.Staged number) r = tt
  rested_on (said.Uploaded number) r = tt
  rested_on (said.Replaced number) r = tt
  rested_on (said.Raised number) r = tt
  rested_on (said.Lost number refusal) r = tt
  rested_on (said.Refused refusal) r = tt
  rested_on (said.Faulted fault) r = tt

-- ---- a step

-- by its outcome: what it says, and what it holds then
record Did (start : Core) (clock : ℕ) (at : Merge) (outcome : UpkeepOutcome) (place : WorkerPlace) (core : Core) : Type 0 where
  after : Merge
  merged : Merged core.history clock (length start.history) (length core.history) at after outcome
  rested : Rested core.history clock (length start.history) (length core.history) outcome
  holds : Holds core.history after place

abbrev DidStep : Core → ℕ → Merge → Stepped → Type 0
DidStep start clock at step = (outcome : UpkeepOutcome) → step.outcome ≡ Some outcome → Did start clock at outcome step.place step.core

none_some : {X : Type 0} (x : X) → None ≡ Some x → ⊥
none_some x e = cc

outcome_same : (a b : UpkeepOutcome) → Some a ≡ Some b → a ≡ b
outcome_same a b e = cc

module _ (start : Core) (clock : ℕ) (at : Merge) where
  abbrev Says : UpkeepOutcome → WorkerPlace → Core → Type 0
  Says outcome place core = Did start clock at outcome place core

  said_is : (outcome : UpkeepOutcome) (place : WorkerPlace) (core : Core) → Says outcome place core → (o : UpkeepOutcome) → Some outcome ≡ Some o → Says o place core
  said_is outcome place core d o e = subst (λ (x : UpkeepOutcome). Says x place core) (outcome_same outcome o e) d

  trouble_did : (trouble : Trouble) (core : Core) (o : UpkeepOutcome) → trouble_outcome trouble ≡ Some o → Says o idle core
  trouble_did (faulted fault) core o e = said_is (said.Faulted fault) idle core (record { after = doing.idle; merged = refl; rested = tt; holds = refl }) o e
  trouble_did no_memory core o e = absurd (none_some o e)

  -- ---- a plan

  module _ (core : Core) (up : length start.history ≤ length core.history) (legal : Legal reads (history core.history)) (some : 0 < length core.history) where
    -- what is chosen by the core is chosen at its revision
    chosen_here : core.moment ≡ max clock (moment_of (history core.history)) → (o : Option (List ℕ)) → chosen_by (config_or (configuration core.history)) core.moment core.history ≡ o →
        chosen_at clock (length core.history) core.history ≡ o
    chosen_here moment o e =
        ap (λ (es : List Entry). chosen_by (config_or (configuration es)) (max clock (moment_of (history es))) es) (take-length core.history)
        ∙ ap (λ (m : ℕ). chosen_by (config_or (configuration core.history)) m core.history) (sym moment) ∙ e

    rows_did : at ≡ doing.idle → core.moment ≡ max clock (moment_of (history core.history)) → (list : List Row) (work : Work) → rows_in Merging core ≡ list → work.rows ≡ list → work.unfetched ≡ list → DidStep start clock at (plan_with list work core)
    rows_did idles moment [] work is rows left o e =
        said_is said.Nothing idle core
        (record { after = doing.idle; merged = (idles, refl); rested = (length core.history, up, omega arith, chosen_here moment None (picks_none core legal some is)); holds = refl }) o e
    rows_did idles moment (row ∷ list) work is rows left o e =
        said_is (said.Planned (length (row ∷ list))) (fetching work) core
        (record {
          after = doing.planned (row_numbers (row ∷ list));
          merged = (
            length core.history,
            row_numbers (row ∷ list),
            up,
            omega arith,
            idles,
            chosen_here moment (Some (row_numbers (row ∷ list))) k.chosen,
            length-map (row ∷ list) (λ (r : Row). r.number),
            refl,
          );
          rested = tt;
          holds = record {
            plan = row_numbers (row ∷ list);
            is = refl;
            is_plan = record { some = number_some; apart = k.apart };
            rows = ap row_numbers rows;
            left = subst (λ (l : List Row). AreOf (row_numbers (row ∷ list)) (row_numbers l)) (sym left) (all_of (row_numbers (row ∷ list)));
          };
        }) o e
      where
        cons_some : (row ∷ list) ≢ []
        cons_some f = cc

        number_some : row_numbers (row ∷ list) ≢ []
        number_some f = cc

        k : Picks core legal some (row ∷ list)
        k = picks core legal some (row ∷ list) is cons_some

    plan_did : at ≡ doing.idle → (log : Log) (r : Result ⊤ Trouble) → (r ≡ Ok tt → core.moment ≡ max clock (moment_of (history core.history))) → DidStep start clock at (plan_by Merging r log core)
    plan_did idles log (Ok done) moment o e = rows_did idles (moment refl) (rows_in Merging core) (work_in Merging log core) refl refl refl o e
    plan_did idles log (Err trouble) moment o e = trouble_did trouble core o e

    -- ---- a fetch

    fetch_did : (r : Result ⊤ Trouble) (work : Work) (row : Row) (more : List Row) → HoldsWork at work → work.unfetched ≡ row ∷ more → DidStep start clock at (fetch_by r work row.number more core)
    fetch_did (Ok done) work row more h is o e =
        let left : AreOf h.plan (row_numbers (row ∷ more)) = subst (λ (l : List Row). AreOf h.plan (row_numbers l)) is h.left in
        said_is (said.Fetched row.number) (fetching (record work { unfetched = more })) core
        (record { after = doing.planned h.plan; merged = (h.plan, h.is, left.0, refl); rested = tt; holds = record { plan = h.plan; is = refl; is_plan = h.is_plan; rows = h.rows; left = left.1 } }) o e
    fetch_did (Err trouble) work row more h is o e = trouble_did trouble core o e

    -- ---- a replacement is staged

    stage_did : (r : Result ⊤ Unmade) (work : Work) (before : Core) → HoldsWork at work → IsTimed core → Appends (stage_act [] (held_facts (held_of Merging work before 0))) start r core → DidStep start clock at (stage_by r (held_of Merging work before) core)
    stage_did (Ok done) work before h t a o e =
        let now = stages_now (held_facts (held_of Merging work before 0)) start core legal a in
        let there = now.stands in
        said_is (said.Staged (last_number (history core.history))) (staged (held_of Merging work before (last_number (history core.history)))) core
        (record {
          after = doing.staged h.plan (last_number (history core.history));
          merged = (h.plan, there.place, there.least, there.below, h.is, (there.entry, held_facts (held_of Merging work before 0), there.there, there.is), refl);
          rested = tt;
          holds = record { plan = h.plan; is = refl; is_plan = h.is_plan; old = h.rows; upto = refl; staged = now.staged };
        }) o e
    stage_did (Err (refused refusal)) work before h t a o e =
        said_is (said.Refused refusal) idle core
        (record {
          after = doing.idle;
          merged = (h.plan, length core.history, up, omega arith, h.is, is_crowded core.history core.moment legal some t.least [] (held_facts (held_of Merging work before 0)) refusal refl a.1, refl);
          rested = tt;
          holds = refl;
        }) o e
    stage_did (Err (troubled trouble)) work before h t a o e = trouble_did trouble core o e

    -- ---- its file is made

    upload_did : (r : Result ⊤ Trouble) (held : WorkerHeld) → HoldsRow core.history at held (λ rows. doing.staged rows held.number) → DidStep start clock at (upload_by r held core)
    upload_did (Ok done) held h o e =
        said_is (said.Uploaded held.number) (uploaded held) core
        (record {
          after = doing.uploaded h.plan held.number;
          merged = (h.plan, h.is, refl);
          rested = tt;
          holds = record { plan = h.plan; is = refl; is_plan = h.is_plan; old = h.old; upto = h.upto; staged = h.staged };
        }) o e
    upload_did (Err trouble) held h o e = trouble_did trouble core o e

    -- ---- the planned rows are replaced

    replace_did : (r : Result ⊤ Unmade) (held : WorkerHeld) → HoldsRow core.history at held (λ rows. doing.uploaded rows held.number) → IsTimed core → Appends (λ c. Replace held.number held.old held.upto) start r core → DidStep start clock at (replace_by r held.number core)
    replace_did (Ok done) held h t a o e =
        let there = made_stands (λ c. Replace held.number held.old held.upto) start core a in
        said_is (said.Replaced held.number) idle core
        (record {
          after = doing.idle;
          merged = (h.plan, there.place, there.least, there.below, h.is, (there.entry, there.there, there.is ∙ ap₂ (λ (old : List ℕ) (upto : ℕ). Replace held.number old upto) h.old h.upto), refl);
          rested = tt;
          holds = refl;
        }) o e
    replace_did (Err (refused refusal)) held h t a o e =
        said_is (said.Lost held.number refusal) idle core
        (record {
          after = doing.idle;
          merged = (h.plan, length core.history, up, omega arith, h.is, hindered, is_refused core.history core.moment legal some t.least held.number h.plan 0 refusal (omega arith) same, refl);
          rested = tt;
          holds = refl;
        }) o e
      where
        same : answer_behind core.history (record { moment = core.moment; act = Replace held.number h.plan 0 }) ≡ Err refusal
        same = ap₂ (λ (old : List ℕ) (upto : ℕ). answer_behind core.history (record { moment = core.moment; act = Replace held.number old upto })) (sym h.old) (sym h.upto) ∙ a.1

        hindered : IsHindered (length core.history) core.history held.number h.plan
        hindered = is_hindered core.history core.moment held.number h.plan 0 (held_facts held) legal some t.least (omega arith) h.staged h.is_plan.some h.is_plan.apart refusal same
    replace_did (Err (troubled trouble)) held h t a o e = trouble_did trouble core o e

-- ---- what a step of the machine did

module _ (luck : WorkerLuck) (log : Log) (start : Core) (clock : ℕ) (at : Merge) (t : IsTimed start) (told : start.clock ≡ clock) (some : 0 < length start.history) where
  abbrev DidAll : Stepped → Type 0
  DidAll step = Legal reads (history step.core.history) → Grows start step.core → DidStep start clock at step

  up : (core : Core) → Grows start core → length start.history ≤ length core.history
  up core g = longer start.history core.history g

  more : (core : Core) → Grows start core → 0 < length core.history
  more core g = let l = up core g in omega (arith, l, some)

  carried : (core : Core) (place : WorkerPlace) → Legal reads (history core.history) → Grows start core → Holds start.history at place → Holds core.history at place
  carried core place legal g h =
      subst (λ (es : List Entry). Holds es at place) (sym g.1) (holds_on start.history g.0 at place (subst (λ (es : List Entry). Legal reads (history es)) g.1 legal) h)

  -- behind a plan the clock was asked
  asked_is : (core : Core) → IsTimed core → core.clock ≡ start.clock → start.clock ≤ core.moment → core.moment ≡ max clock (moment_of (history core.history))
  asked_is core k ticks asked = let low = k.least in let high = k.most in omega (arith, low, high, ticks, told, asked)

  work_did : (work : Work) (unfetched : List Row) → work.unfetched ≡ unfetched → HoldsWork at work → DidAll (step_work Merging luck work unfetched start)
  work_did work [] is h legal g =
      let given = stage_call [] (held_facts (held_of Merging work start 0)) luck.world start in
      let same = staged_same given.answer (held_of Merging work start) given.core in
      stage_did start clock at given.core (up given.core (subst (Grows start) same g)) (subst (λ (c : Core). Legal reads (history c.history)) same legal) (more given.core (subst (Grows start) same g)) given.answer work start h
      ((appended_few (stage_act [] (held_facts (held_of Merging work start 0))) (λ c. tt) luck.world start).timed t) (appended_says (stage_act [] (held_facts (held_of Merging work start 0))) luck.world start)
  work_did work (row ∷ rest) is h legal g =
      let given = fetched (grace_in work) luck.world start in
      let same = fetched_same given.answer work row.number rest given.core in
      fetch_did start clock at given.core (up given.core (subst (Grows start) same g)) (subst (λ (c : Core). Legal reads (history c.history)) same legal) (more given.core (subst (Grows start) same g)) given.answer work row rest h is

  place_did : (place : WorkerPlace) → Holds start.history at place → DidAll (step_place Merging place luck log start)
  place_did idle h legal g =
      let given = asked_and_looked luck.world start in
      let same = planned_same Merging given.answer log given.core in
      plan_did start clock at given.core (up given.core (subst (Grows start) same g)) (subst (λ (c : Core). Legal reads (history c.history)) same legal) (more given.core (subst (Grows start) same g)) h log given.answer
      (λ e. asked_is given.core ((asked_and_looked_one luck.world start).timed t) (asked_and_looked_moves luck.world start).ticks (asked_late luck.world start t e))
  place_did (fetching work) h legal g = work_did work work.unfetched refl h legal g
  place_did (staged held) h legal g =
      let given = upload_made luck.world held.number (held_file held) start in
      let same = uploaded_same given.answer held given.core in
      let legal_here = subst (λ (c : Core). Legal reads (history c.history)) same legal in
      let grown = subst (Grows start) same g in
      upload_did start clock at given.core (up given.core grown) legal_here (more given.core grown) given.answer held (carried given.core (staged held) legal_here grown h)
  place_did (uploaded held) h legal g =
      let given = replace_call held.number held.old held.upto luck.world start in
      let same = replaced_same given.answer held.number given.core in
      let legal_here = subst (λ (c : Core). Legal reads (history c.history)) same legal in
      let grown = subst (Grows start) same g in
      replace_did start clock at given.core (up given.core grown) legal_here (more given.core grown) given.answer held (carried given.core (uploaded held) legal_here grown h)
      ((appended_came (λ c. Replace held.number held.old held.upto) luck.world start).timed t) (appended_says (λ c. Replace held.number held.old held.upto) luck.world start)

  short_did : (b : Bool) (step : Stepped) → DidAll step → DidAll (or_short b step)
  short_did true step d = λ legal g o e. absurd (none_some o e)
  short_did false step d = d

  step_did : (place : WorkerPlace) → Holds start.history at place → DidAll (step_worker Merging luck log place start)
  step_did place h = short_did luck.short (step_place Merging place luck log start) (place_did place h)

-- ---- a line

-- what a line did by the journal behind it, and what the merger holds then
record LineDid (start : Core) (clock : ℕ) (at : Merge) (line : Line) (outcome : Outcome) (node : Node) : Type 0 where
  after : Merge
  replaces : Replaces node.core.history clock (length start.history) (length node.core.history) at after line outcome
  rests : Rests node.core.history clock (length start.history) (length node.core.history) outcome
  holds : Holds node.core.history after node.merger

other_replaces : (entries : List Entry) (clock least next : ℕ) (at : Merge) (line : Line) (outcome : Outcome) → IsOther Merging outcome → Replaces entries clock least next at at line outcome
other_replaces entries clock least next at line (worker_said Merging outcome) h = absurd h
other_replaces entries clock least next at line (worker_restarted Merging) h = absurd h
other_replaces entries clock least next at line (node_restarted revision) h = absurd h
other_replaces entries clock least next at line (node_failed fault) h = absurd h
other_replaces entries clock least next at line outcome h = refl

other_rests : (entries : List Entry) (clock least next : ℕ) (outcome : Outcome) → IsOther Merging outcome → Rests entries clock least next outcome
other_rests entries clock least next (worker_said Merging outcome) h = absurd h
other_rests entries clock least next outcome h = tt

aims_apart : Deleting ≡ Merging → ⊥
aims_apart e = cc

drop_replaces : (entries : List Entry) (clock least next : ℕ) (at : Merge) (line : Line) (outcome : Outcome) → IsDrop Merging line outcome → Replaces entries clock least next at doing.idle line outcome
drop_replaces entries clock least next at line (worker_restarted Merging) d = (d.1, refl)
drop_replaces entries clock least next at line (worker_restarted Deleting) d = absurd (aims_apart d.0)
drop_replaces entries clock least next at line (node_restarted revision) d = refl
drop_replaces entries clock least next at line (node_failed fault) d = refl
drop_replaces entries clock least next at line outcome d = absurd d

drop_rests : (entries : List Entry) (clock least next : ℕ) (line : Line) (outcome : Outcome) → IsDrop Merging line outcome → Rests entries clock least next outcome
drop_rests entries clock least next line (worker_said Merging outcome) d = absurd d
drop_rests entries clock least next line outcome d = tt

module _ (node : Node) (line : Line) (outcome : Outcome) (last : Node) (clock : ℕ) (at : Merge) (t : IsTimed node.core) (some : 0 < length node.core.history) (h : Holds node.core.history at node.merger)
    (told : last_moment node.core.clock (line ∷ []) ≡ clock) (legal : Legal reads (history last.core.history)) (grows : Grows node.core last.core) where
  -- what is held stays so
  held_by : last.merger ≡ node.merger → Holds last.core.history at last.merger
  held_by same =
      subst (Holds last.core.history at) (sym same)
      (subst (λ (es : List Entry). Holds es at node.merger) (sym grows.1)
      (holds_on node.core.history grows.0 at node.merger (subst (λ (es : List Entry). Legal reads (history es)) grows.1 legal) h))

  stepped_did : Steps Merging node line outcome last → LineDid node.core clock at line outcome last
  stepped_did s = subst (λ (o : Outcome). LineDid node.core clock at line o last) (sym s.is) (record { after = k.after; replaces = (s.line_is, k.merged); rests = k.rested; holds = k.holds })
    where
      step : Stepped
      step = step_worker Merging s.luck node.log node.merger node.core

      told_here : node.core.clock ≡ clock
      told_here = subst (λ (l : Line). last_moment node.core.clock (l ∷ []) ≡ clock) s.line_is told

      d : Did node.core clock at s.said step.place step.core
      d =
          step_did s.luck node.log node.core clock at t told_here some node.merger h (subst (λ (c : Core). Legal reads (history c.history)) (sym s.core) legal)
          (subst (λ (c : Core). Grows node.core c) (sym s.core) grows) s.said s.answers

      k : Did node.core clock at s.said last.merger last.core
      k = subst (λ (c : Core). Did node.core clock at s.said last.merger c) s.core (subst (λ (place : WorkerPlace). Did node.core clock at s.said place step.core) s.place d)

  line_did : WorkerLine Merging node line outcome last → LineDid node.core clock at line outcome last
  line_did (inl l) = record {
    after = at;
    replaces = other_replaces last.core.history clock (length node.core.history) (length last.core.history) at line outcome l.other;
    rests = other_rests last.core.history clock (length node.core.history) (length last.core.history) outcome l.other;
    holds = held_by l.same;
  }
  line_did (inr (inl d)) = record {
    after = doing.idle;
    replaces = drop_replaces last.core.history clock (length node.core.history) (length last.core.history) at line outcome d.drop;
    rests = drop_rests last.core.history clock (length node.core.history) (length last.core.history) line outcome d.drop;
    holds = subst (Holds last.core.history doing.idle) (sym d.is_idle) refl;
  }
  line_did (inr (inr s)) = stepped_did s

-- ---- lines, and a call

module _ (exit : List Entry) (legal : Legal reads (history exit)) where
  replaces_on : (entries : List Entry) (p : IsPrefixOf entries exit) (clock least lower : ℕ) → lower ≤ least → (at after : Merge) (line : Line) (outcome : Outcome) →
      Replaces entries clock least (length entries) at after line outcome → Replaces exit clock lower (length entries) at after line outcome
  replaces_on entries p clock least lower le at after line (worker_said Merging outcome) r = (r.0, merged_on entries exit p clock least lower le at after outcome r.1)
  replaces_on entries p clock least lower le at after line (worker_restarted Merging) r = r
  replaces_on entries p clock least lower le at after line (node_restarted revision) r = r
  replaces_on entries p clock least lower le at after line (node_failed fault) r = r
  replaces_on entries p clock least lower le at after line outcome r = r

  rests_on : (entries : List Entry) (p : IsPrefixOf entries exit) (clock least lower : ℕ) → lower ≤ least → (outcome : Outcome) → Rests entries clock least (length entries) outcome → Rests exit clock lower (length entries) outcome
  rests_on entries p clock least lower le (worker_said Merging outcome) r = rested_on entries exit p clock least lower le outcome r
  rests_on entries p clock least lower le (worker_said Deleting outcome) r = tt
  rests_on entries p clock least lower le outcome r = tt

  abbrev Both : (clock least : ℕ) (at : Merge) (lines : List Line) (outcomes : List Outcome) → Type 0
  Both clock least at lines outcomes = ReplacesFrom exit clock least at lines outcomes × RestsFrom exit clock least lines outcomes

  turns_merge : (clock least : ℕ) (at : Merge) (node last : Node) (lines : List Line) (outcomes : List Outcome) → node.core.clock ≡ clock → IsTimed node.core → RiseFrom clock lines → 0 < length node.core.history →
      Holds node.core.history at node.merger → least ≤ length node.core.history → IsPrefixOf last.core.history exit → Turns node lines outcomes last → Both clock least at lines outcomes
  turns_merge clock least at node last [] [] told t rise some h le p run = (tt, tt)
  turns_merge clock least at node last [] (o ∷ os) told t rise some h le p run = absurd run
  turns_merge clock least at node last (line ∷ lines) [] told t rise some h le p run = absurd run
  turns_merge clock least at node last (line ∷ lines) (o ∷ os) told t rise some h le p run =
      let mid = run.0 in
      let next = last_moment clock (line ∷ []) in
      let here : IsPrefixOf mid.core.history exit = prefix_on mid.core.history last.core.history exit (turns_later mid last lines os run.2).grows p in
      let grows : Grows node.core mid.core = (turn_later node line (Some o) mid run.1).grows in
      let up : length node.core.history ≤ length mid.core.history = longer node.core.history mid.core.history grows in
      let is_next : last_moment node.core.clock (line ∷ []) ≡ next = ap (λ (m : ℕ). last_moment m (line ∷ [])) told in
      let d = line_did node line o mid next at t some h is_next (front_legal mid.core.history exit here legal) grows (worker_line Merging node line o mid run.1) in
      let rest : Both next (length mid.core.history) d.after lines os =
      turns_merge next (length mid.core.history) d.after mid last lines os (turn_ticks node line o mid run.1 ∙ is_next)
      (turn_timed node line o mid t (subst (λ (m : ℕ). Rises m line) (sym told) rise.0) run.1) rise.1 (omega (arith, some, up)) d.holds (omega arith) p run.2 in (
        (length mid.core.history, d.after, omega (arith, le, up), longer mid.core.history exit here, replaces_on mid.core.history here next (length node.core.history) least le at d.after line o d.replaces, rest.0),
        (length mid.core.history, omega (arith, le, up), longer mid.core.history exit here, rests_on mid.core.history here next (length node.core.history) least le o d.rests, rest.1),
      )

  module _ (entry : List Entry) (before : Before) (fresh : Node) (is : IsFresh before entry fresh) where
    answers_merge : (lines : List Line) (outcomes : List Outcome) (last : Node) → Answers fresh lines outcomes last → IsPrefixOf last.core.history exit → RiseFrom 0 lines → Both 0 (length entry) doing.idle lines outcomes
    answers_merge lines outcomes last a p rise =
        let s = starts entry before fresh is lines outcomes last a in
        turns_merge 0 (length entry) doing.idle a.opened last lines outcomes s.told s.timed rise s.some (subst (Holds a.opened.core.history doing.idle) (sym s.merger) refl) s.goes_on p a.turns

    -- WHAT A MERGER SAID of each line is what it did, and it rested where nothing was chosen
    pub lives_merge : (after : After) (end : End) (lines : List Line) (outcomes : List Outcome) (last : Node) → HasEnd before after lines end → Lives before end fresh lines outcomes last → IsPrefixOf last.core.history exit →
        Both 0 (length entry) doing.idle lines outcomes
    lives_merge after end lines outcomes last ends l p =
        lives_say exit before fresh (λ (ls : List Line) (os : List Outcome). RiseFrom 0 ls → Both 0 (length entry) doing.idle ls os) (λ rise. (tt, tt)) answers_merge end lines outcomes last l p (end_rises before after end lines ends)
