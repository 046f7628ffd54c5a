-- A step that plans rows, and one that fetches the file of one.
use Rattle.std.proofs.Common.{◌≡◌, ℕ, zero, suc, ◌^◌, ◌<◌, List, [], ◌∷◌, ◌++◌, drop, length, map, take, refl, sym, ap, ◌∙◌, subst, arith, Ok, Err, Result, Option, Some, None}
use Rattle.std.proofs.lemmas.List.{length-map, take_all}
use Rattle.std.specs.List.{AllZip}
use Rattle.std.specs.Prelude.{⊤, slice_get}
use Rattle.std.specs.declared.alloc.AllocError.{AllocError}
use Rattle.index_config.specs.declared.config.IndexConfig.{IndexConfig}
use Rattle.meta_store.specs.Planning.{planned_as, worked_row}
use Rattle.meta_store.specs.declared.planning.Choice.{Choice}
use Rattle.meta_store.specs.declared.planning.PlanRow.{PlanRow}
use Rattle.object_store.specs.Store.{IsPieceOf}
use Rattle.object_store.specs.declared.store.Piece.{Piece}
use Rattle.source_log.specs.Log.{Log}
use Rattle.split_bundle.specs.declared.placed.Placed.{Placed}
use Rattle.split_states.specs.declared.rows.Row.{Row}
use Rattle.index_world.specs.Calls.{Fate, Trouble, asked_and_looked, gives}
use Rattle.index_world.specs.CallsMade.{CallMade, IsShort, of_plan}
use Rattle.index_world.specs.Core.{Core}
use Rattle.index_world.specs.Gate.{Does, IsPlan, IsSoundCore, IsTrouble, Says}
use Rattle.index_world.specs.PlanTasks.{plan_tasks}
use Rattle.index_world.specs.SplitFile.{AreSplit, file_of}
use Rattle.index_world.specs.declared.tokens.Plan.{Plan}
use Rattle.index_world.specs.declared.world_error.WorldError.{WorldError}
use Rattle.upkeep_run.specs.Asking.{whole}
use Rattle.upkeep_run.specs.Outcomes as outcomes
use Rattle.upkeep_run.specs.Outcomes.{UpkeepOutcome}
use Rattle.upkeep_run.specs.Places.{WorkerPlace, Work, fetching, idle}
use Rattle.upkeep_run.specs.Standing.{Answers, PlaceStands, StepsAs}
use Rattle.upkeep_run.specs.Steps.{choice_of, plan_by, plan_given, plan_with, rows_in, step_worker, stepped, trouble_outcome, work_in}
use Rattle.upkeep_run.specs.declared.outcome.UpkeepOutcome.{UpkeepOutcome as Said}
use Rattle.upkeep_run.specs.declared.outcome.UpkeepOutcome.TheVariants as said
use Rattle.upkeep_run.specs.declared.work.Aim.{Aim}
use Rattle.upkeep_run.specs.declared.work.Aim.TheVariants.{Deleting, Merging}
use Rattle.upkeep_run.specs.declared.work.WorkerPlace.{WorkerPlace as HeldPlace}
use Rattle.upkeep_run.specs.declared.work.WorkerPlace.TheVariants as places
use Rattle.upkeep_run.specs.declared.work.Work.{Work as HeldWork}
use Rattle.upkeep_run.proofs.Planning.{plan_is_for, plan_is_work}
use Rattle.upkeep_run.proofs.Stepping.{by_world, called_of, ends_at, ends_idle, trouble_none}

-- ---- the rows of a plan

rows_said : (aim : Aim) (rows : List Row) → map (planned_as (choice_of aim)) rows ≡ map worked_row rows
rows_said Merging rows = refl
rows_said Deleting rows = refl

no_rows : (rows : List Row) → length rows ≡ 0 → rows ≡ []
no_rows [] e = refl
no_rows (row ∷ rows) e = absurd (omega (arith, e))

module _ {W : Type 0} (Stands : W → Core → Log → Type 0) (Between : Core → Core → Type 0) (Owns : W → ℕ → Type 0) (Adds : W → List CallMade → W → Type 0) (aim : Aim) (core : Core) (log : Log) (old new : W) where
  abbrev Steps : Result Said AllocError → WorkerPlace → HeldPlace → Type 0
  Steps result place kept = StepsAs Stands Between Owns Adds aim result place core log kept old new

  abbrev Plans : Result Plan WorldError → Type 0
  Plans result = Does Stands Between Owns Adds None (of_plan (choice_of aim)) asked_and_looked IsTrouble (IsPlan (choice_of aim)) result core log old new

  -- asked by a choice of the same aim
  pub as_asked : (choice : Choice) (result : Result Plan WorldError) → choice ≡ choice_of aim → Does Stands Between Owns Adds None (of_plan choice) asked_and_looked IsTrouble (IsPlan choice) result core log old new → Plans result
  as_asked choice result same d = subst (λ ch. Does Stands Between Owns Adds None (of_plan ch) asked_and_looked IsTrouble (IsPlan ch) result core log old new) same d

  plan_did : (fate : Fate) (mid after : Core) (a : Result ⊤ Trouble) → asked_and_looked fate mid ≡ gives a after → step_worker aim (by_world fate) log idle mid ≡ plan_by aim a log after
  plan_did fate mid after a did = ap (plan_given aim log) did

  pub plan_fails : (kept : HeldPlace) (error : WorldError) (answered : Result Said AllocError) → kept ≡ places.Idle → ((trouble : Trouble) → IsTrouble error trouble → Answers answered (trouble_outcome trouble)) → Plans (Err error) → Steps answered idle kept
  plan_fails kept error answered is answers d = by d.acts.answer d.acts.did d.acts.says
    where
      by : (a : Result ⊤ Trouble) → asked_and_looked d.acts.fate d.mid ≡ gives a d.acts.after → Says IsTrouble (IsPlan (choice_of aim)) (Err error) a d.acts.after → Steps answered idle kept
      by (Ok done) did w = absurd w
      by (Err e) did w =
          ends_idle Stands Between Owns Adds aim core log old new idle kept answered d.mid d.acts.after (by_world d.acts.fate) (trouble_outcome e)
          (called_of (Err error) d None (of_plan (choice_of aim)) (trouble_outcome e ≡ None) refl refl (trouble_none error e w))
          (plan_did d.acts.fate d.mid d.acts.after (Err e) did) (answers e w) is

  rows_are : (plan : Plan) (after : Core) → IsPlan (choice_of aim) plan after → plan.rows ≡ map worked_row (rows_in aim after)
  rows_are plan after p = p.rows ∙ rows_said aim (rows_in aim after)

  as_many : (plan : Plan) (after : Core) → IsPlan (choice_of aim) plan after → length plan.rows ≡ length (rows_in aim after)
  as_many plan after p = ap length (rows_are plan after p) ∙ length-map (rows_in aim after) worked_row

  -- a plan without rows
  pub plans_none : (kept : HeldPlace) (plan : Plan) → kept ≡ places.Idle → length plan.rows ≡ 0 → Plans (Ok plan) → Steps (Ok said.Nothing) idle kept
  plans_none kept plan is none d = by d.acts.answer d.acts.did d.acts.says
    where
      by : (a : Result ⊤ Trouble) → asked_and_looked d.acts.fate d.mid ≡ gives a d.acts.after → Says IsTrouble (IsPlan (choice_of aim)) (Ok plan) a d.acts.after → Steps (Ok said.Nothing) idle kept
      by (Err e) did w = absurd w
      by (Ok done) did w =
          let empty : rows_in aim d.acts.after ≡ [] = no_rows (rows_in aim d.acts.after) (sym (as_many plan d.acts.after w) ∙ none) in
          ends_idle Stands Between Owns Adds aim core log old new idle kept (Ok said.Nothing) d.mid d.acts.after (by_world d.acts.fate) (Some outcomes.Nothing)
          (called_of (Ok plan) d None (of_plan (choice_of aim)) (Some outcomes.Nothing ≡ None) refl refl (λ short. absurd short))
          (plan_did d.acts.fate d.mid d.acts.after (Ok done) did ∙ ap (λ rows. plan_with rows (work_in aim log d.acts.after) d.acts.after) empty) refl is

  with_some : (rows : List Row) (work : Work) (after : Core) (count : ℕ) → length rows ≡ count → (count ≡ 0 → ⊥) → plan_with rows work after ≡ stepped (Some (outcomes.Planned count)) (fetching work) after
  with_some [] work after count e some = absurd (some (sym e))
  with_some (row ∷ rows) work after count e some = ap (λ n. stepped (Some (outcomes.Planned n)) (fetching work) after) e

  -- a plan with rows is work in hand, of which nothing is fetched
  pub plans_some : (kept : HeldPlace) (plan : Plan) (count : ℕ) (held : HeldWork) → kept ≡ places.Fetching held → held.plan ≡ plan → held.next ≡ 0 → held.files ≡ [] → length plan.rows ≡ count → (count ≡ 0 → ⊥) →
      ((after : Core) → Stands new after log → IsSoundCore after log) → Plans (Ok plan) → Steps (Ok (said.Planned count)) idle kept
  plans_some kept plan count held is same first none many some sound d = by d.acts.answer d.acts.did d.acts.says
    where
      by : (a : Result ⊤ Trouble) → asked_and_looked d.acts.fate d.mid ≡ gives a d.acts.after → Says IsTrouble (IsPlan (choice_of aim)) (Ok plan) a d.acts.after → Steps (Ok (said.Planned count)) idle kept
      by (Err e) did w = absurd w
      by (Ok done) did w =
          let after = d.acts.after in
          let work = work_in aim log after in
          let count_is : length (rows_in aim after) ≡ count = sym (as_many plan after w) ∙ many in
          ends_at Stands Between Owns Adds aim core log old new idle (fetching work) kept (Ok (said.Planned count)) d.mid after (by_world d.acts.fate) (Some (outcomes.Planned count))
          (called_of (Ok plan) d None (of_plan (choice_of aim)) (Some (outcomes.Planned count) ≡ None) refl refl (λ short. absurd short))
          (plan_did d.acts.fate d.mid after (Ok done) did ∙ with_some (rows_in aim after) work after count count_is some) refl
          (subst (λ k. PlaceStands aim log after k (fetching work)) (sym is) (
            work,
            refl,
            record {
              rows = ap (λ (p : Plan). p.rows) same ∙ rows_are plan after w;
              moment = ap (λ (p : Plan). p.moment) same ∙ w.moment;
              upto = ap (λ (p : Plan). p.upto) same ∙ w.upto;
              tasks = ap (λ (p : Plan). p.tasks) same ∙ w.tasks ∙ sym (ap (λ (p : Plan). plan_tasks (choice_of aim) p.upto p.rows work.tasks) same);
              within = omega (arith, first);
              files = none ∙ ap (λ n. map (file_of work.config) (take n work.contents)) (sym first);
              unfetched = ap (λ n. drop n work.rows) (sym first);
            },
            plan_is_work after log (sound after d.acts.stands) aim,
            plan_is_for after log (sound after d.acts.stands) aim (λ none. some (sym count_is ∙ ap length none)),
          ))
          (λ n st e. cc)

-- ---- the next row

-- a row at a place, what its file holds, and what follows it
pub record At (P : Row → List Placed → Type 0) (n : ℕ) (rows : List Row) (lists : List (List Placed)) (said_row : PlanRow) : Type 0 where
  pub row : Row
  pub documents : List Placed
  pub behind : drop n rows ≡ row ∷ drop (suc n) rows
  pub same : worked_row row ≡ said_row
  pub taken : take (suc n) lists ≡ take n lists ++ documents ∷ []
  pub within : n < length rows
  pub known : P row documents

pub at_place : (P : Row → List Placed → Type 0) (n : ℕ) (rows : List Row) (lists : List (List Placed)) (said_row : PlanRow) → AllZip P rows lists → slice_get (map worked_row rows) n ≡ Some said_row → At P n rows lists said_row
at_place P n [] lists said_row h e = cc
at_place P n (row ∷ rows) [] said_row h e = absurd h
at_place P zero (row ∷ rows) (ds ∷ lists) said_row h e = record { row = row; documents = ds; behind = refl; same = cc; taken = refl; within = omega arith; known = h.0 }
at_place P (suc n) (row ∷ rows) (ds ∷ lists) said_row h e =
    let a = at_place P n rows lists said_row h.1 e in
    let within = a.within in
    record { row = a.row; documents = a.documents; behind = a.behind; same = a.same; taken = ap (λ l. ds ∷ l) a.taken; within = omega (arith, within); known = a.known }

-- a whole file is a piece of it
pub whole_piece : (bytes : List ℕ) (piece : Piece) → length bytes < 2 ^ 64 → IsPieceOf bytes 0 whole piece → piece.bytes ≡ bytes
whole_piece bytes piece short p = p.bytes_are ∙ take_all whole bytes (omega (arith, short))

pub short_file : (config : IndexConfig) (documents : List Placed) → AreSplit config documents → length (file_of config documents) < 2 ^ 64
short_file config documents are =
    let is = are.stands in
    subst (λ (bs : List ℕ). length bs < 2 ^ 64) (sym is.bytes_are) is.is_split.size

want_none : (result : Result Piece WorldError) (holds : Piece → Core → Type 0) (answer : Result ⊤ Trouble) (after : Core) → Says IsTrouble holds result answer after → IsShort result → (outcome : Result ⊤ Trouble → Option UpkeepOutcome) →
    ((trouble : Trouble) → outcome (Err trouble) ≡ trouble_outcome trouble) → outcome answer ≡ None
want_none (Ok piece) holds answer after w short outcome f = absurd short
want_none (Err error) holds (Ok done) after w short outcome f = absurd w
want_none (Err error) holds (Err trouble) after w short outcome f = f trouble ∙ trouble_none error trouble w short
