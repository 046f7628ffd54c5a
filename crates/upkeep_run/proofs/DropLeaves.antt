-- What tasks drop of the planned row's file leaves what the machine leaves.
use Rattle.std.proofs.Common.{◌≡◌, ℕ, ◌+◌, ◌<◌, ◌≤◌, ◌==◌, Bool, true, false, inl, inr, Vec, List, [], ◌∷◌, drop, length, map, refl, sym, ap, ap₂, ◌∙◌, subst, arith, append-nil, Ok, Err, Option, Some, None, Result}
use Rattle.std.proofs.lemmas.Bool.{eqb-true}
use Rattle.std.specs.List.{AllZip}
use Rattle.std.specs.Prelude.{slice_get, ◌⊎◌, IfOk, MatchResult}
use Rattle.delete_tasks.specs.Removes.{DeleteTask}
use Rattle.doc_sets.specs.Faults.{IsMemory}
use Rattle.doc_sets.specs.declared.leaf_error.LeafError.{LeafError}
use Rattle.doc_sets.specs.declared.leaf_error.LeafError.TheVariants as leaf
use Rattle.doc_value.specs.declared.schema.Schema.{Schema}
use Rattle.meta_store.specs.History.{history}
use Rattle.meta_store.specs.Ledgers.{ledger}
use Rattle.meta_store.specs.Planning.{worked_row}
use Rattle.meta_store.specs.declared.planning.PlanRow.{PlanRow}
use Rattle.source_checkpoint.specs.declared.delta.Part.{Part}
use Rattle.source_checkpoint.specs.declared.span.Span.{Span}
use Rattle.source_log.specs.Log.{Log}
use Rattle.split_bundle.specs.Splits.{IsSplit}
use Rattle.split_bundle.specs.declared.placed.Placed.{Placed}
use Rattle.split_merge.specs.Keeping.{RiseFrom}
use Rattle.split_merge.specs.Keeping as keeping
use Rattle.split_states.specs.declared.rows.Row.{Row}
use Rattle.meta_store.specs.Left.{mark_of}
use Rattle.index_world.proofs.Dropping.{left_alike as same_left}
use Rattle.index_world.specs.Config.{reads}
use Rattle.index_world.specs.Core.{Core}
use Rattle.index_world.specs.PlanTasks.{least_of, plan_tasks, spans_in, spans_of}
use Rattle.index_world.specs.Replacing.{joined, left_in}
use Rattle.index_world.specs.SplitFile.{file_of}
use Rattle.upkeep_run.specs.Dropping.{AreAsked, DropsOf, IsDropSet, IsUnasked}
use Rattle.upkeep_run.specs.Judging.{AreSplits}
use Rattle.upkeep_run.specs.Places.{IsPlannedFor, IsRowInHand, IsWork, Work, marks_of, until_of}
use Rattle.upkeep_run.specs.Standing.{LeavesOf, WorkStands}
use Rattle.upkeep_run.specs.Steps.{choice_of}
use Rattle.upkeep_run.specs.declared.work.Aim.{Aim}
use Rattle.upkeep_run.specs.declared.work.Aim.TheVariants.{Deleting}
use Rattle.upkeep_run.specs.declared.work.Work.{Work as HeldWork}
use Rattle.upkeep_run.proofs.Asked.{asked_behind}
use Rattle.upkeep_run.proofs.DropSets.{left_alike}
use Rattle.upkeep_run.proofs.Merging.{all_files}

-- ---- the one row

pub within_first : (rows : List PlanRow) (row : PlanRow) → slice_get rows 0 ≡ Some row → 0 < length rows
within_first [] row e = absurd (never e)
  where
    never : ◌≡◌ {A = Option PlanRow} None (Some row) → ⊥
    never e = cc e
within_first (r ∷ rows) row e = omega arith

pub record One (work : Work) : Type 0 where
  pub row : Row
  pub documents : List Placed
  pub rows : work.rows ≡ row ∷ []
  pub contents : work.contents ≡ documents ∷ []

one_of : (P : Row → List Placed → Type 0) (rows : List Row) (lists : List (List Placed)) → AllZip P rows lists → (rows ≡ [] → ⊥) → length rows ≤ 1 → (row : Row) × (ds : List Placed) × (rows ≡ row ∷ []) × (lists ≡ ds ∷ [])
one_of P [] lists h some one = absurd (some refl)
one_of P (row ∷ other ∷ rows) lists h some one = absurd (omega (arith, one))
one_of P (row ∷ []) [] h some one = absurd h
one_of P (row ∷ []) (ds ∷ other ∷ lists) h some one = absurd h.1
one_of P (row ∷ []) (ds ∷ []) h some one = (row, ds, refl, refl)

pub one_row : (core : Core) (log : Log) (work : Work) → IsWork log core work → IsPlannedFor Deleting work → One work
one_row core log work i p =
    let o = one_of (IsRowInHand work.config (until_of work) log core) work.rows work.contents i.each p.some p.one in
    record { row = o.0; documents = o.1; rows = o.2; contents = o.3 }

-- ---- the tasks of a plan

-- each of them can be asked of a split
asked_all : (core : Core) (log : Log) (work : Work) → IsWork log core work → (bytes : List ℕ) (documents : List Placed) (n : ℕ) → IsSplit work.config.schema bytes documents → AreAsked work.config.schema (drop n work.tasks)
asked_all core log work i bytes documents n split = asked_behind work.config.schema n work.tasks (i.asked split.is_split.are_documents.schema.dynamic)

module _ (core : Core) (log : Log) (work : Work) (i : IsWork log core work) (one : One work) where
  -- WHAT IS DROPPED leaves what is to be left
  pub drop_leaves : (dropped : List ℕ) → DropsOf work.config.schema one.row.spans (drop (least_of work.upto one.row.spans) work.tasks) work.upto (file_of work.config one.documents) dropped → LeavesOf core work dropped
  drop_leaves dropped d = record { left = λ lists splits. left lists (as_one lists splits); count = λ lists splits. count lists (as_one lists splits) }
    where
      as_one : (lists : List (List Placed)) → AreSplits work.config.schema (map (file_of work.config) work.contents) lists → AreSplits work.config.schema (file_of work.config one.documents ∷ []) lists
      as_one lists splits = subst (λ (cs : List (List Placed)). AreSplits work.config.schema (map (file_of work.config) cs) lists) one.contents splits

      drop_set : (documents : List Placed) → IsSplit work.config.schema (file_of work.config one.documents) documents →
          IsDropSet work.config.schema one.row.spans (drop (least_of work.upto one.row.spans) work.tasks) work.upto documents dropped
      drop_set documents split = d.of documents split (asked_all core log work i (file_of work.config one.documents) documents (least_of work.upto one.row.spans) split)

      same_marks : joined (map marks_of work.rows) ≡ marks_of one.row
      same_marks = ap (λ (rs : List Row). joined (map marks_of rs)) one.rows ∙ append-nil (marks_of one.row)

      left : (lists : List (List Placed)) → AreSplits work.config.schema (file_of work.config one.documents ∷ []) lists →
          keeping.kept dropped (keeping.joined lists) ≡ left_in work.config (ledger reads (history core.history)).tasks work.upto (joined (map marks_of work.rows)) (joined lists)
      left [] h = absurd h
      left (ds ∷ other ∷ lists) h = absurd h.1
      left (ds ∷ []) h =
          ap (keeping.kept dropped) (append-nil ds) ∙ (drop_set ds h.0).left ∙ left_alike work.config one.row.spans work.tasks work.upto ds i.numbered
          ∙ same_left work.config (ledger reads (history core.history)).tasks work.tasks work.upto (map mark_of one.row.spans) ds i.covers
          ∙ sym (ap₂ (λ (ms : List (Part × ℕ)) (xs : List Placed). left_in work.config (ledger reads (history core.history)).tasks work.upto ms xs) same_marks (append-nil ds))

      count : (lists : List (List Placed)) → AreSplits work.config.schema (file_of work.config one.documents ∷ []) lists → length (keeping.kept dropped (keeping.joined lists)) + length dropped ≡ length (joined lists)
      count [] h = absurd h
      count (ds ∷ other ∷ lists) h = absurd h.1
      count (ds ∷ []) h =
          let same = ap (λ (l : List Placed). length (keeping.kept dropped l)) (append-nil ds) in
          let many = ap (λ (l : List Placed). length l) (append-nil ds) in
          let all = (drop_set ds h.0).count in
          omega (arith, same, many, all)

  -- tasks that can't be asked of the row's file: there are none
  pub all_asked : IsUnasked work.config.schema (drop (least_of work.upto one.row.spans) work.tasks) (file_of work.config one.documents) → ⊥
  all_asked unasked =
      let known = known_of work.rows work.contents one.rows one.contents i.each in
      unasked one.documents known.split.stands (asked_all core log work i (file_of work.config one.documents) one.documents (least_of work.upto one.row.spans) known.split.stands)
    where
      known_of : (rs : List Row) (cs : List (List Placed)) → rs ≡ one.row ∷ [] → cs ≡ one.documents ∷ [] → AllZip (IsRowInHand work.config (until_of work) log core) rs cs → IsRowInHand work.config (until_of work) log core one.row one.documents
      known_of rs cs e f h =
          (subst (λ (xs : List (List Placed)). AllZip (IsRowInHand work.config (until_of work) log core) (one.row ∷ []) xs) f (subst (λ (xs : List Row). AllZip (IsRowInHand work.config (until_of work) log core) xs cs) e h)).0

-- ---- as it was asked

pub no_items : (xs : List ℕ) (b : Bool) → b ≡ (length xs == 0) → b ≡ true → xs ≡ []
no_items [] b e t = refl
no_items (x ∷ xs) b e t = let many = eqb-true (length (x ∷ xs)) 0 (sym e ∙ t) in absurd (omega (arith, many))

pub some_items : (xs : List ℕ) (b : Bool) → b ≡ (length xs == 0) → b ≡ false → xs ≡ [] → ⊥
some_items xs b e f none = let all : (length xs == 0) ≡ true = ap (λ (l : List ℕ). length l == 0) none in both (length xs == 0) all (sym e ∙ f)
  where
    both : (t : Bool) → t ≡ true → t ≡ false → ⊥
    both true a b = cc b
    both false a b = cc a

pub drops_given : {Z : Type 0} (s : Schema) (spans : List Span) (tasks : List DeleteTask) (upto : ℕ) (bytes : List ℕ) (result : Result (Vec ℕ Z) LeafError) → IfOk result (λ places. RiseFrom 0 places.items) →
    ((documents : List Placed) → IsSplit s bytes documents → AreAsked s tasks → MatchResult result (λ places. IsDropSet s spans tasks upto documents places.items) IsMemory) →
    MatchResult result (λ places. DropsOf s spans tasks upto bytes places.items) (λ error. IsMemory error ⊎ IsUnasked s tasks bytes)
drops_given s spans tasks upto bytes (Ok places) rise there = record { rise = rise; of = there }
drops_given s spans tasks upto bytes (Err (leaf.Memory a)) rise there = inl tt
drops_given s spans tasks upto bytes (Err (leaf.Missing at)) rise there = inr there
drops_given s spans tasks upto bytes (Err (leaf.Corrupt section)) rise there = inr there

-- what the plan's first row and its file are
module _ (core : Core) (log : Log) (held : HeldWork) (work : Work) (ws : WorkStands held work) (i : IsWork log core work) (done : work.unfetched ≡ []) (one : One work) where
  pub first_row : slice_get held.plan.rows 0 ≡ Some (worked_row one.row)
  first_row = ap (λ (rs : List PlanRow). slice_get rs 0) (ws.rows ∙ ap (map worked_row) one.rows)

  pub first_file : slice_get held.files 0 ≡ Some (file_of work.config one.documents)
  first_file = ap (λ (fs : List (List ℕ)). slice_get fs 0) (all_files core log held work ws i done ∙ ap (map (file_of work.config)) one.contents)

  same_some : {A : Type 0} (a b : A) → Some a ≡ Some b → a ≡ b
  same_some a b e = cc e

  module _ (row : PlanRow) (bytes : List ℕ) (there : slice_get held.plan.rows 0 ≡ Some row) (file : slice_get held.files 0 ≡ Some bytes) where
    pub row_is : row ≡ worked_row one.row
    row_is = same_some row (worked_row one.row) (sym there ∙ first_row)

    bytes_are : bytes ≡ file_of work.config one.documents
    bytes_are = same_some bytes (file_of work.config one.documents) (sym file ∙ first_file)

    -- by the words of the call
    module _ (p : IsPlannedFor Deleting work) where
      tasks_are : held.plan.tasks ≡ drop (least_of held.plan.upto (spans_of row.work)) work.tasks
      tasks_are =
          ws.tasks ∙ ap (λ (aim : Aim). plan_tasks (choice_of aim) held.plan.upto held.plan.rows work.tasks) p.for_it
          ∙ ap (λ (o : Option PlanRow). drop (least_of held.plan.upto (spans_in o)) work.tasks) there

      pub asked_so : (P : Schema → List Span → List DeleteTask → ℕ → List ℕ → Type 0) (schema : Schema) → schema ≡ work.config.schema → P schema (spans_of row.work) held.plan.tasks held.plan.upto bytes →
          P work.config.schema one.row.spans (drop (least_of work.upto one.row.spans) work.tasks) work.upto (file_of work.config one.documents)
      asked_so P schema same h =
          subst (λ (bs : List ℕ). P work.config.schema one.row.spans (drop (least_of work.upto one.row.spans) work.tasks) work.upto bs) bytes_are
          (subst (λ (u : ℕ). P work.config.schema one.row.spans (drop (least_of u one.row.spans) work.tasks) u bytes) ws.upto
          (subst (λ (r : PlanRow). P work.config.schema (spans_of r.work) (drop (least_of held.plan.upto (spans_of r.work)) work.tasks) held.plan.upto bytes) row_is
          (subst (λ (ts : List DeleteTask). P work.config.schema (spans_of row.work) ts held.plan.upto bytes) tasks_are
          (subst (λ (s : Schema). P s (spans_of row.work) held.plan.tasks held.plan.upto bytes) same h))))
