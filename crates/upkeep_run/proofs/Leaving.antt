-- A step of a delete worker: what tasks drop of the planned row's file, and a replacement of what is left, or a raise.
use Rattle.std.proofs.Common.{◌≡◌, ℕ, suc, ◌+◌, ◌<◌, ◌≤◌, ◌==◌, Bool, true, false, cond, List, [], ◌∷◌, ◌++◌, inl, inr, length, map, min, refl, sym, ap, ap₂, ◌∙◌, subst, arith, append-nil, append_assoc, eq-eqb, Ok, Err, Result, Option, Some, None}
use Rattle.std.proofs.lemmas.Bool.{ne_eqb}
use Rattle.std.specs.List.{AllZip}
use Rattle.std.specs.Prelude.{⊤, ◌⊎◌, IsErr, slice_get}
use Rattle.std.specs.declared.alloc.AllocError.{AllocError}
use Rattle.delete_tasks.specs.Removes.{DeleteTask}
use Rattle.index_config.specs.declared.config.IndexConfig.{IndexConfig}
use Rattle.meta_store.specs.History.{history, last_number}
use Rattle.meta_journal.specs.declared.entry.Entry.{Entry}
use Rattle.meta_store.specs.Ledgers.{ledger}
use Rattle.meta_store.specs.State.{Legal}
use Rattle.meta_store.specs.Planning.{worked_row}
use Rattle.meta_store.specs.declared.planning.PlanRow.{PlanRow}
use Rattle.source_checkpoint.specs.declared.delta.Part.{Part}
use Rattle.source_log.specs.Log.{IsLog, Log}
use Rattle.split_build.specs.Builders.{IsBuilt}
use Rattle.split_build.specs.declared.build_error.BuildError.TheVariants as build
use Rattle.split_build.specs.declared.builder.BuiltSplit.{BuiltSplit}
use Rattle.split_bundle.specs.Documents.{total_weight}
use Rattle.split_bundle.specs.Splits.{IsSplit}
use Rattle.split_bundle.specs.declared.placed.Placed.{Placed}
use Rattle.split_form.specs.Facts.{facts_of as form_facts}
use Rattle.split_merge.specs.Keeping as keeping
use Rattle.split_merge.specs.Merging.{Merges}
use Rattle.split_merge.specs.declared.merge_error.MergeError.{MergeError}
use Rattle.split_merge.specs.declared.merge_error.MergeError.TheVariants as merges
use Rattle.split_states.specs.declared.rows.Row.{Row}
use Rattle.index_world.proofs.Dropping.{left_alike}
use Rattle.index_world.proofs.InCore.{goes_less}
use Rattle.index_world.proofs.Numbers.{history-snoc}
use Rattle.index_world.proofs.Replaced.{same_cover}
use Rattle.doc_sets.specs.Faults.{IsMemory}
use Rattle.doc_sets.specs.declared.leaf_error.LeafError.{LeafError}
use Rattle.doc_sets.specs.declared.leaf_error.LeafError.TheVariants as leaf
use Rattle.index_world.specs.Answering.{Answered}
use Rattle.index_world.specs.Configuration.{configuration}
use Rattle.index_world.specs.Calls.{Fate, Unmade, gives}
use Rattle.index_world.specs.CallsMade.{CallMade, IsShort, of_raise, of_stage}
use Rattle.index_world.specs.Config.{reads}
use Rattle.index_world.specs.Core.{Core, IsConfigured, IsOther, Nobody, journal_of}
use Rattle.index_world.specs.Gate.{Does, IsRevision, IsSoundCore, IsStagedIn, IsUnmade, Says, WasStaged, raise_call, stage_call}
use Rattle.index_world.specs.PlanTasks.{spans_of}
use Rattle.index_world.specs.Replacing.{AreFilesOf, IsRaisable, joined, left_in, numbers_of}
use Rattle.index_world.specs.Seen.{rejected_in}
use Rattle.index_world.specs.SplitFile.{facts_of, file_of, most}
use Rattle.index_world.specs.World.{GoesFor, GoesOn}
use Rattle.index_world.specs.declared.tokens.Staged.{Staged}
use Rattle.index_world.specs.declared.world_error.WorldError.{WorldError}
use Rattle.upkeep_run.specs.Asking.{ask_at_work, ask_of}
use Rattle.upkeep_run.specs.Dropping.{DropsOf, IsUnasked}
use Rattle.upkeep_run.specs.Ending.{Ends, EndsDrop, EndsDropped, EndsLeft, EndsRaise, Told, facts_said, lost_said, raised_said, rejected_said, unasked_said, unstaged_said}
use Rattle.upkeep_run.specs.Judging.{AreSplits}
use Rattle.upkeep_run.specs.Outcomes as outcomes
use Rattle.upkeep_run.specs.Outcomes.{UpkeepOutcome}
use Rattle.upkeep_run.specs.Places.{WorkerHeld, IsHeldMade, IsPlannedFor, IsRowInHand, IsWork, Work, fetching, held_facts, held_file, idle, marks_of, rejected_of, row_numbers, staged, until_of}
use Rattle.upkeep_run.specs.Standing.{Answers, LeavesOf, PlaceStands, Raises, StagedTold, Stages, StepsAs, WorkStands}
use Rattle.upkeep_run.specs.Steps.{documents_of, drops_none, first_number, held_of, left_of, lost_outcome, raise_by, raise_given, stage_by, stage_given, stage_outcome, step_raise, step_stage, step_work, step_worker, stepped}
use Rattle.upkeep_run.specs.declared.outcome.UpkeepOutcome.{UpkeepOutcome as Said}
use Rattle.upkeep_run.specs.declared.outcome.UpkeepOutcome.TheVariants as said
use Rattle.upkeep_run.specs.declared.work.Aim.TheVariants.{Deleting}
use Rattle.upkeep_run.specs.declared.work.WorkerPlace.{WorkerPlace as HeldPlace}
use Rattle.upkeep_run.specs.declared.work.WorkerPlace.TheVariants as places
use Rattle.upkeep_run.specs.declared.work.Work.{Work as HeldWork}
use Rattle.upkeep_run.proofs.DropLeaves.{One, all_asked, asked_so, drop_leaves, first_row, one_row}
use Rattle.upkeep_run.proofs.Ended.{ends_by, ends_short, ends_where}
use Rattle.upkeep_run.proofs.Holding.{made_stays, sound_legal}
use Rattle.upkeep_run.proofs.Planning.{same_config}
use Rattle.upkeep_run.proofs.Making.{are_splits, count_is, fetched_are, files_are, kept_none, no_numbers, planned_are, rejected_as, rejected_together, sum_said, weights_are, with_rejected}
use Rattle.upkeep_run.proofs.Merging.{all_files, numbers_said}
use Rattle.upkeep_run.proofs.Stepping.{Called, by_world, called_goes, called_of, ends_at, ends_idle, lost_none, no_room, none_called, stage_none}

-- ---- fewer documents weigh no more

fewer_weigh : (place : ℕ) (dropped : List ℕ) (ds : List Placed) → total_weight (keeping.kept_from place dropped ds) ≤ total_weight ds
fewer_weigh place dropped [] = omega arith
fewer_weigh place dropped (d ∷ ds) = by (keeping.is_named place dropped) (fewer_weigh (suc place) dropped ds)
  where
    by : (b : Bool) → total_weight (keeping.kept_from (suc place) dropped ds) ≤ total_weight ds → total_weight (cond b (keeping.kept_from (suc place) dropped ds) (d ∷ keeping.kept_from (suc place) dropped ds)) ≤ total_weight (d ∷ ds)
    by true rest = omega (arith, rest)
    by false rest = omega (arith, rest)

-- documents that make a split, and what is kept of them
joined_alike : (lists : List (List Placed)) → keeping.joined lists ≡ joined lists
joined_alike [] = refl
joined_alike (ds ∷ lists) = ap (λ l. ds ++ l) (joined_alike lists)

-- what stood before other entries was legal
legal_front : (es more : List Entry) → Legal reads (history (es ++ more)) → Legal reads (history es)
legal_front es [] l = subst (λ xs. Legal reads (history xs)) (append-nil es) l
legal_front es (e ∷ more) l = (subst (Legal reads) (history-snoc es e) (legal_front (es ++ e ∷ []) more (subst (λ xs. Legal reads (history xs)) (sym (append_assoc es (e ∷ []) more)) l))).0

-- without memory nothing is asked
module _ (core : Core) (log : Log) (work : Work) (done : work.unfetched ≡ []) {W : Type 0} (Stands : W → Core → Log → Type 0) (Between : Core → Core → Type 0) (Owns : W → ℕ → Type 0) (Adds : W → List CallMade → W → Type 0) (old new : W) where
  pub leave_short : (kept : HeldPlace) (answered : Result Said AllocError) → kept ≡ places.Idle → Answers answered None → Stands new core log → Between core core → Adds old [] new → StepsAs Stands Between Owns Adds Deleting answered (fetching work) core log kept old new
  leave_short kept answered is answer stands passed own =
      ends_idle Stands Between Owns Adds Deleting core log old new (fetching work) kept answered core core (by_world no_room) None
      (none_called Stands Between Owns Adds None (ask_of Deleting (fetching work) core) (None ≡ None) core log old new stands passed own refl) (ap (λ u. step_work Deleting (by_world no_room) work u core) done ∙ by (drops_none work core)) answer is
    where
      by : (b : Bool) → cond b (step_raise (by_world no_room) (first_number work.rows) work.upto core) (step_stage (by_world no_room) (held_of Deleting work core) core) ≡ stepped None idle core
      by true = refl
      by false = refl

module _ (core : Core) (log : Log) (held : HeldWork) (work : Work) (ws : WorkStands held work) (i : IsWork log core work) (p : IsPlannedFor Deleting work) (done : work.unfetched ≡ []) (dropped : List ℕ) (leaves : LeavesOf core work dropped) where
  abbrev files : List (List ℕ)
  files = map (file_of work.config) work.contents

  abbrev tasks : List DeleteTask
  tasks = (ledger reads (history core.history)).tasks

  abbrev marks : List (Part × ℕ)
  marks = joined (map marks_of work.rows)

  abbrev left : List (List Placed) → List Placed
  left lists = left_in work.config tasks work.upto marks (joined lists)

  files_held : held.files ≡ files
  files_held = all_files core log held work ws i done

  own : AreFilesOf work.config files work.contents
  own = files_are work.config (until_of work) log core work.rows work.contents i.each

  own_splits : AreSplits work.config.schema files work.contents
  own_splits = are_splits work.config files work.contents own

  -- ---- what a Raise needs

  pub row_raisable : dropped ≡ [] → (row : Row) (ds : List Placed) → work.rows ≡ row ∷ [] → work.contents ≡ ds ∷ [] → IsRaisable core row.number work.upto
  row_raisable none row ds rows contents =
      let known = known_of work.rows work.contents rows contents i.each in
      record {
        config = work.config;
        configured = i.configured;
        bytes = file_of work.config ds;
        marks = marks_of row;
        fetched = known.found;
        planned = known.marks;
        known = i.known;
        none = λ documents file split.
            let lists = documents ∷ [] in
            let splits : AreSplits work.config.schema (map (file_of work.config) work.contents) lists =
            subst (λ (cs : List (List Placed)). AreSplits work.config.schema (map (file_of work.config) cs) lists) (sym contents) (subst (λ (bs : List ℕ). IsSplit work.config.schema bs documents) (sym file) split.stands, tt) in
            let kept_all : keeping.kept dropped (keeping.joined lists) ≡ keeping.joined lists = ap (λ ps. keeping.kept ps (keeping.joined lists)) none ∙ kept_none lists in
            let all : left_in work.config tasks work.upto marks (documents ++ []) ≡ documents ++ [] = sym (leaves.left lists splits) ∙ kept_all in
            let same_marks : marks ≡ marks_of row = ap (λ (rs : List Row). joined (map marks_of rs)) rows ∙ append-nil (marks_of row) in
            sym (ap₂ (λ (ms : List (Part × ℕ)) (ds : List Placed). left_in work.config tasks work.upto ms ds) same_marks (append-nil documents)) ∙ all ∙ append-nil documents;
      }
    where
      known_of : (rs : List Row) (cs : List (List Placed)) → rs ≡ row ∷ [] → cs ≡ ds ∷ [] → AllZip (IsRowInHand work.config (until_of work) log core) rs cs → IsRowInHand work.config (until_of work) log core row ds
      known_of rs cs e f h =
          (subst (λ (xs : List (List Placed)). AllZip (IsRowInHand work.config (until_of work) log core) (row ∷ []) xs) f (subst (λ (xs : List Row). AllZip (IsRowInHand work.config (until_of work) log core) xs cs) e h)).0

  -- ---- a split of what is left, or want of memory

  limits : (length (keeping.kept dropped (keeping.joined work.contents)) ≤ length (joined work.contents)) × (total_weight (keeping.kept dropped (keeping.joined work.contents)) ≤ total_weight (joined work.contents))
  limits =
      let count = leaves.count work.contents own_splits in
      let light = fewer_weigh 0 dropped (keeping.joined work.contents) in
      let same = ap total_weight (joined_alike work.contents) in
      (omega (arith, count), omega (arith, light, same))

  pub left_fault : (error : MergeError) (s : IndexConfig) → s ≡ work.config → ((lists : List (List Placed)) → AreSplits s.schema held.files lists → Merges s.schema (keeping.kept dropped (keeping.joined lists)) (Err error)) → (e : AllocError) × (error ≡ merges.Memory e)
  left_fault error s same f = by error (f work.contents splits)
    where
      splits : AreSplits s.schema held.files work.contents
      splits = subst (λ (c : IndexConfig). AreSplits c.schema held.files work.contents) (sym same) (subst (λ fs. AreSplits work.config.schema fs work.contents) (sym files_held) own_splits)

      by : (error : MergeError) → Merges s.schema (keeping.kept dropped (keeping.joined work.contents)) (Err error) → (e : AllocError) × (error ≡ merges.Memory e)
      by (merges.Memory e) h = (e, refl)
      by (merges.Split place e) h = absurd h
      by (merges.Build (build.Memory a)) h = absurd h
      by (merges.Build (build.TooManyDocs count)) h =
          let few = i.fits.docs in
          let docs = count_is work.config (until_of work) log core work.rows work.contents i.each in
          let many = h.0 in
          let fewer = limits.0 in
          absurd (omega (arith, few, docs, many, fewer))
      by (merges.Build (build.TooLarge weight)) h =
          let light = i.fits.weight in
          let weights = weights_are work.config (until_of work) log core work.rows work.contents i.each in
          let heavy = h.1 in
          let lighter = limits.1 in
          absurd (omega (arith, light, weights, heavy, lighter))

  -- ---- what was made

  abbrev pub IsMadeLeft : BuiltSplit → Type 0
  IsMadeLeft built = (lists : List (List Placed)) → AreFilesOf work.config (map (file_of work.config) work.contents) lists →
      IsBuilt work.config.schema (left_in work.config (ledger reads (history core.history)).tasks work.upto (joined (map marks_of work.rows)) (joined lists)) built
      × (built.bytes ≡ file_of work.config (left_in work.config (ledger reads (history core.history)).tasks work.upto (joined (map marks_of work.rows)) (joined lists)))
      × (built.facts ≡ facts_of work.config (left_in work.config (ledger reads (history core.history)).tasks work.upto (joined (map marks_of work.rows)) (joined lists)) 0)

  pub left_built : (built : BuiltSplit) (s : IndexConfig) → s ≡ work.config → ((lists : List (List Placed)) → AreSplits s.schema held.files lists → Merges s.schema (keeping.kept dropped (keeping.joined lists)) (Ok built)) →
      ((documents : List Placed) → IsBuilt s.schema documents built → (built.bytes ≡ file_of s documents) × (built.facts ≡ facts_of s documents 0)) → IsMadeLeft built
  left_built built s same f one = λ lists are.
      let splits = are_splits work.config files lists are in
      let merged = subst (λ (c : IndexConfig). Merges c.schema (keeping.kept dropped (keeping.joined lists)) (Ok built)) same (f lists (subst (λ (c : IndexConfig). AreSplits c.schema held.files lists) (sym same) (subst (λ fs. AreSplits work.config.schema fs lists) (sym files_held) splits))) in
      let is_built : IsBuilt work.config.schema (left lists) built = subst (λ (ds : List Placed). IsBuilt work.config.schema ds built) (leaves.left lists splits) merged in
      let both = subst (λ (c : IndexConfig). IsBuilt c.schema (left lists) built → (built.bytes ≡ file_of c (left lists)) × (built.facts ≡ facts_of c (left lists) 0)) same (one (left lists)) is_built in
      (is_built, both.0, both.1)

  module _ (built : BuiltSplit) (is : IsLog log) (made : IsMadeLeft built) where
    -- the replacement, under a number
    abbrev pub replacement : ℕ → WorkerHeld
    replacement number = held_of Deleting work core number

    file_made : built.bytes ≡ held_file (replacement 0)
    file_made = (made work.contents own).1

    facts_made : (rows : List PlanRow) → rows ≡ map worked_row work.rows → facts_said rows built ≡ held_facts (replacement 0)
    facts_made rows same =
        ap (λ n. with_rejected n built.facts) (ap (λ (l : List PlanRow). rejected_said l) same ∙ ap (λ n. min n most) (sum_said work.rows))
        ∙ ap (with_rejected (min (rejected_of work.rows) most)) (made work.contents own).2
        ∙ rejected_as work.config (left_of work core) (rejected_of work.rows)

    left_is_made : (number : ℕ) → IsHeldMade log core (replacement number)
    left_is_made number =
        record {
          some = λ none. p.some (no_numbers work.rows none);
          apart = p.apart;
          files = files;
          marks = map marks_of work.rows;
          fetched = fetched_are work.config (until_of work) log core work.rows work.contents i.each;
          planned = planned_are work.config (until_of work) log core work.rows work.contents i.each;
          known = i.known;
          made =
              record {
                file = λ lists are. sym file_made ∙ (made lists are).1;
                agree = λ lists are.
                    sym (rejected_as work.config (left_of work core) (rejected_of work.rows))
                    ∙ ap (with_rejected (min (rejected_of work.rows) most)) (sym (made work.contents own).2 ∙ (made lists are).2)
                    ∙ rejected_as work.config (left lists) (rejected_of work.rows)
                    ∙ rejects (left lists);
                split = λ lists are.
                    let b = made lists are in
                    record { stands = subst (λ (bs : List ℕ). IsSplit work.config.schema bs (left lists)) b.1 b.0.split; few = b.0.within.few };
              };
        }
      where
        rejects : (ds : List Placed) → facts_of work.config ds (rejected_of work.rows) ≡ facts_of work.config ds (rejected_in work.config log (map (λ (mark : Part × ℕ). mark.0) (joined (map marks_of work.rows))))
        rejects ds = ap (λ n. form_facts work.config.schema ds n) (rejected_together work.config (until_of work) log core work.rows work.contents is i.each)

  -- ---- where others went on

  module _ {W : Type 0} (Stands : W → Core → Log → Type 0) (Between : Core → Core → Type 0) (Owns : W → ℕ → Type 0) (Adds : W → List CallMade → W → Type 0) (old new : W)
      (between : (core mid : Core) → Between core mid → GoesFor Nobody core mid) (sound : (after : Core) → Stands new after log → IsSoundCore after log) where
    abbrev Steps : Result Said AllocError → HeldPlace → Type 0
    Steps answered kept = StepsAs Stands Between Owns Adds Deleting answered (fetching work) core log kept old new

    -- what is left stays what it was
    left_stays : (mid after : Core) → Between core mid → GoesFor Nobody mid after → Stands new after log → left_of work mid ≡ left_of work core
    left_stays mid after passed goes stands =
        let on = between core mid passed in
        let legal = legal_front mid.history goes.grown.0 (subst (λ es. Legal reads (history es)) goes.grown.1 (sound_legal after log (sound after stands))) in
        left_alike work.config (ledger reads (history core.history)).tasks (ledger reads (history mid.history)).tasks work.upto (joined (map marks_of work.rows)) (documents_of work)
        (same_cover Nobody core mid on.grown.0 on.grown.1 legal on.keeps work.config work.upto i.known)

    any_less : (one : Option ℕ) (mid after : Core) → GoesOn one mid after → GoesFor Nobody mid after
    any_less one mid after g = goes_less (IsOther one) Nobody mid after (λ n no. absurd no) g

    left_many : length (left_of work core) + length dropped ≡ length (documents_of work)
    left_many =
        let count = leaves.count work.contents own_splits in
        let same = ap (λ (l : List Placed). length l) (leaves.left work.contents own_splits) in
        omega (arith, count, same)

    none_by : (mid : Core) → left_of work mid ≡ left_of work core → drops_none work mid ≡ (length (left_of work core) == length (documents_of work))
    none_by mid same = ap (λ (l : List Placed). length l == length (documents_of work)) same

    -- nothing is left out where no place is named, and something where one is
    all_left : (mid : Core) → left_of work mid ≡ left_of work core → dropped ≡ [] → drops_none work mid ≡ true
    all_left mid same none =
        let count = left_many in
        let zero_many = ap (λ (l : List ℕ). length l) none in
        none_by mid same ∙ eq-eqb (length (left_of work core)) (length (documents_of work)) (omega (arith, count, zero_many))

    some_left_out : (mid : Core) → left_of work mid ≡ left_of work core → (dropped ≡ [] → ⊥) → drops_none work mid ≡ false
    some_left_out mid same some = none_by mid same ∙ ne_eqb (length (left_of work core)) (length (documents_of work)) (λ e. some (no_length dropped (let count = left_many in omega (arith, count, e))))
      where
        no_length : (l : List ℕ) → length l ≡ 0 → l ≡ []
        no_length [] e = refl
        no_length (x ∷ l) e = absurd (omega (arith, e))

    -- ---- a Raise

    module _ (none : dropped ≡ []) where
      raise_did : (fate : Fate) (mid after : Core) (a : Result ⊤ Unmade) → drops_none work mid ≡ true → raise_call (first_number work.rows) work.upto fate mid ≡ gives a after →
          step_worker Deleting (by_world fate) log (fetching work) mid ≡ raise_by a (first_number work.rows) after
      raise_did fate mid after a all did =
          ap (λ u. step_work Deleting (by_world fate) work u mid) done
          ∙ ap (λ b. cond b (step_raise (by_world fate) (first_number work.rows) work.upto mid) (step_stage (by_world fate) (held_of Deleting work mid) mid)) all
          ∙ ap (raise_given (first_number work.rows)) did

      asks_raise : (mid : Core) → drops_none work mid ≡ true → of_raise (first_number work.rows) work.upto ≡ ask_of Deleting (fetching work) mid
      asks_raise mid all =
          sym (ap (λ u. ask_at_work Deleting work u mid) done ∙ ap (λ b. cond b (of_raise (first_number work.rows) work.upto) (of_stage [] (held_facts (held_of Deleting work mid 0)))) all)

      abbrev RaisesIt : Result ℕ WorldError → Type 0
      RaisesIt result = Does Stands Between Owns Adds None (of_raise (first_number work.rows) work.upto) (raise_call (first_number work.rows) work.upto) IsUnmade IsRevision result core log old new

      module _ (result : Result ℕ WorldError) (d : RaisesIt result) where
        same_left : left_of work d.mid ≡ left_of work core
        same_left = left_stays d.mid d.acts.after d.passed (any_less None d.mid d.acts.after d.acts.goes_on) d.acts.stands

        nothing : drops_none work d.mid ≡ true
        nothing = all_left d.mid same_left none

        raise_called : (outcome : Option UpkeepOutcome) → (IsShort result → outcome ≡ None) → Called Stands Between Owns Adds None (ask_of Deleting (fetching work) d.mid) (outcome ≡ None) core log old new d.mid d.acts.after
        raise_called outcome f = called_of result d None (ask_of Deleting (fetching work) d.mid) (outcome ≡ None) refl (asks_raise d.mid nothing) f

      raised_so : (revision : ℕ) → RaisesIt (Ok revision) → Steps (Ok (said.Raised (first_number work.rows))) places.Idle
      raised_so revision d = by d.acts.answer d.acts.did d.acts.says
        where
          by : (a : Result ⊤ Unmade) → raise_call (first_number work.rows) work.upto d.acts.fate d.mid ≡ gives a d.acts.after → Says IsUnmade IsRevision (Ok revision) a d.acts.after → Steps (Ok (said.Raised (first_number work.rows))) places.Idle
          by (Ok tt) did w =
              ends_idle Stands Between Owns Adds Deleting core log old new (fetching work) places.Idle (Ok (said.Raised (first_number work.rows))) d.mid d.acts.after (by_world d.acts.fate) (Some (outcomes.Raised (first_number work.rows)))
              (raise_called (Ok revision) d (Some (outcomes.Raised (first_number work.rows))) (λ short. absurd short)) (raise_did d.acts.fate d.mid d.acts.after (Ok tt) (nothing (Ok revision) d) did) refl refl
          by (Err e) did w = absurd w

      raise_fails : (error : WorldError) (answered : Told) → ((unmade : Unmade) → IsUnmade error unmade → Answers answered (lost_outcome (first_number work.rows) unmade)) → RaisesIt (Err error) → Steps answered places.Idle
      raise_fails error answered answers d = by d.acts.answer d.acts.did d.acts.says
        where
          by : (a : Result ⊤ Unmade) → raise_call (first_number work.rows) work.upto d.acts.fate d.mid ≡ gives a d.acts.after → Says IsUnmade IsRevision (Err error) a d.acts.after → Steps answered places.Idle
          by (Ok tt) did w = absurd w
          by (Err e) did w =
              ends_idle Stands Between Owns Adds Deleting core log old new (fetching work) places.Idle answered d.mid d.acts.after (by_world d.acts.fate) (lost_outcome (first_number work.rows) e)
              (raise_called (Err error) d (lost_outcome (first_number work.rows) e) (lost_none (first_number work.rows) error e w)) (raise_did d.acts.fate d.mid d.acts.after (Err e) (nothing (Err error) d) did) (answers e w) refl

      -- THE ROW IS RAISED, or lost
      pub raises : (number upto : ℕ) (answered : Told) → number ≡ first_number work.rows → upto ≡ work.upto → ((error : WorldError) (unmade : Unmade) → IsUnmade error unmade → Answers (lost_said number error) (lost_outcome number unmade)) →
          Raises Stands Between Owns Adds number upto answered core log old new → Steps answered places.Idle
      raises number upto answered same last answers r =
          subst (λ (t : Told). Steps t places.Idle) (sym r.tells)
          (by r.answer
          (subst (λ n. Does Stands Between Owns Adds None (of_raise n work.upto) (raise_call n work.upto) IsUnmade IsRevision r.answer core log old new) same
          (subst (λ u. Does Stands Between Owns Adds None (of_raise number u) (raise_call number u) IsUnmade IsRevision r.answer core log old new) last r.does)))
        where
          by : (result : Result ℕ WorldError) → RaisesIt result → Steps (raised_said number result) places.Idle
          by (Ok revision) d = subst (λ n. Steps (Ok (said.Raised n)) places.Idle) (sym same) (raised_so revision d)
          by (Err error) d = raise_fails error (lost_said number error) (λ unmade u. subst (λ n. Answers (lost_said number error) (lost_outcome n unmade)) same (answers error unmade u)) d

    -- ---- a replacement is staged

    module _ (some : dropped ≡ [] → ⊥) (built : BuiltSplit) (is : IsLog log) (made : IsMadeLeft built) where
      abbrev new_row : ℕ → WorkerHeld
      new_row number = held_of Deleting work core number

      abbrev with_left : List Placed → ℕ → WorkerHeld
      with_left ds number = record { config = work.config; number = number; old = row_numbers work.rows; upto = work.upto; documents = ds; rejected = rejected_of work.rows }

      facts_are : facts_said held.plan.rows built ≡ held_facts (held_of Deleting work core 0)
      facts_are = facts_made built is made held.plan.rows ws.rows

      abbrev StagesIt : Result Staged WorldError → Type 0
      StagesIt result = Does Stands Between Owns Adds None (of_stage [] (facts_said held.plan.rows built)) (stage_call [] (facts_said held.plan.rows built)) IsUnmade (WasStaged core [] (facts_said held.plan.rows built)) result core log old new

      module _ (mid : Core) (same : left_of work mid ≡ left_of work core) where
        out : drops_none work mid ≡ false
        out = some_left_out mid same some

        stage_did : (fate : Fate) (after : Core) (a : Result ⊤ Unmade) → stage_call [] (facts_said held.plan.rows built) fate mid ≡ gives a after → step_worker Deleting (by_world fate) log (fetching work) mid ≡ stage_by a (held_of Deleting work core) after
        stage_did fate after a did =
            ap (λ u. step_work Deleting (by_world fate) work u mid) done
            ∙ ap (λ b. cond b (step_raise (by_world fate) (first_number work.rows) work.upto mid) (step_stage (by_world fate) (held_of Deleting work mid) mid)) out
            ∙ ap (λ (ds : List Placed). stage_given (with_left ds) (stage_call [] (held_facts (with_left ds 0)) fate mid)) same
            ∙ ap (λ f. stage_given (held_of Deleting work core) (stage_call [] f fate mid)) (sym facts_are) ∙ ap (stage_given (held_of Deleting work core)) did

        asks_stage : of_stage [] (facts_said held.plan.rows built) ≡ ask_of Deleting (fetching work) mid
        asks_stage =
            ap (of_stage []) facts_are ∙ ap (λ (ds : List Placed). of_stage [] (held_facts (with_left ds 0))) (sym same)
            ∙ sym (ap (λ u. ask_at_work Deleting work u mid) done ∙ ap (λ b. cond b (of_raise (first_number work.rows) work.upto) (of_stage [] (held_facts (held_of Deleting work mid 0)))) out)

      stays : (result : Result Staged WorldError) (d : StagesIt result) → left_of work d.mid ≡ left_of work core
      stays result d = left_stays d.mid d.acts.after d.passed (any_less None d.mid d.acts.after d.acts.goes_on) d.acts.stands

      stage_called : (outcome : Option UpkeepOutcome) (result : Result Staged WorldError) (d : StagesIt result) → (IsShort result → outcome ≡ None) → Called Stands Between Owns Adds None (ask_of Deleting (fetching work) d.mid) (outcome ≡ None) core log old new d.mid d.acts.after
      stage_called outcome result d f = called_of result d None (ask_of Deleting (fetching work) d.mid) (outcome ≡ None) refl (asks_stage d.mid (stays result d)) f

      stage_fails : (kept : HeldPlace) (error : WorldError) (answered : Told) → kept ≡ places.Idle → ((unmade : Unmade) → IsUnmade error unmade → Answers answered (stage_outcome unmade)) → StagesIt (Err error) → Steps answered kept
      stage_fails kept error answered at_rest answers d = by d.acts.answer d.acts.did d.acts.says
        where
          by : (a : Result ⊤ Unmade) → stage_call [] (facts_said held.plan.rows built) d.acts.fate d.mid ≡ gives a d.acts.after → Says IsUnmade (WasStaged core [] (facts_said held.plan.rows built)) (Err error) a d.acts.after → Steps answered kept
          by (Ok tt) did w = absurd w
          by (Err e) did w =
              ends_idle Stands Between Owns Adds Deleting core log old new (fetching work) kept answered d.mid d.acts.after (by_world d.acts.fate) (stage_outcome e)
              (stage_called (stage_outcome e) (Err error) d (stage_none error e w)) (stage_did d.mid (stays (Err error) d) d.acts.fate d.acts.after (Err e) did) (answers e w) at_rest

      same_number : {a b : ℕ} → Some a ≡ Some b → a ≡ b
      same_number e = cc

      stages : (kept : HeldPlace) (token : Staged) → kept ≡ places.Staged held.plan token built.bytes → StagesIt (Ok token) → Steps (Ok (said.Staged token.number)) kept
      stages kept token put d = by d.acts.answer d.acts.did d.acts.says
        where
          by : (a : Result ⊤ Unmade) → stage_call [] (facts_said held.plan.rows built) d.acts.fate d.mid ≡ gives a d.acts.after → Says IsUnmade (WasStaged core [] (facts_said held.plan.rows built)) (Ok token) a d.acts.after → Steps (Ok (said.Staged token.number)) kept
          by (Err e) did w = absurd w
          by (Ok tt) did w =
              let after = d.acts.after in
              let number = last_number (history after.history) in
              let called = stage_called (Some (outcomes.Staged number)) (Ok token) d (λ short. absurd short) in
              let goes = called_goes called between in
              let in_hand : IsStagedIn [] (held_facts (held_of Deleting work core 0)) after number = subst (λ n. IsStagedIn [] (held_facts (held_of Deleting work core 0)) after n) w.number (subst (λ f. IsStagedIn [] f after token.number) facts_are w.in_hand) in
              ends_at Stands Between Owns Adds Deleting core log old new (fetching work) (staged (held_of Deleting work core number)) kept (Ok (said.Staged token.number)) d.mid after (by_world d.acts.fate) (Some (outcomes.Staged number))
              called (stage_did d.mid (stays (Ok token) d) d.acts.fate after (Ok tt) did) (ap outcomes.Staged (sym w.number))
              (subst (λ k. PlaceStands Deleting log after k (staged (held_of Deleting work core number))) (sym put) (
                held_of Deleting work core number,
                refl,
                record { old = ap numbers_of ws.rows ∙ numbers_said work.rows; upto = ws.upto },
                w.number,
                file_made built is made,
                record {
                  configured = goes.keeps.configured work.config i.configured;
                  unused = in_hand.unused;
                  staged = in_hand.staged;
                  made = made_stays core after log goes (sound_legal after log (sound after d.acts.stands)) (held_of Deleting work core number) (left_is_made built is made number);
                },
              ))
              (λ n st e. absurd (fresh n (w.apart n st) (w.number ∙ same_number e)))
            where
              fresh : (n : ℕ) → n < token.number → token.number ≡ n → ⊥
              fresh n low e = omega (arith, low, e)

      -- WHAT WAS MADE OF WHAT IS LEFT is staged
      pub left_stages : (kept : HeldPlace) (answered : Told) → ((error : WorldError) → answered ≡ unstaged_said error → (unmade : Unmade) → IsUnmade error unmade → Answers answered (stage_outcome unmade)) →
          Stages Stands Between Owns Adds held.plan built answered core log kept old new → Steps answered kept
      left_stages kept answered answers s = by s.answer s.does s.tells
        where
          by : (result : Result Staged WorldError) → StagesIt result → StagedTold held.plan built result answered kept → Steps answered kept
          by (Ok token) d told = subst (λ r. Steps r kept) (sym told.0) (stages kept token told.1 d)
          by (Err error) d told = stage_fails kept error answered told.1 (answers error told.0) d

-- ---- by the words of the code

-- the number of the plan's first row is that of the planned one
module _ (core : Core) (log : Log) (held : HeldWork) (work : Work) (ws : WorkStands held work) (i : IsWork log core work) (p : IsPlannedFor Deleting work) (done : work.unfetched ≡ []) (row : PlanRow) (number : ℕ)
    (there : slice_get held.plan.rows 0 ≡ Some row) (same : row.number ≡ number) where
  one : One work
  one = one_row core log work i p

  number_of : number ≡ one.row.number
  number_of = sym same ∙ ap (λ (r : PlanRow). r.number) (some_row row (worked_row one.row) (sym there ∙ first_row core log held work ws i done one))
    where
      some_row : (a b : PlanRow) → ◌≡◌ {A = Option PlanRow} (Some a) (Some b) → a ≡ b
      some_row a b e = cc e

  pub number_is : number ≡ first_number work.rows
  number_is = number_of ∙ sym (ap first_number one.rows)

  -- what a Raise needs
  pub raisable_as : (dropped : List ℕ) (leaves : LeavesOf core work dropped) → dropped ≡ [] → IsRaisable core number held.plan.upto
  raisable_as dropped leaves none =
      subst (λ u. IsRaisable core number u) (sym ws.upto)
      (subst (λ n. IsRaisable core n work.upto) (sym number_of) (row_raisable core log held work ws i p done dropped leaves none one.row one.documents one.rows one.contents))

-- what was dropped leaves what is to be left
module _ (core : Core) (log : Log) (held : HeldWork) (work : Work) (ws : WorkStands held work) (i : IsWork log core work) (p : IsPlannedFor Deleting work) (done : work.unfetched ≡ []) (sound : IsSoundCore core log)
    (row : PlanRow) (bytes : List ℕ) (there : slice_get held.plan.rows 0 ≡ Some row) (file : slice_get held.files 0 ≡ Some bytes) (config : IndexConfig) (configured : IsConfigured config core) where
  planned_one : One work
  planned_one = one_row core log work i p

  same_schema : config.schema ≡ work.config.schema
  same_schema = ap (λ (k : IndexConfig). k.schema) (same_config (configuration (journal_of core)) config work.config configured i.configured)

  pub leaves_as : (dropped : List ℕ) → DropsOf config.schema (spans_of row.work) held.plan.tasks held.plan.upto bytes dropped → LeavesOf core work dropped
  leaves_as dropped d =
      drop_leaves core log work i planned_one dropped
      (asked_so core log held work ws i done planned_one row bytes there file p (λ s spans ts upto bs. DropsOf s spans ts upto bs dropped) config.schema same_schema d)

  asked_never : IsUnasked config.schema held.plan.tasks bytes → ⊥
  asked_never unasked =
      all_asked core log work i planned_one
      (asked_so core log held work ws i done planned_one row bytes there file p (λ s spans ts upto bs. IsUnasked s ts bs) config.schema same_schema unasked)

  -- so nothing but want of memory hinders
  pub want_alone : (error : LeafError) → IsMemory error ⊎ IsUnasked config.schema held.plan.tasks bytes → (number : ℕ) (answered : Told) → answered ≡ unasked_said number error → Answers answered None
  want_alone error (inr unasked) number answered is = absurd (asked_never unasked)
  want_alone error (inl memory) number answered is = subst (λ (t : Told). Answers t None) (sym is) (by error memory)
    where
      by : (error : LeafError) → IsMemory error → Answers (unasked_said number error) None
      by (leaf.Memory a) h = tt
      by (leaf.Missing at) h = absurd h
      by (leaf.Corrupt section) h = absurd h

-- ---- how it ends

module _ (row : PlanRow) (Gave : Answered → Type 0) (config : IndexConfig) (work : HeldWork) (result : Told) (place : HeldPlace) where
  pub raised_ends : (dropped : List ℕ) (number : ℕ) → dropped ≡ [] → row.number ≡ number → Ends (EndsRaise Gave work.plan number) result place → Ends (EndsDropped dropped row Gave config work) result place
  raised_ends dropped number none same h =
      subst (λ (ds : List ℕ). Ends (EndsDropped ds row Gave config work) result place) (sym none) (subst (λ n. Ends (EndsRaise Gave work.plan n) result place) (sym same) h)

  pub left_ends : (dropped : List ℕ) → (dropped ≡ [] → ⊥) → Ends (EndsLeft dropped Gave config work) result place → Ends (EndsDropped dropped row Gave config work) result place
  left_ends [] some h = absurd (some refl)
  left_ends (d ∷ dropped) some h = h

  module _ (bytes : List ℕ) where
    pub dropped_ends : (dropped : List ℕ) → DropsOf config.schema (spans_of row.work) work.plan.tasks work.plan.upto bytes dropped → Ends (EndsDropped dropped row Gave config work) result place → Ends (EndsDrop row bytes Gave config work) result place
    dropped_ends dropped d h = ends_where (EndsDropped dropped row Gave config work) (EndsDrop row bytes Gave config work) result place (λ outcome says. inr (dropped, d, says)) h

    pub unasked_ends : (error : LeafError) → IsMemory error ⊎ IsUnasked config.schema work.plan.tasks bytes → result ≡ unasked_said row.number error → place ≡ places.Idle → Ends (EndsDrop row bytes Gave config work) result place
    unasked_ends error (inr unasked) is at_rest = ends_by (EndsDrop row bytes Gave config work) result place at_rest (λ outcome e. inl (error, unasked, sym is ∙ e, at_rest))
    unasked_ends (leaf.Memory a) (inl memory) is at_rest = ends_short (EndsDrop row bytes Gave config work) result place (subst IsErr (sym is) refl) at_rest
    unasked_ends (leaf.Missing at) (inl memory) is at_rest = absurd memory
    unasked_ends (leaf.Corrupt section) (inl memory) is at_rest = absurd memory
