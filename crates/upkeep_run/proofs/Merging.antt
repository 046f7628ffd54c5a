-- A step of a merger that stages what it made of the planned rows' files.
use Rattle.std.proofs.Common.{◌≡◌, ℕ, zero, suc, ◌<◌, ◌≤◌, List, [], ◌∷◌, drop, length, map, refl, sym, ap, ◌∙◌, subst, arith, Ok, Err, Result, Option, Some, None}
use Rattle.std.proofs.lemmas.List.{take_all}
use Rattle.std.specs.Prelude.{⊤}
use Rattle.std.specs.declared.alloc.AllocError.{AllocError}
use Rattle.index_config.specs.declared.config.IndexConfig.{IndexConfig}
use Rattle.meta_store.specs.History.{history, last_number}
use Rattle.source_log.specs.Log.{IsLog, Log}
use Rattle.split_build.specs.Builders.{IsBuilt}
use Rattle.split_build.specs.declared.build_error.BuildError.TheVariants as build
use Rattle.split_build.specs.declared.builder.BuiltSplit.{BuiltSplit}
use Rattle.split_bundle.specs.declared.placed.Placed.{Placed}
use Rattle.split_merge.specs.Keeping as keeping
use Rattle.split_merge.specs.Merging.{Merges}
use Rattle.split_merge.specs.declared.merge_error.MergeError.{MergeError}
use Rattle.split_merge.specs.declared.merge_error.MergeError.TheVariants as merges
use Rattle.split_states.specs.declared.facts.RowFacts.{RowFacts}
use Rattle.index_world.specs.Calls.{Fate, Unmade, gives}
use Rattle.index_world.specs.CallsMade.{CallMade, IsShort, of_stage}
use Rattle.index_world.specs.Core.{Core, Nobody}
use Rattle.index_world.specs.Gate.{Does, IsSoundCore, IsStagedIn, IsUnmade, Says, WasStaged, stage_call}
use Rattle.index_world.specs.Replacing.{joined, numbers_of}
use Rattle.index_world.specs.SplitFile.{facts_of, file_of}
use Rattle.index_world.specs.World.{GoesFor}
use Rattle.index_world.specs.declared.tokens.Staged.{Staged}
use Rattle.index_world.specs.declared.world_error.WorldError.{WorldError}
use Rattle.meta_store.specs.Planning.{worked_row}
use Rattle.split_states.specs.declared.rows.Row.{Row}
use Rattle.upkeep_run.specs.Asking.{ask_at_work, ask_of}
use Rattle.upkeep_run.specs.Ending.{Told, facts_said, unstaged_said}
use Rattle.upkeep_run.specs.Judging.{AreSplits}
use Rattle.upkeep_run.specs.Outcomes as outcomes
use Rattle.upkeep_run.specs.Outcomes.{UpkeepOutcome}
use Rattle.upkeep_run.specs.Places.{WorkerHeld, IsPlannedFor, IsWork, Work, fetching, held_facts, row_numbers, staged, until_of}
use Rattle.upkeep_run.specs.Standing.{Answers, PlaceStands, StagedTold, Stages, StepsAs, WorkStands}
use Rattle.upkeep_run.specs.Steps.{held_of, stage_by, stage_given, stage_outcome, step_work, step_worker}
use Rattle.upkeep_run.specs.declared.outcome.UpkeepOutcome.{UpkeepOutcome as Said}
use Rattle.upkeep_run.specs.declared.outcome.UpkeepOutcome.TheVariants as said
use Rattle.upkeep_run.specs.declared.work.Aim.TheVariants.{Merging}
use Rattle.upkeep_run.specs.declared.work.WorkerPlace.{WorkerPlace as HeldPlace}
use Rattle.upkeep_run.specs.declared.work.WorkerPlace.TheVariants as places
use Rattle.upkeep_run.specs.declared.work.Work.{Work as HeldWork}
use Rattle.upkeep_run.proofs.Holding.{made_stays, sound_legal}
use Rattle.upkeep_run.proofs.Making.{IsBuiltOf, all_kept, are_splits, as_many, count_is, facts_held, file_held, files_are, merge_is_made, weights_are}
use Rattle.upkeep_run.proofs.Stepping.{Called, by_world, called_goes, called_of, ends_at, ends_idle, no_room, none_called, stage_none}

-- ---- the files that were fetched are those of all rows

past_drop : (rows : List Row) (n : ℕ) → drop n rows ≡ [] → n ≤ length rows → n ≡ length rows
past_drop [] zero e le = refl
past_drop [] (suc n) e le = absurd (omega (arith, le))
past_drop (row ∷ rows) zero e le = cc
past_drop (row ∷ rows) (suc n) e le = ap suc (past_drop rows n e (omega (arith, le)))

pub numbers_said : (rows : List Row) → numbers_of (map worked_row rows) ≡ row_numbers rows
numbers_said [] = refl
numbers_said (row ∷ rows) = ap (λ l. row.number ∷ l) (numbers_said rows)

module _ (core : Core) (log : Log) (held : HeldWork) (work : Work) (ws : WorkStands held work) (i : IsWork log core work) (done : work.unfetched ≡ []) where
  pub all_files : held.files ≡ map (file_of work.config) work.contents
  all_files =
      let all = past_drop work.rows held.next (sym ws.unfetched ∙ done) ws.within in
      let many = as_many work.config (until_of work) log core work.rows work.contents i.each in
      ws.files ∙ ap (map (file_of work.config)) (take_all held.next work.contents (omega (arith, all, many)))

  -- ---- what the merge gives

  -- a split of all documents, or want of memory
  pub no_fault : (error : MergeError) (s : IndexConfig) → s ≡ work.config → ((lists : List (List Placed)) → AreSplits s.schema held.files lists → Merges s.schema (keeping.kept [] (keeping.joined lists)) (Err error)) →
      (e : AllocError) × (error ≡ merges.Memory e)
  no_fault error s same f = by error (subst (λ (ds : List Placed). Merges s.schema ds (Err error)) (all_kept work.contents) (f work.contents splits))
    where
      splits : AreSplits s.schema held.files work.contents
      splits =
          subst (λ (c : IndexConfig). AreSplits c.schema held.files work.contents) (sym same)
          (subst (λ fs. AreSplits work.config.schema fs work.contents) (sym all_files) (are_splits work.config (map (file_of work.config) work.contents) work.contents (files_are work.config (until_of work) log core work.rows work.contents i.each)))

      by : (error : MergeError) → Merges s.schema (joined work.contents) (Err error) → (e : AllocError) × (error ≡ merges.Memory e)
      by (merges.Memory e) h = (e, refl)
      by (merges.Split place e) h = absurd h
      by (merges.Build (build.Memory e)) h = absurd h
      by (merges.Build (build.TooManyDocs count)) h =
          let few = i.fits.docs in
          let docs = count_is work.config (until_of work) log core work.rows work.contents i.each in
          let many = h.0 in
          absurd (omega (arith, few, docs, many))
      by (merges.Build (build.TooLarge weight)) h =
          let light = i.fits.weight in
          let weights = weights_are work.config (until_of work) log core work.rows work.contents i.each in
          let heavy = h.1 in
          absurd (omega (arith, light, weights, heavy))

  -- whatever documents the files stand for
  pub built_of : (built : BuiltSplit) (s : IndexConfig) → s ≡ work.config → ((lists : List (List Placed)) → AreSplits s.schema held.files lists → Merges s.schema (keeping.kept [] (keeping.joined lists)) (Ok built)) →
      ((documents : List Placed) → IsBuilt s.schema documents built → (built.bytes ≡ file_of s documents) × (built.facts ≡ facts_of s documents 0)) → IsBuiltOf work.config (map (file_of work.config) work.contents) built
  built_of built s same f one = subst (λ (c : IndexConfig). IsBuiltOf c (map (file_of work.config) work.contents) built) same (λ lists are.
      let splits = subst (λ fs. AreSplits s.schema fs lists) (sym all_files) (are_splits s (map (file_of work.config) work.contents) lists are) in
      let built_is : IsBuilt s.schema (joined lists) built = subst (λ (ds : List Placed). Merges s.schema ds (Ok built)) (all_kept lists) (f lists splits) in
      let both = one (joined lists) built_is in
      (built_is, both.0, both.1))

  -- ---- the step

  module _ {W : Type 0} (Stands : W → Core → Log → Type 0) (Between : Core → Core → Type 0) (Owns : W → ℕ → Type 0) (Adds : W → List CallMade → W → Type 0) (old new : W) where
    abbrev Steps : Result Said AllocError → HeldPlace → Type 0
    Steps answered kept = StepsAs Stands Between Owns Adds Merging answered (fetching work) core log kept old new

    merge_step : (fate : Fate) (mid : Core) → step_worker Merging (by_world fate) log (fetching work) mid ≡ stage_given (held_of Merging work mid) (stage_call [] (held_facts (held_of Merging work mid 0)) fate mid)
    merge_step fate mid = ap (λ u. step_work Merging (by_world fate) work u mid) done

    merge_asks : (mid : Core) → of_stage [] (held_facts (held_of Merging work mid 0)) ≡ ask_of Merging (fetching work) mid
    merge_asks mid = sym (ap (λ u. ask_at_work Merging work u mid) done)

    -- without memory for a split nothing is asked
    pub merge_short : (kept : HeldPlace) (answered : Result Said AllocError) → kept ≡ places.Idle → Answers answered None → Stands new core log → Between core core → Adds old [] new → Steps answered kept
    merge_short kept answered is answer stands passed own =
        ends_idle Stands Between Owns Adds Merging core log old new (fetching work) kept answered core core (by_world no_room) None
        (none_called Stands Between Owns Adds None (ask_of Merging (fetching work) core) (None ≡ None) core log old new stands passed own refl) (merge_step no_room core) answer is

    module _ (for_aim : IsPlannedFor Merging work) (built : BuiltSplit) (is : IsLog log) (made : IsBuiltOf work.config (map (file_of work.config) work.contents) built) (between : (core mid : Core) → Between core mid → GoesFor Nobody core mid)
        (sound : (after : Core) → Stands new after log → IsSoundCore after log) where
      abbrev facts : RowFacts
      facts = facts_said held.plan.rows built

      facts_are : facts_said held.plan.rows built ≡ held_facts (held_of Merging work core 0)
      facts_are = facts_held log core work built is i made held.plan.rows ws.rows

      abbrev StagesIt : Result Staged WorldError → Type 0
      StagesIt result = Does Stands Between Owns Adds None (of_stage [] (facts_said held.plan.rows built)) (stage_call [] (facts_said held.plan.rows built)) IsUnmade (WasStaged core [] (facts_said held.plan.rows built)) result core log old new

      stage_did : (fate : Fate) (mid after : Core) (a : Result ⊤ Unmade) → stage_call [] (facts_said held.plan.rows built) fate mid ≡ gives a after → step_worker Merging (by_world fate) log (fetching work) mid ≡ stage_by a (held_of Merging work mid) after
      stage_did fate mid after a did = merge_step fate mid ∙ ap (λ f. stage_given (held_of Merging work mid) (stage_call [] f fate mid)) (sym facts_are) ∙ ap (stage_given (held_of Merging work mid)) did

      stage_called : (outcome : Option UpkeepOutcome) (result : Result Staged WorldError) (d : StagesIt result) → (IsShort result → outcome ≡ None) → Called Stands Between Owns Adds None (ask_of Merging (fetching work) d.mid) (outcome ≡ None) core log old new d.mid d.acts.after
      stage_called outcome result d f = called_of result d None (ask_of Merging (fetching work) d.mid) (outcome ≡ None) refl (ap (of_stage []) facts_are ∙ merge_asks d.mid) f

      stage_fails : (kept : HeldPlace) (error : WorldError) (answered : Told) → kept ≡ places.Idle → ((unmade : Unmade) → IsUnmade error unmade → Answers answered (stage_outcome unmade)) → StagesIt (Err error) → Steps answered kept
      stage_fails kept error answered idle answers d = by d.acts.answer d.acts.did d.acts.says
        where
          by : (a : Result ⊤ Unmade) → stage_call [] (facts_said held.plan.rows built) d.acts.fate d.mid ≡ gives a d.acts.after → Says IsUnmade (WasStaged core [] (facts_said held.plan.rows built)) (Err error) a d.acts.after → Steps answered kept
          by (Ok tt) did w = absurd w
          by (Err e) did w =
              ends_idle Stands Between Owns Adds Merging core log old new (fetching work) kept answered d.mid d.acts.after (by_world d.acts.fate) (stage_outcome e)
              (stage_called (stage_outcome e) (Err error) d (stage_none error e w)) (stage_did d.acts.fate d.mid d.acts.after (Err e) did) (answers e w) idle

      same_number : {a b : ℕ} → Some a ≡ Some b → a ≡ b
      same_number e = cc

      stages : (kept : HeldPlace) (token : Staged) → kept ≡ places.Staged held.plan token built.bytes → StagesIt (Ok token) → Steps (Ok (said.Staged token.number)) kept
      stages kept token put d = by d.acts.answer d.acts.did d.acts.says
        where
          by : (a : Result ⊤ Unmade) → stage_call [] (facts_said held.plan.rows built) d.acts.fate d.mid ≡ gives a d.acts.after → Says IsUnmade (WasStaged core [] (facts_said held.plan.rows built)) (Ok token) a d.acts.after → Steps (Ok (said.Staged token.number)) kept
          by (Err e) did w = absurd w
          by (Ok tt) did w =
              let after = d.acts.after in
              let number = last_number (history after.history) in
              let replacement : WorkerHeld = held_of Merging work core number in
              let called = stage_called (Some (outcomes.Staged number)) (Ok token) d (λ short. absurd short) in
              let goes = called_goes called between in
              let in_hand : IsStagedIn [] (held_facts (held_of Merging work core 0)) after number = subst (λ n. IsStagedIn [] (held_facts (held_of Merging work core 0)) after n) w.number (subst (λ f. IsStagedIn [] f after token.number) facts_are w.in_hand) in
              ends_at Stands Between Owns Adds Merging core log old new (fetching work) (staged (held_of Merging work core number)) kept (Ok (said.Staged token.number)) d.mid after (by_world d.acts.fate) (Some (outcomes.Staged number))
              called (stage_did d.acts.fate d.mid after (Ok tt) did) (ap outcomes.Staged (sym w.number))
              (subst (λ k. PlaceStands Merging log after k (staged (held_of Merging work core number))) (sym put) (
                held_of Merging work core number,
                refl,
                record { old = ap numbers_of ws.rows ∙ numbers_said work.rows; upto = refl },
                w.number,
                file_held log core work built is i made,
                record {
                  configured = goes.keeps.configured work.config i.configured;
                  unused = in_hand.unused;
                  staged = in_hand.staged;
                  made = made_stays core after log goes (sound_legal after log (sound after d.acts.stands)) (held_of Merging work core number) (merge_is_made log core work built is i made number Merging for_aim);
                },
              ))
              (λ n st e. absurd (fresh n (w.apart n st) (w.number ∙ same_number e)))
            where
              fresh : (n : ℕ) → n < token.number → token.number ≡ n → ⊥
              fresh n low e = omega (arith, low, e)

      -- WHAT WAS MADE OF ALL FILES is staged
      pub merge_stages : (kept : HeldPlace) (answered : Told) → ((error : WorldError) → answered ≡ unstaged_said error → (unmade : Unmade) → IsUnmade error unmade → Answers answered (stage_outcome unmade)) →
          Stages Stands Between Owns Adds held.plan built answered core log kept old new → Steps answered kept
      merge_stages kept answered answers s = by s.answer s.does s.tells
        where
          by : (result : Result Staged WorldError) → StagesIt result → StagedTold held.plan built result answered kept → Steps answered kept
          by (Ok token) d told = subst (λ r. Steps r kept) (sym told.0) (stages kept token told.1 d)
          by (Err error) d told = stage_fails kept error answered told.1 (answers error told.0) d
