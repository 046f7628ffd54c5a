-- A step that fetches the file of a planned row.
use Rattle.std.proofs.Common.{◌≡◌, ℕ, suc, ◌+◌, ◌-◌, ◌^◌, Bool, true, false, List, [], ◌∷◌, ◌++◌, drop, length, map, min, take, refl, sym, ap, ap₂, ◌∙◌, subst, arith, inl, inr, Ok, Err, Result, Option, Some, None}
use Rattle.std.proofs.lemmas.List.{map-append}
use Rattle.std.specs.Prelude.{⊤, slice_get}
use Rattle.std.specs.declared.alloc.AllocError.{AllocError}
use Rattle.meta_store.specs.declared.planning.PlanRow.{PlanRow}
use Rattle.meta_store.specs.declared.planning.RowWork.{RowWork}
use Rattle.object_store.specs.Store.{IsPieceOf}
use Rattle.object_store.specs.declared.store.Piece.{Piece}
use Rattle.source_log.specs.Log.{Log}
use Rattle.split_bundle.specs.Documents.{total_weight}
use Rattle.split_states.specs.declared.facts.RowFacts.{RowFacts}
use Rattle.index_world.specs.Calls.{Fate, Grace, Trouble, fetched, fetched_from, gives}
use Rattle.index_world.specs.CallsMade.{CallMade, IsRecorded, IsShort, of_fetch}
use Rattle.index_world.specs.Core.{Core, Nobody}
use Rattle.index_world.specs.Gate.{Acts, Does, IsPieceGiven, IsSoundCore, IsTrouble, IsUnfetched, Says, grace_of}
use Rattle.index_world.specs.Index.{ranges_of}
use Rattle.index_world.specs.Seen.{rejected_in}
use Rattle.index_world.specs.SplitFile.{file_of}
use Rattle.index_world.specs.World.{GoesFor}
use Rattle.index_world.specs.declared.world_error.WorldError.{WorldError}
use Rattle.index_world.proofs.FetchLaws.{fetch_planned}
use Rattle.upkeep_run.specs.Asking.{ask_at_work, ask_of, whole}
use Rattle.upkeep_run.specs.Ending.{Ends, TellsJudged, with_file}
use Rattle.upkeep_run.specs.Outcomes as outcomes
use Rattle.upkeep_run.specs.Outcomes.{UpkeepOutcome}
use Rattle.upkeep_run.specs.Places.{IsPlannedFor, IsRowInHand, IsWork, Work, fetching, until_of}
use Rattle.upkeep_run.specs.Standing.{Answers, PlaceStands, StepsAs, WorkStands}
use Rattle.upkeep_run.specs.Steps.{WorkerLuck, fetch_by, fetch_given, grace_in, or_short, step_work, step_worker, trouble_outcome}
use Rattle.upkeep_run.specs.declared.outcome.UpkeepOutcome.{UpkeepOutcome as Said}
use Rattle.upkeep_run.specs.declared.work.Aim.{Aim}
use Rattle.upkeep_run.specs.declared.work.WorkerPlace.{WorkerPlace as HeldPlace}
use Rattle.upkeep_run.specs.declared.work.WorkerPlace.TheVariants as places
use Rattle.upkeep_run.specs.declared.work.Work.{Work as HeldWork}
use Rattle.upkeep_run.proofs.Holding.{sound_legal, work_stays}
use Rattle.upkeep_run.proofs.Making.{docs_are, weight_is}
use Rattle.upkeep_run.proofs.Planned.{At, at_place, short_file, whole_piece}
use Rattle.upkeep_run.proofs.Stepping.{Called, called_goes, ends_at, ends_idle, trouble_none}

-- with this fate, and memory behind its call or not
abbrev pub luck_by : Bool → Fate → WorkerLuck
luck_by short fate = record { world = fate; short = short }

module _ (core : Core) (log : Log) (held : HeldWork) (work : Work) (said_row : PlanRow) (ws : WorkStands held work) (i : IsWork log core work) (there : slice_get held.plan.rows held.next ≡ Some said_row) where
  pub next : At (IsRowInHand work.config (until_of work) log core) held.next work.rows work.contents said_row
  next = at_place (IsRowInHand work.config (until_of work) log core) held.next work.rows work.contents said_row i.each (ap (λ l. slice_get l held.next) (sym ws.rows) ∙ there)

  pub next_number : next.row.number ≡ said_row.number
  next_number = ap (λ (r : PlanRow). r.number) next.same

  left_is : work.unfetched ≡ next.row ∷ drop (suc held.next) work.rows
  left_is = ws.unfetched ∙ next.behind

  pub next_grace : grace_of work.config held.plan ≡ grace_in work
  next_grace = ap (λ m. record { planned_at = m; until = m + work.config.deletion_grace }) ws.moment

  -- what the row says of its file is so
  abbrev pub known : RowWork
  known = record { docs = next.row.facts.docs; rejected = next.row.facts.rejected; weight = next.row.facts.weight; spans = next.row.spans }

  pub known_is : said_row.work ≡ Some known
  known_is = ap (λ (r : PlanRow). r.work) (sym next.same)

  pub docs_known : length next.documents ≡ known.docs
  docs_known = sym (ap (λ (f : RowFacts). f.docs) next.known.facts ∙ docs_are work.config next.documents (rejected_in work.config log (ranges_of next.row)))

  pub weight_known : total_weight next.documents ≡ known.weight
  weight_known = sym (ap (λ (f : RowFacts). f.weight) next.known.facts ∙ weight_is work.config next.documents (rejected_in work.config log (ranges_of next.row)))

  abbrev file : List ℕ
  file = file_of work.config next.documents

  module _ {W : Type 0} (Stands : W → Core → Log → Type 0) (Between : Core → Core → Type 0) (Owns : W → ℕ → Type 0) (Adds : W → List CallMade → W → Type 0) (aim : Aim) (old new : W)
      (between : (core mid : Core) → Between core mid → GoesFor Nobody core mid) (sound : (after : Core) → Stands new after log → IsSoundCore after log) (result : Result Piece WorldError) (for_aim : IsPlannedFor aim work) where
    abbrev Steps : Result Said AllocError → HeldPlace → Type 0
    Steps answered kept = StepsAs Stands Between Owns Adds aim answered (fetching work) core log kept old new

    abbrev FetchesOf : ℕ → Grace → Type 0
    FetchesOf number grace = Does Stands Between Owns Adds None (of_fetch number 0 whole) (fetched_from grace number) IsUnfetched (IsPieceGiven number 0 whole) result core log old new

    abbrev IsPiece : Piece → Core → Type 0
    IsPiece piece after = IsPieceOf file 0 whole piece

    module _ (d : FetchesOf next.row.number (grace_in work)) where
      -- the gate stands, and for the core that the call left
      abbrev Left : W → Core → Log → Type 0
      Left gate after l = Stands gate after l × (after ≡ d.acts.after)

      pub met : Acts Left None (fetched (grace_in work)) IsTrouble IsPiece result d.mid log new
      met =
          fetch_planned Left (grace_in work) next.row.number 0 whole file result d.mid log new ((between core d.mid d.passed).planned (until_of work) next.row.number file next.known.planned)
          (record { fate = d.acts.fate; answer = d.acts.answer; after = d.acts.after; did = d.acts.did; says = d.acts.says; goes_on = d.acts.goes_on; stands = (d.acts.stands, refl) })

      recorded : (free : Type 0) → (IsShort result → free) → IsRecorded (of_fetch next.row.number 0 whole) d.mid d.acts.after (IsShort result) d.made → IsRecorded (of_fetch next.row.number 0 whole) d.mid d.acts.after free d.made
      recorded free f (inl once) = inl once
      recorded free f (inr none) = inr (none.0, none.1, f none.2)

      fetch_called : (outcome : Option UpkeepOutcome) → (IsShort result → outcome ≡ None) → Called Stands Between Owns Adds None (ask_of aim (fetching work) d.mid) (outcome ≡ None) core log old new d.mid met.after
      fetch_called outcome f =
          record {
            passed = d.passed;
            owned = d.owned;
            goes = met.goes_on;
            stands = met.stands.0;
            made = d.made;
            own = d.own;
            asked = subst (λ q. IsRecorded q d.mid met.after (outcome ≡ None) d.made) (sym (ap (λ u. ask_at_work aim work u d.mid) left_is))
                (subst (λ c. IsRecorded (of_fetch next.row.number 0 whole) d.mid c (outcome ≡ None) d.made) (sym met.stands.1) (recorded (outcome ≡ None) f d.once));
          }

      fetch_did : (short : Bool) (a : Result ⊤ Trouble) → fetched (grace_in work) met.fate d.mid ≡ gives a met.after →
          step_worker aim (luck_by short met.fate) log (fetching work) d.mid ≡ or_short short (fetch_by a work next.row.number (drop (suc held.next) work.rows) met.after)
      fetch_did short a did =
          ap (or_short short) (ap (λ u. step_work aim (luck_by short met.fate) work u d.mid) left_is ∙ ap (fetch_given work next.row.number (drop (suc held.next) work.rows)) did)

      fails : (kept : HeldPlace) (error : WorldError) (answered : Result Said AllocError) → result ≡ Err error → kept ≡ places.Idle → ((trouble : Trouble) → IsTrouble error trouble → Answers answered (trouble_outcome trouble)) → Steps answered kept
      fails kept error answered was is answers = by met.answer met.did (subst (λ r. Says IsTrouble IsPiece r met.answer met.after) was met.says)
        where
          by : (a : Result ⊤ Trouble) → fetched (grace_in work) met.fate d.mid ≡ gives a met.after → Says IsTrouble IsPiece (Err error) a met.after → Steps answered kept
          by (Ok done) did w = absurd w
          by (Err e) did w =
              ends_idle Stands Between Owns Adds aim core log old new (fetching work) kept answered d.mid met.after (luck_by false met.fate) (trouble_outcome e)
              (fetch_called (trouble_outcome e) (λ short. trouble_none error e w (subst IsShort was short))) (fetch_did false (Err e) did) (answers e w) is

      -- a fetched file is taken; without memory for it the worker is idle
      module _ (piece : Piece) (was : result ≡ Ok piece) where
        gave : (a : Result ⊤ Trouble) → Says IsTrouble IsPiece (Ok piece) a met.after → (a ≡ Ok tt) × IsPieceOf file 0 whole piece
        gave (Ok done) w = (refl, w)
        gave (Err e) w = absurd w

        given : (met.answer ≡ Ok tt) × IsPieceOf file 0 whole piece
        given = gave met.answer (subst (λ r. Says IsTrouble IsPiece r met.answer met.after) was met.says)

        pub is_whole : piece.bytes ≡ file
        is_whole = whole_piece file piece (short_file work.config next.documents next.known.split) given.1

        later : Work
        later = record work { unfetched = drop (suc held.next) work.rows }

        step : min (held.next + 1) (2 ^ 32 - 1) ≡ suc held.next
        step = let within = next.within in let few = i.few in omega (arith, within, few)

        more_stands : WorkStands (with_file piece.bytes held) (record work { unfetched = drop (suc held.next) work.rows })
        more_stands =
            record {
              rows = ws.rows;
              moment = ws.moment;
              upto = ws.upto;
              tasks = ws.tasks;
              within = (let at = step in let within = next.within in omega (arith, at, within));
              files = ap₂ (λ fs b. fs ++ b ∷ []) ws.files is_whole ∙ sym (map-append (file_of work.config) (take held.next work.contents) (next.documents ∷ []))
                  ∙ ap (map (file_of work.config)) (sym next.taken) ∙ ap (λ n. map (file_of work.config) (take n work.contents)) (sym step);
              unfetched = ap (λ n. drop n work.rows) (sym step);
            }

        goes : GoesFor Nobody core met.after
        goes = called_goes (fetch_called None (λ short. refl)) between

        more_is_work : IsWork log met.after (record work { unfetched = drop (suc held.next) work.rows })
        more_is_work =
            let w = work_stays core met.after log goes (sound_legal met.after log (sound met.after met.stands.0)) work i in
            record { configured = w.configured; each = w.each; fits = w.fits; few = w.few; known = w.known; numbered = w.numbered; asked = w.asked; covers = w.covers }

        takes : (kept : HeldPlace) (answered : Result Said AllocError) → Ends (TellsJudged said_row held piece.bytes true) answered kept → Steps answered kept
        takes kept (Err refused) is =
            ends_idle Stands Between Owns Adds aim core log old new (fetching work) kept (Err refused) d.mid met.after (luck_by true met.fate) None (fetch_called None (λ short. refl))
            (fetch_did true met.answer met.did ∙ ap (λ a. or_short true (fetch_by a work next.row.number (drop (suc held.next) work.rows) met.after)) given.0) tt is
        takes kept (Ok outcome) both =
            ends_at Stands Between Owns Adds aim core log old new (fetching work) (fetching (record work { unfetched = drop (suc held.next) work.rows })) kept (Ok outcome) d.mid met.after (luck_by false met.fate) (Some (outcomes.Fetched next.row.number))
            (fetch_called (Some (outcomes.Fetched next.row.number)) (λ short. absurd (subst IsShort was short)))
            (fetch_did false met.answer met.did ∙ ap (λ a. or_short false (fetch_by a work next.row.number (drop (suc held.next) work.rows) met.after)) given.0)
            (subst (λ o. Answers (Ok o) (Some (outcomes.Fetched next.row.number))) (sym both.0) (ap outcomes.Fetched next_number))
            (subst (λ k. PlaceStands aim log met.after k (fetching (record work { unfetched = drop (suc held.next) work.rows }))) (sym both.1) (record work { unfetched = drop (suc held.next) work.rows }, refl, more_stands, more_is_work, record { some = for_aim.some; apart = for_aim.apart; one = for_aim.one; for_it = for_aim.for_it }))
            (λ n st e. cc)

    -- as the gate is asked
    module _ (d : FetchesOf said_row.number (grace_of work.config held.plan)) where
      asked : FetchesOf next.row.number (grace_in work)
      asked = subst (λ n. FetchesOf n (grace_in work)) (sym next_number) (subst (λ g. FetchesOf said_row.number g) next_grace d)

      pub fetch_fails : (kept : HeldPlace) (error : WorldError) (answered : Result Said AllocError) → result ≡ Err error → kept ≡ places.Idle → ((trouble : Trouble) → IsTrouble error trouble → Answers answered (trouble_outcome trouble)) → Steps answered kept
      fetch_fails = fails asked

      pub fetched_whole : (piece : Piece) → result ≡ Ok piece → piece.bytes ≡ file_of work.config next.documents
      fetched_whole piece was = is_whole asked piece was

      pub fetch_takes : (piece : Piece) → result ≡ Ok piece → (kept : HeldPlace) (answered : Result Said AllocError) → Ends (TellsJudged said_row held piece.bytes true) answered kept → Steps answered kept
      fetch_takes piece was = takes asked piece was
