-- A step of a worker, from what its call did.
use Rattle.std.proofs.Common.{◌≡◌, inl, inr, ℕ, List, [], refl, sym, ap, ◌∙◌, subst, true, false, Ok, Err, Result, Option, Some, None}
use Rattle.std.specs.Prelude.{⊤}
use Rattle.std.specs.declared.alloc.AllocError.{AllocError}
use Rattle.source_log.specs.Log.{Log}
use Rattle.meta_store.specs.History.{history}
use Rattle.index_world.specs.Calls.{Fate, calm_fate, Gives, Trouble, Unmade, gives, refused, troubled, upload_made}
use Rattle.index_world.specs.CallsMade.{Ask, CallMade, IsRecorded, IsShort, of_replace, of_upload}
use Rattle.index_world.specs.Core.{Core, IsOther, IsUnusedIn, IsUploadedIn, Nobody, journal_of}
use Rattle.index_world.specs.DirectLaws.{stays_as_is}
use Rattle.index_world.specs.Gate.{Does, IsRevision, IsTrouble, IsUnmade, Says, WasUploaded, replace_call}
use Rattle.index_world.specs.Index.{has_staged}
use Rattle.index_world.specs.Taking.{IsWant}
use Rattle.index_world.specs.World.{GoesFor, GoesOn}
use Rattle.index_world.proofs.InCore.{goes_both, goes_less}
use Rattle.index_world.specs.declared.tokens.Plan.{Plan}
use Rattle.index_world.specs.declared.tokens.Uploaded.{Uploaded}
use Rattle.index_world.specs.declared.world_error.WorldError.{WorldError}
use Rattle.index_world.specs.declared.world_error.WorldError.TheVariants as errors
use Rattle.upkeep_run.specs.Asking.{ask_of}
use Rattle.upkeep_run.specs.Outcomes as outcomes
use Rattle.upkeep_run.specs.Outcomes.{UpkeepOutcome}
use Rattle.upkeep_run.specs.Places.{WorkerHeld, IsStagedHeld, WorkerPlace, held_file, idle, number_held, staged, uploaded}
use Rattle.upkeep_run.specs.Standing.{Answers, PlaceStands, PlanHolds, StepsAs}
use Rattle.upkeep_run.specs.Steps.{WorkerLuck, lost_outcome, replace_by, replace_given, stage_outcome, step_worker, stepped, trouble_outcome, upload_by, upload_given}
use Rattle.upkeep_run.specs.declared.outcome.UpkeepOutcome.{UpkeepOutcome as Said}
use Rattle.upkeep_run.specs.declared.outcome.UpkeepOutcome.TheVariants as said
use Rattle.upkeep_run.specs.declared.work.Aim.{Aim}
use Rattle.upkeep_run.specs.declared.work.WorkerPlace.{WorkerPlace as HeldPlace}
use Rattle.upkeep_run.specs.declared.work.WorkerPlace.TheVariants as places
use Rattle.upkeep_run.proofs.Holding.{uploaded_is_held}
use Rattle.index_world.specs.Config.{reads}
use Rattle.meta_store.specs.State.{Legal}

-- a step that finds its memory behind its call, and one that does not
abbrev pub by_world : Fate → WorkerLuck
by_world fate = record { world = fate; short = false }

abbrev pub short_of : Fate → WorkerLuck
short_of fate = record { world = fate; short = true }

-- memory is wanting before the clock is asked
abbrev pub no_room : Fate
no_room = record calm_fate { unasked = true }

-- ---- why there is no outcome

pub trouble_none : (error : WorldError) (trouble : Trouble) → IsTrouble error trouble → IsWant error → trouble_outcome trouble ≡ None
trouble_none (errors.Memory e) trouble w short = ap trouble_outcome w
trouble_none (errors.Refused refusal) trouble w short = absurd short
trouble_none (errors.StoreFault before after) trouble w short = absurd short
trouble_none (errors.Missing key) trouble w short = absurd short
trouble_none (errors.Corrupt key) trouble w short = absurd short
trouble_none (errors.Foreign key) trouble w short = absurd short
trouble_none errors.Full trouble w short = absurd short
trouble_none (errors.Expired planned_at reached) trouble w short = absurd short
trouble_none errors.NoIndex trouble w short = absurd short
trouble_none errors.IndexExists trouble w short = absurd short
trouble_none (errors.BadConfig bad) trouble w short = absurd short

pub stage_none : (error : WorldError) (unmade : Unmade) → IsUnmade error unmade → IsWant error → stage_outcome unmade ≡ None
stage_none error (refused refusal) w short = absurd (subst IsWant w short)
stage_none error (troubled trouble) w short = trouble_none error trouble w short

pub lost_none : (number : ℕ) (error : WorldError) (unmade : Unmade) → IsUnmade error unmade → IsWant error → lost_outcome number unmade ≡ None
lost_none number error (refused refusal) w short = absurd (subst IsWant w short)
lost_none number error (troubled trouble) w short = trouble_none error trouble w short

-- ---- one call

-- what a step knows of its one call: others went on to `mid`, and the call from there
pub record Called {W : Type 0} (Stands : W → Core → Log → Type 0) (Between : Core → Core → Type 0) (Owns : W → ℕ → Type 0) (Adds : W → List CallMade → W → Type 0)
    (one : Option ℕ) (ask : Ask) (free : Type 0) (core : Core) (log : Log) (old new : W) (mid after : Core) : Type 0 where
  pub passed : Between core mid
  pub owned : (number : ℕ) → Owns old number → IsUnusedIn core number → IsUnusedIn mid number
  pub goes : GoesOn one mid after
  pub stands : Stands new after log
  pub made : List CallMade
  pub own : Adds old made new
  pub asked : IsRecorded ask mid after free made

recorded_where : (ask : Ask) (mid after : Core) (short free : Type 0) (made : List CallMade) → (short → free) → IsRecorded ask mid after short made → IsRecorded ask mid after free made
recorded_where ask mid after short free made f (inl once) = inl once
recorded_where ask mid after short free made f (inr none) = inr (none.0, none.1, f none.2)

module _ {W : Type 0} {Stands : W → Core → Log → Type 0} {Between : Core → Core → Type 0} {Owns : W → ℕ → Type 0} {Adds : W → List CallMade → W → Type 0} {one : Option ℕ} {ask : Ask} {core : Core} {log : Log} {old new : W} where
  pub called_of : {E A : Type 0} {call : Fate → Core → Gives E ⊤} {is : WorldError → E → Type 0} {holds : A → Core → Type 0} (result : Result A WorldError) (d : Does Stands Between Owns Adds one ask call is holds result core log old new)
      (number : Option ℕ) (question : Ask) (free : Type 0) → one ≡ number → ask ≡ question → (IsShort result → free) → Called Stands Between Owns Adds number question free core log old new d.mid d.acts.after
  called_of result d number question free same alike f =
      record {
        passed = d.passed;
        owned = d.owned;
        goes = subst (λ n. GoesOn n d.mid d.acts.after) same d.acts.goes_on;
        stands = d.acts.stands;
        made = d.made;
        own = d.own;
        asked = subst (λ q. IsRecorded q d.mid d.acts.after free d.made) alike (recorded_where ask d.mid d.acts.after (IsShort result) free d.made f d.once);
      }

  -- from the core before what others did
  pub called_goes : {free : Type 0} {mid after : Core} → Called Stands Between Owns Adds one ask free core log old new mid after → ((core mid : Core) → Between core mid → GoesFor Nobody core mid) → GoesFor Nobody core after
  called_goes {mid = mid} {after = after} c between = goes_both Nobody (IsOther one) Nobody core mid after (λ n no. absurd no) (between core mid c.passed) c.goes

-- no call
pub none_called : {W : Type 0} (Stands : W → Core → Log → Type 0) (Between : Core → Core → Type 0) (Owns : W → ℕ → Type 0) (Adds : W → List CallMade → W → Type 0) (one : Option ℕ) (ask : Ask) (free : Type 0) (core : Core) (log : Log) (old new : W) →
    Stands new core log → Between core core → Adds old [] new → free → Called Stands Between Owns Adds one ask free core log old new core core
none_called Stands Between Owns Adds one ask free core log old new stands passed none may =
    record { passed = passed; owned = λ n own u. u; goes = stays_as_is (IsOther one) core; stands = stands; made = []; own = none; asked = inr (refl, refl, may) }

module _ {W : Type 0} (Stands : W → Core → Log → Type 0) (Between : Core → Core → Type 0) (Owns : W → ℕ → Type 0) (Adds : W → List CallMade → W → Type 0) (aim : Aim) (core : Core) (log : Log) (old new : W) where
  abbrev Steps : Result Said AllocError → WorkerPlace → HeldPlace → Type 0
  Steps result place kept = StepsAs Stands Between Owns Adds aim result place core log kept old new

  -- a step behind which it is idle
  pub ends_idle : (place : WorkerPlace) (kept : HeldPlace) (result : Result Said AllocError) (mid after : Core) (luck : WorkerLuck) (outcome : Option UpkeepOutcome) →
      Called Stands Between Owns Adds (number_held place) (ask_of aim place mid) (outcome ≡ None) core log old new mid after →
      step_worker aim luck log place mid ≡ stepped outcome idle after → Answers result outcome → kept ≡ places.Idle → Steps result place kept
  ends_idle place kept result mid after luck outcome called did answer is =
      record {
        mid = mid;
        passed = called.passed;
        owned = called.owned;
        luck = luck;
        outcome = outcome;
        after = idle;
        behind = after;
        did = did;
        answer = answer;
        stands = subst (λ k. PlaceStands aim log after k idle) (sym is) refl;
        gate = called.stands;
        goes_on = called.goes;
        made = called.made;
        own = called.own;
        asked = called.asked;
        apart = λ n h e. cc;
      }

  -- a step behind which it holds something, of a number that it held or that is new
  pub ends_at : (place next : WorkerPlace) (kept : HeldPlace) (result : Result Said AllocError) (mid after : Core) (luck : WorkerLuck) (outcome : Option UpkeepOutcome) →
      Called Stands Between Owns Adds (number_held place) (ask_of aim place mid) (outcome ≡ None) core log old new mid after →
      step_worker aim luck log place mid ≡ stepped outcome next after → Answers result outcome → PlaceStands aim log after kept next →
      ((n : ℕ) → has_staged (journal_of core) n ≡ true → number_held next ≡ Some n → number_held place ≡ Some n) → Steps result place kept
  ends_at place next kept result mid after luck outcome called did answer stands apart =
      record {
        mid = mid;
        passed = called.passed;
        owned = called.owned;
        luck = luck;
        outcome = outcome;
        after = next;
        behind = after;
        did = did;
        answer = answer;
        stands = stands;
        gate = called.stands;
        goes_on = called.goes;
        made = called.made;
        own = called.own;
        asked = called.asked;
        apart = apart;
      }

  -- ---- a Replace

  module _ (held : WorkerHeld) (number : ℕ) (olds : List ℕ) (upto : ℕ) (same : number ≡ held.number) (rows : olds ≡ held.old) (last : upto ≡ held.upto) where
    abbrev Replaces : Result ℕ WorldError → Type 0
    Replaces result = Does Stands Between Owns Adds None (of_replace number olds upto) (replace_call number olds upto) IsUnmade IsRevision result core log old new

    replace_did : (fate : Fate) (mid after : Core) (a : Result ⊤ Unmade) → replace_call number olds upto fate mid ≡ gives a after →
        step_worker aim (by_world fate) log (uploaded held) mid ≡ replace_by a held.number after
    replace_did fate mid after a did =
        ap (λ n. replace_given held.number (replace_call n held.old held.upto fate mid)) (sym same)
        ∙ ap (λ ns. replace_given held.number (replace_call number ns held.upto fate mid)) (sym rows)
        ∙ ap (λ u. replace_given held.number (replace_call number olds u fate mid)) (sym last)
        ∙ ap (replace_given held.number) did

    asks_replace : of_replace number olds upto ≡ of_replace held.number held.old held.upto
    asks_replace = ap (λ n. of_replace n olds upto) same ∙ ap (λ ns. of_replace held.number ns upto) rows ∙ ap (of_replace held.number held.old) last

    -- the number was held, and other calls are of none
    replace_called : (outcome : Option UpkeepOutcome) (result : Result ℕ WorldError) (d : Replaces result) → (IsShort result → outcome ≡ None) → Called Stands Between Owns Adds (Some held.number) (of_replace held.number held.old held.upto) (outcome ≡ None) core log old new d.mid d.acts.after
    replace_called outcome result d f =
        let c = called_of result d None (of_replace held.number held.old held.upto) (outcome ≡ None) refl asks_replace f in
        record {
          passed = c.passed;
          owned = c.owned;
          goes = goes_less (IsOther None) (IsOther (Some held.number)) d.mid d.acts.after (λ n other. tt) c.goes;
          stands = c.stands;
          made = c.made;
          own = c.own;
          asked = c.asked;
        }

    pub replaces : (revision : ℕ) → Replaces (Ok revision) → Steps (Ok (said.Replaced number)) (uploaded held) places.Idle
    replaces revision d = by d.acts.answer d.acts.did d.acts.says
      where
        by : (a : Result ⊤ Unmade) → replace_call number olds upto d.acts.fate d.mid ≡ gives a d.acts.after → Says IsUnmade IsRevision (Ok revision) a d.acts.after → Steps (Ok (said.Replaced number)) (uploaded held) places.Idle
        by (Ok done) did w =
            ends_idle (uploaded held) places.Idle (Ok (said.Replaced number)) d.mid d.acts.after (by_world d.acts.fate) (Some (outcomes.Replaced held.number))
            (replace_called (Some (outcomes.Replaced held.number)) (Ok revision) d (λ short. absurd short)) (replace_did d.acts.fate d.mid d.acts.after (Ok done) did) (ap outcomes.Replaced (sym same)) refl
        by (Err e) did w = absurd w

    pub replace_fails : (error : WorldError) (answered : Result Said AllocError) → ((unmade : Unmade) → IsUnmade error unmade → Answers answered (lost_outcome number unmade)) → Replaces (Err error) → Steps answered (uploaded held) places.Idle
    replace_fails error answered answers d = by d.acts.answer d.acts.did d.acts.says
      where
        by : (a : Result ⊤ Unmade) → replace_call number olds upto d.acts.fate d.mid ≡ gives a d.acts.after → Says IsUnmade IsRevision (Err error) a d.acts.after → Steps answered (uploaded held) places.Idle
        by (Ok done) did w = absurd w
        by (Err e) did w =
            ends_idle (uploaded held) places.Idle answered d.mid d.acts.after (by_world d.acts.fate) (lost_outcome held.number e)
            (replace_called (lost_outcome held.number e) (Err error) d (lost_none held.number error e w)) (replace_did d.acts.fate d.mid d.acts.after (Err e) did)
            (subst (λ n. Answers answered (lost_outcome n e)) same (answers e w)) refl

  -- ---- an upload

  module _ (held : WorkerHeld) (number : ℕ) (bytes : List ℕ) (same : number ≡ held.number) (file : bytes ≡ held_file held) where
    abbrev Uploads : Result Uploaded WorldError → Type 0
    Uploads result = Does Stands Between Owns Adds (Some number) (of_upload number bytes) (λ fate c. upload_made fate number bytes c) IsTrouble (WasUploaded number bytes) result core log old new

    upload_did : (fate : Fate) (mid after : Core) (a : Result ⊤ Trouble) → upload_made fate number bytes mid ≡ gives a after → step_worker aim (by_world fate) log (staged held) mid ≡ upload_by a held after
    upload_did fate mid after a did =
        ap (λ n. upload_given held (upload_made fate n (held_file held) mid)) (sym same) ∙ ap (λ bs. upload_given held (upload_made fate number bs mid)) (sym file) ∙ ap (upload_given held) did

    upload_called : (outcome : Option UpkeepOutcome) (result : Result Uploaded WorldError) (d : Uploads result) → (IsShort result → outcome ≡ None) → Called Stands Between Owns Adds (Some held.number) (of_upload held.number (held_file held)) (outcome ≡ None) core log old new d.mid d.acts.after
    upload_called outcome result d f =
        called_of result d (Some held.number) (of_upload held.number (held_file held)) (outcome ≡ None) (ap Some same) (ap (λ n. of_upload n bytes) same ∙ ap (of_upload held.number) file) f

    pub uploads : (plan : Plan) (token : Uploaded) → ((core mid : Core) → Between core mid → GoesFor Nobody core mid) → ((after : Core) → Stands new after log → Legal reads (history after.history)) → PlanHolds aim plan held → IsStagedHeld log core held → Uploads (Ok token) →
        Steps (Ok (said.Uploaded number)) (staged held) (places.Uploaded plan token)
    uploads plan token between legal holds h d = by d.acts.answer d.acts.did d.acts.says
      where
        by : (a : Result ⊤ Trouble) → upload_made d.acts.fate number bytes d.mid ≡ gives a d.acts.after → Says IsTrouble (WasUploaded number bytes) (Ok token) a d.acts.after → Steps (Ok (said.Uploaded number)) (staged held) (places.Uploaded plan token)
        by (Ok done) did w =
            let called = upload_called (Some (outcomes.Uploaded held.number)) (Ok token) d (λ short. absurd short) in
            ends_at (staged held) (uploaded held) (places.Uploaded plan token) (Ok (said.Uploaded number)) d.mid d.acts.after (by_world d.acts.fate) (Some (outcomes.Uploaded held.number)) called
            (upload_did d.acts.fate d.mid d.acts.after (Ok done) did) (ap outcomes.Uploaded (sym same)) (
              held,
              refl,
              holds,
              w.same ∙ same,
              uploaded_is_held core d.acts.after log (called_goes called between) (legal d.acts.after d.acts.stands) held h
                  (subst (λ n. IsUploadedIn d.acts.after n (held_file held)) same (subst (λ bs. IsUploadedIn d.acts.after number bs) file w.in_hand)),
            )
            (λ n st e. e)
        by (Err e) did w = absurd w

    pub upload_fails : (kept : HeldPlace) (error : WorldError) (answered : Result Said AllocError) → kept ≡ places.Idle → ((trouble : Trouble) → IsTrouble error trouble → Answers answered (trouble_outcome trouble)) → Uploads (Err error) → Steps answered (staged held) kept
    upload_fails kept error answered is answers d = by d.acts.answer d.acts.did d.acts.says
      where
        by : (a : Result ⊤ Trouble) → upload_made d.acts.fate number bytes d.mid ≡ gives a d.acts.after → Says IsTrouble (WasUploaded number bytes) (Err error) a d.acts.after → Steps answered (staged held) kept
        by (Ok done) did w = absurd w
        by (Err e) did w =
            ends_idle (staged held) kept answered d.mid d.acts.after (by_world d.acts.fate) (trouble_outcome e) (upload_called (trouble_outcome e) (Err error) d (trouble_none error e w))
            (upload_did d.acts.fate d.mid d.acts.after (Err e) did) (answers e w) is
