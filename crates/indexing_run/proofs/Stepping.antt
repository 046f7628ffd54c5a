-- A step of an indexer, from what its calls did.
use Rattle.std.proofs.Common.{◌≡◌, inl, inr, ℕ, ◌-◌, ◌<◌, ◌≤◌, ◌==◌, min, List, [], refl, sym, ap, ◌∙◌, subst, Bool, true, false, not, length, arith, Ok, Err, Result, Option, Some, None}
use Rattle.std.specs.Prelude.{⊤, if◌then◌else◌}
use Rattle.std.proofs.lemmas.Bool.{eqb-true}
use Rattle.std.specs.declared.alloc.AllocError.{AllocError}
use Rattle.std.specs.Result.{IsErr}
use Rattle.source_checkpoint.specs.declared.delta.Part.{Part}
use Rattle.source_log.specs.Log.{Log}
use Rattle.split_states.specs.declared.facts.RowFacts.{RowFacts}
use Rattle.meta_store.specs.History.{history, last_number}
use Rattle.index_world.specs.Calls.{Fate, calm_fate, Trouble, Unmade, refused, troubled, Gives, gives, upload_made}
use Rattle.index_world.specs.CallsMade.{Ask, of_moment, of_stage, of_upload, of_publish, CallMade, IsRecorded, IsShort}
use Rattle.index_world.specs.Core.{Core, IsConfigured, IsUnusedIn, IsUploadedIn, IsOther, Nobody}
use Rattle.index_world.specs.DirectLaws.{stays_as_is}
use Rattle.index_world.specs.Gate.{Does, Says, IsTrouble, IsUnmade, WasStaged, WasUploaded, IsStagedIn, IsRevision, stage_call, publish_call}
use Rattle.split_bundle.specs.declared.placed.Placed.{Placed}
use Rattle.index_world.specs.SplitFile.{file_of, facts_of, most, max_documents, AreSplit}
use Rattle.index_config.specs.declared.config.IndexConfig.{IndexConfig}
use Rattle.split_build.specs.Builders.{IsBuilt}
use Rattle.split_build.specs.declared.builder.BuiltSplit.{BuiltSplit}
use Rattle.split_bundle.specs.Splits.{IsSplit}
use Rattle.split_form.specs.Facts.{facts_of as form_facts}
use Rattle.split_form.specs.Form as form
use Rattle.index_world.specs.Taking.{IsWant}
use Rattle.index_world.specs.World.{GoesFor, GoesOn}
use Rattle.index_world.proofs.InCore.{goes_both, goes_less}
use Rattle.index_world.specs.declared.tokens.Staged.{Staged}
use Rattle.index_world.specs.declared.tokens.Uploaded.{Uploaded}
use Rattle.index_world.specs.declared.world_error.WorldError.{WorldError}
use Rattle.index_world.specs.declared.world_error.WorldError.TheVariants as errors
use Rattle.indexing_run.specs.Asking.{ask_of, IsCallFree}
use Rattle.indexing_run.specs.declared.indexer.Indexer.{Indexer as Reader}
use Rattle.indexing_run.specs.declared.indexer.IndexerPlace.{IndexerPlace as HeldPlace}
use Rattle.indexing_run.specs.declared.indexer.IndexerPlace.TheVariants as places
use Rattle.indexing_run.specs.declared.outcome.IndexerOutcome.{IndexerOutcome as Said}
use Rattle.indexing_run.specs.declared.outcome.IndexerOutcome.TheVariants as said
use Rattle.indexing_run.specs.Making.{IsBatch}
use Rattle.indexing_run.specs.Outcomes as outcomes
use Rattle.indexing_run.specs.Outcomes.{IndexerOutcome}
use Rattle.indexing_run.specs.Places.{Batch, IndexerHeld, IndexerPlace, idle, reading, staged, uploaded, Indexer, IsStagedHeld, number_held}
use Rattle.indexing_run.specs.Standing.{Answers, PlaceStands, IndexerStands, StepsAs}
use Rattle.indexing_run.specs.Steps.{LogCall, IndexerLuck, stepped, trouble_outcome, publish_given, publish_outcome, publish_by, upload_given, upload_by, stage_given, stage_by, stage_outcome, step_stage, step_read, step_indexer, held_of, batch_facts}
use Rattle.indexing_run.proofs.Holding.{staged_is_held, uploaded_is_held}

abbrev pub quiet_log : LogCall
quiet_log = record { fails = false; rises = 0; short = false }

-- a step that calls no log and finds its memory
abbrev pub by_world : Fate → IndexerLuck
by_world fate = record { log = quiet_log; world = fate; short = false }

-- ---- a call, or none

-- what a step knows of its one call of the gate, or that it made none: others went on to `mid`, and the call from there
pub record Called {W : Type 0} (Stands : W → Core → Log → Type 0) (Between : Core → Core → Type 0) (Owns : W → ℕ → Type 0) (Adds : W → List CallMade → W → Type 0)
    (one : Option ℕ) (ask : Ask) (free : Type 0) (core : Core) (log : Log) (old new : W) (mid after : Core) : Type 0 where
  pub passed : Between core mid
  pub owned : (number : ℕ) → Owns old number → IsUnusedIn core number → IsUnusedIn mid number
  pub goes : GoesOn one mid after
  pub stands : Stands new after log
  pub made : List CallMade
  pub own : Adds old made new
  pub asked : IsRecorded ask mid after free made

recorded_where : (ask : Ask) (mid after : Core) (short free : Type 0) (made : List CallMade) → (short → free) → IsRecorded ask mid after short made → IsRecorded ask mid after free made
recorded_where ask mid after short free made f (inl once) = inl once
recorded_where ask mid after short free made f (inr none) = inr (none.0, none.1, f none.2)

module _ {W : Type 0} {Stands : W → Core → Log → Type 0} {Between : Core → Core → Type 0} {Owns : W → ℕ → Type 0} {Adds : W → List CallMade → W → Type 0} {one : Option ℕ} {ask : Ask} {core : Core} {log : Log} {old new : W} where
  pub called_of : {E A : Type 0} {call : Fate → Core → Gives E ⊤} {is : WorldError → E → Type 0} {holds : A → Core → Type 0} (result : Result A WorldError) (d : Does Stands Between Owns Adds one ask call is holds result core log old new)
      (free : Type 0) → (IsShort result → free) → Called Stands Between Owns Adds one ask free core log old new d.mid d.acts.after
  called_of result d free f =
      record {
        passed = d.passed;
        owned = d.owned;
        goes = d.acts.goes_on;
        stands = d.acts.stands;
        made = d.made;
        own = d.own;
        asked = recorded_where ask d.mid d.acts.after (IsShort result) free d.made f d.once;
      }

  module _ {free : Type 0} {mid after : Core} (c : Called Stands Between Owns Adds one ask free core log old new mid after) where
    -- as something else
    pub called_as : (number : Option ℕ) (question : Ask) (leave : Type 0) → ((n : ℕ) → IsOther number n → IsOther one n) → ask ≡ question → (free → leave) → Called Stands Between Owns Adds number question leave core log old new mid after
    called_as number question leave less same f =
        record {
          passed = c.passed;
          owned = c.owned;
          goes = goes_less (IsOther one) (IsOther number) mid after less c.goes;
          stands = c.stands;
          made = c.made;
          own = c.own;
          asked = subst (λ q. IsRecorded q mid after leave c.made) same (recorded_where ask mid after free leave c.made f c.asked);
        }

    -- from the core before what others did
    pub called_goes : ((core mid : Core) → Between core mid → GoesFor Nobody core mid) → GoesFor Nobody core after
    called_goes between = goes_both Nobody (IsOther one) Nobody core mid after (λ n no. absurd no) (between core mid c.passed) c.goes

    pub called_configured : ((core mid : Core) → Between core mid → GoesFor Nobody core mid) → (config : IndexConfig) → IsConfigured config core → IsConfigured config after
    called_configured between config k = (called_goes between).keeps.configured config k

-- no call
pub none_called : {W : Type 0} (Stands : W → Core → Log → Type 0) (Between : Core → Core → Type 0) (Owns : W → ℕ → Type 0) (Adds : W → List CallMade → W → Type 0) (one : Option ℕ) (ask : Ask) (free : Type 0) (core : Core) (log : Log) (old new : W) →
    Stands new core log → Between core core → Adds old [] new → free → Called Stands Between Owns Adds one ask free core log old new core core
none_called Stands Between Owns Adds one ask free core log old new stands passed none may =
    record {
      passed = passed;
      owned = λ n own u. u;
      goes = stays_as_is (IsOther one) core;
      stands = stands;
      made = [];
      own = none;
      asked = inr (refl, refl, may);
    }

-- a call that found no memory leaves its step without an outcome
pub trouble_free : (place : IndexerPlace) (error : WorldError) (trouble : Trouble) → IsTrouble error trouble → IsWant error → IsCallFree place (trouble_outcome trouble)
trouble_free place (errors.Memory e) trouble w short = subst (λ t. IsCallFree place (trouble_outcome t)) (sym w) tt
trouble_free place (errors.Refused refusal) trouble w short = absurd short
trouble_free place (errors.StoreFault before after) trouble w short = absurd short
trouble_free place (errors.Missing key) trouble w short = absurd short
trouble_free place (errors.Corrupt key) trouble w short = absurd short
trouble_free place (errors.Foreign key) trouble w short = absurd short
trouble_free place errors.Full trouble w short = absurd short
trouble_free place (errors.Expired planned_at reached) trouble w short = absurd short
trouble_free place errors.NoIndex trouble w short = absurd short
trouble_free place errors.IndexExists trouble w short = absurd short
trouble_free place (errors.BadConfig bad) trouble w short = absurd short

stage_free : (place : IndexerPlace) (error : WorldError) (unmade : Unmade) → IsUnmade error unmade → IsWant error → IsCallFree place (stage_outcome unmade)
stage_free place error (refused refusal) w short = absurd (subst IsWant w short)
stage_free place error (troubled trouble) w short = trouble_free place error trouble w short

publish_free : (place : IndexerPlace) (number : ℕ) (error : WorldError) (unmade : Unmade) → IsUnmade error unmade → IsWant error → IsCallFree place (publish_outcome number unmade)
publish_free place number error (refused refusal) w short = absurd (subst IsWant w short)
publish_free place number error (troubled trouble) w short = trouble_free place error trouble w short

published_free : (place : IndexerPlace) (held : IndexerHeld) (indexer : Indexer) (result : Result ℕ WorldError) (a : Result ⊤ Unmade) (after : Core) → Says IsUnmade IsRevision result a after → IsShort result → IsCallFree place (publish_by a held indexer after).outcome
published_free place held indexer (Ok revision) a after w short = absurd short
published_free place held indexer (Err error) (Ok done) after w short = absurd w
published_free place held indexer (Err error) (Err unmade) after w short = publish_free place held.number error unmade w short

-- an idle place is no other (apart, since a search beside all that a place says takes long)
idle_reads_none : (batch : Batch) → idle ≡ reading batch → ⊥
idle_reads_none batch e = cc e

idle_stages_none : (held : IndexerHeld) → idle ≡ staged held → ⊥
idle_stages_none held e = cc e

idle_uploads_none : (held : IndexerHeld) → idle ≡ uploaded held → ⊥
idle_uploads_none held e = cc e

pub idle_stays : (log : Log) (core after : Core) (kept : HeldPlace) → PlaceStands log core kept idle → PlaceStands log after kept idle
idle_stays log core after places.Idle s = s
idle_stays log core after (places.Reading batch) s = absurd (idle_reads_none s.0 s.1)
idle_stays log core after (places.Staged token bytes) s = absurd (idle_stages_none s.0 s.1)
idle_stays log core after (places.Uploaded token) s = absurd (idle_uploads_none s.0 s.1)

module _ {L W : Type 0} (tells : L → Option Log) (count : L → ℕ) (Stands : W → Core → Log → Type 0) (Between : Core → Core → Type 0) (Owns : W → ℕ → Type 0) (Adds : W → List CallMade → W → Type 0) (indexer : Indexer) (core : Core) (log : Log)
    (reader : Reader L) (old new : W) (s : IndexerStands tells count reader (record indexer { place = idle }) core log) where
  -- the reader holds nothing, over each core
  idle_over : (after : Core) → IndexerStands tells count reader (record indexer { place = idle }) after log
  idle_over after =
      record { told = s.told; log_faults = s.log_faults; assignment = s.assignment; assigned = s.assigned; place = idle_stays log core after reader.place s.place }

  -- a step behind which it is idle
  pub ends_idle : (place : IndexerPlace) (result : Result Said AllocError) (mid after : Core) (luck : IndexerLuck) (outcome : Option IndexerOutcome) →
      Called Stands Between Owns Adds (number_held place) (ask_of place) (IsCallFree place outcome) core log old new mid after →
      step_indexer luck log (record indexer { place = place }) mid ≡ record { outcome = outcome; indexer = record indexer { place = idle }; core = after } → Answers result outcome →
      StepsAs tells count Stands Between Owns Adds result (record indexer { place = place }) core log reader old new
  ends_idle place result mid after luck outcome called did answer =
      record {
        mid = mid;
        passed = called.passed;
        owned = called.owned;
        luck = luck;
        outcome = outcome;
        after = record indexer { place = idle };
        behind = after;
        did = did;
        answer = answer;
        stands = idle_over after;
        gate = called.stands;
        goes_on = called.goes;
        made = called.made;
        own = called.own;
        asked = called.asked;
        apart = λ n h e. cc;
      }

  -- it holds this from now on
  holds_on : (after : Core) (kept : HeldPlace) (place : IndexerPlace) → PlaceStands log after kept place → IndexerStands tells count (record reader { place = kept }) (record indexer { place = place }) after log
  holds_on after kept place h =
      record { told = s.told; log_faults = s.log_faults; assignment = s.assignment; assigned = s.assigned; place = h }

  -- ---- a Publish

  pub publishes : (held : IndexerHeld) (number : ℕ) (result : Result ℕ WorldError) (answered : Result Said AllocError) → number ≡ held.number →
      Does Stands Between Owns Adds None (of_publish number) (publish_call number) IsUnmade IsRevision result core log old new →
      ((a : Result ⊤ Unmade) (after : Core) → Says IsUnmade IsRevision result a after → Answers answered (publish_by a held indexer after).outcome) →
      StepsAs tells count Stands Between Owns Adds answered (record indexer { place = uploaded held }) core log reader old new
  publishes held number result answered same d answers = by d.acts.answer d.acts.did d.acts.says
    where
      did_as : (a : Result ⊤ Unmade) → publish_call number d.acts.fate d.mid ≡ gives a d.acts.after →
          step_indexer (by_world d.acts.fate) log (record indexer { place = uploaded held }) d.mid ≡ publish_by a held (record indexer { place = uploaded held }) d.acts.after
      did_as a did =
          ap (λ n. publish_given held (record indexer { place = uploaded held }) (publish_call n d.acts.fate d.mid)) (sym same)
          ∙ ap (publish_given held (record indexer { place = uploaded held })) did

      called : (a : Result ⊤ Unmade) → Says IsUnmade IsRevision result a d.acts.after →
          Called Stands Between Owns Adds (number_held (uploaded held)) (ask_of (uploaded held)) (IsCallFree (uploaded held) (publish_by a held (record indexer { place = uploaded held }) d.acts.after).outcome) core log old new d.mid d.acts.after
      called a w =
          let free = IsCallFree (uploaded held) (publish_by a held (record indexer { place = uploaded held }) d.acts.after).outcome in
          called_as (called_of result d free (published_free (uploaded held) held (record indexer { place = uploaded held }) result a d.acts.after w)) (Some held.number) (of_publish held.number) free (λ n other. tt) (ap of_publish same) (λ f. f)

      by : (a : Result ⊤ Unmade) → publish_call number d.acts.fate d.mid ≡ gives a d.acts.after → Says IsUnmade IsRevision result a d.acts.after →
          StepsAs tells count Stands Between Owns Adds answered (record indexer { place = uploaded held }) core log reader old new
      by (Ok done) did w =
          ends_idle (uploaded held) answered d.mid d.acts.after (by_world d.acts.fate) (Some (outcomes.Published held.number)) (called (Ok done) w) (did_as (Ok done) did) (answers (Ok done) d.acts.after w)
      by (Err unmade) did w =
          ends_idle (uploaded held) answered d.mid d.acts.after (by_world d.acts.fate) (publish_outcome held.number unmade) (called (Err unmade) w) (did_as (Err unmade) did) (answers (Err unmade) d.acts.after w)

  -- ---- an upload

  module _ (held : IndexerHeld) (number : ℕ) (bytes : List ℕ) (same : number ≡ held.number) (file : bytes ≡ file_of held.config held.documents) where
    upload_did : (fate : Fate) (mid after : Core) (a : Result ⊤ Trouble) → upload_made fate number bytes mid ≡ gives a after →
        step_indexer (by_world fate) log (record indexer { place = staged held }) mid ≡ upload_by a held (record indexer { place = staged held }) after
    upload_did fate mid after a did =
        ap (λ n. upload_given held (record indexer { place = staged held }) (upload_made fate n (file_of held.config held.documents) mid)) (sym same)
        ∙ ap (λ bs. upload_given held (record indexer { place = staged held }) (upload_made fate number bs mid)) (sym file)
        ∙ ap (upload_given held (record indexer { place = staged held })) did

    upload_called : (result : Result Uploaded WorldError) (d : Does Stands Between Owns Adds (Some number) (of_upload number bytes) (λ fate c. upload_made fate number bytes c) IsTrouble (WasUploaded number bytes) result core log old new)
        (free : Type 0) → (IsShort result → free) → Called Stands Between Owns Adds (number_held (staged held)) (ask_of (staged held)) free core log old new d.mid d.acts.after
    upload_called result d free f =
        called_as (called_of result d free f) (Some held.number) (of_upload held.number (file_of held.config held.documents)) free (subst (λ m. (n : ℕ) → (n ≡ held.number → ⊥) → n ≡ m → ⊥) (sym same) (λ n other. other))
        (ap (λ m. of_upload m bytes) same ∙ ap (of_upload held.number) file) (λ g. g)

    pub uploads : (token : Uploaded) → ((core mid : Core) → Between core mid → GoesFor Nobody core mid) → IsStagedHeld log core held →
        Does Stands Between Owns Adds (Some number) (of_upload number bytes) (λ fate c. upload_made fate number bytes c) IsTrouble (WasUploaded number bytes) (Ok token) core log old new →
        StepsAs tells count Stands Between Owns Adds (Ok (said.Uploaded number)) (record indexer { place = staged held }) core log (record reader { place = places.Uploaded token }) old new
    uploads token between h d = by d.acts.answer d.acts.did d.acts.says
      where
        by : (a : Result ⊤ Trouble) → upload_made d.acts.fate number bytes d.mid ≡ gives a d.acts.after → Says IsTrouble (WasUploaded number bytes) (Ok token) a d.acts.after →
            StepsAs tells count Stands Between Owns Adds (Ok (said.Uploaded number)) (record indexer { place = staged held }) core log (record reader { place = places.Uploaded token }) old new
        by (Ok done) did w =
            let called = upload_called (Ok token) d ⊥ (λ short. short) in
            record {
              mid = d.mid;
              passed = called.passed;
              owned = called.owned;
              luck = by_world d.acts.fate;
              outcome = Some (outcomes.Uploaded held.number);
              after = record indexer { place = uploaded held };
              behind = d.acts.after;
              did = upload_did d.acts.fate d.mid d.acts.after (Ok done) did;
              answer = ap outcomes.Uploaded (sym same);
              stands = holds_on d.acts.after (places.Uploaded token) (uploaded held) (
                held,
                refl,
                w.same ∙ same,
                uploaded_is_held log core d.acts.after held Nobody (called_goes called between).keeps h
                    (subst (λ n. IsUploadedIn d.acts.after n (file_of held.config held.documents)) same (subst (λ bs. IsUploadedIn d.acts.after number bs) file w.in_hand)),
              );
              gate = called.stands;
              goes_on = called.goes;
              made = called.made;
              own = called.own;
              asked = called.asked;
              apart = λ n st e. e;
            }
        by (Err e) did w = absurd w

    pub upload_fails : (error : WorldError) (answered : Result Said AllocError) → ((trouble : Trouble) → IsTrouble error trouble → Answers answered (trouble_outcome trouble)) →
        Does Stands Between Owns Adds (Some number) (of_upload number bytes) (λ fate c. upload_made fate number bytes c) IsTrouble (WasUploaded number bytes) (Err error) core log old new →
        StepsAs tells count Stands Between Owns Adds answered (record indexer { place = staged held }) core log reader old new
    upload_fails error answered answers d = by d.acts.answer d.acts.did d.acts.says
      where
        by : (a : Result ⊤ Trouble) → upload_made d.acts.fate number bytes d.mid ≡ gives a d.acts.after → Says IsTrouble (WasUploaded number bytes) (Err error) a d.acts.after →
            StepsAs tells count Stands Between Owns Adds answered (record indexer { place = staged held }) core log reader old new
        by (Ok done) did w = absurd w
        by (Err e) did w =
            ends_idle (staged held) answered d.mid d.acts.after (by_world d.acts.fate) (trouble_outcome e) (upload_called (Err error) d (IsCallFree (staged held) (trouble_outcome e)) (trouble_free (staged held) error e w))
            (upload_did d.acts.fate d.mid d.acts.after (Err e) did) (answers e w)

  -- ---- a closed batch

  module _ (batch : Batch) (closed : batch.closed ≡ true) where
    -- one without a record
    pub ends_empty : (batch.count == 0) ≡ true → Stands new core log → Between core core → Adds old [] new →
        StepsAs tells count Stands Between Owns Adds (Ok said.CaughtUp) (record indexer { place = reading batch }) core log reader old new
    ends_empty none stands passed own =
        ends_idle (reading batch) (Ok said.CaughtUp) core core (by_world calm_fate) (Some outcomes.CaughtUp)
        (none_called Stands Between Owns Adds None (ask_of (reading batch)) (batch.count ≡ 0) core log old new stands passed own (eqb-true batch.count 0 none)) did refl
      where
        did : step_indexer (by_world calm_fate) log (record indexer { place = reading batch }) core ≡ record { outcome = Some outcomes.CaughtUp; indexer = record indexer { place = idle }; core = core }
        did =
            ap (λ b. if b then (if batch.count == 0 then stepped (Some outcomes.CaughtUp) idle (record indexer { place = reading batch }) core else step_stage (by_world calm_fate) batch (record indexer { place = reading batch }) core) else step_read (by_world calm_fate) log batch batch.queue (record indexer { place = reading batch }) core) closed
            ∙ ap (λ b. if b then stepped (Some outcomes.CaughtUp) idle (record indexer { place = reading batch }) core else step_stage (by_world calm_fate) batch (record indexer { place = reading batch }) core) none

    module _ (some : (batch.count == 0) ≡ false) where
      stage_step : (fate : Fate) (mid : Core) → step_indexer (by_world fate) log (record indexer { place = reading batch }) mid
          ≡ stage_given batch (record indexer { place = reading batch }) (stage_call batch.parts (batch_facts batch) fate mid)
      stage_step fate mid =
          ap (λ b. if b then (if batch.count == 0 then stepped (Some outcomes.CaughtUp) idle (record indexer { place = reading batch }) mid else step_stage (by_world fate) batch (record indexer { place = reading batch }) mid)
          else step_read (by_world fate) log batch batch.queue (record indexer { place = reading batch }) mid) closed
          ∙ ap (λ b. if b then stepped (Some outcomes.CaughtUp) idle (record indexer { place = reading batch }) mid else step_stage (by_world fate) batch (record indexer { place = reading batch }) mid) some

      -- there is no memory for its file
      pub stage_short : (result : Result Said AllocError) → Answers result None → Stands new core log → Between core core → Adds old [] new →
          StepsAs tells count Stands Between Owns Adds result (record indexer { place = reading batch }) core log reader old new
      stage_short result answer stands passed own =
          ends_idle (reading batch) result core core (by_world (record calm_fate { unasked = true })) None
          (none_called Stands Between Owns Adds None (ask_of (reading batch)) ⊤ core log old new stands passed own tt) (stage_step (record calm_fate { unasked = true }) core) answer

      module _ (delta : List Part) (facts : RowFacts) (parts : delta ≡ batch.parts) (noted : facts ≡ batch_facts batch) where
        stage_did : (fate : Fate) (mid after : Core) (a : Result ⊤ Unmade) → stage_call delta facts fate mid ≡ gives a after →
            step_indexer (by_world fate) log (record indexer { place = reading batch }) mid ≡ stage_by a batch (record indexer { place = reading batch }) after
        stage_did fate mid after a did =
            stage_step fate mid
            ∙ ap (λ d. stage_given batch (record indexer { place = reading batch }) (stage_call d (batch_facts batch) fate mid)) (sym parts)
            ∙ ap (λ f. stage_given batch (record indexer { place = reading batch }) (stage_call delta f fate mid)) (sym noted)
            ∙ ap (stage_given batch (record indexer { place = reading batch })) did

        stage_called : (result : Result Staged WorldError) (d : Does Stands Between Owns Adds None (of_stage delta facts) (stage_call delta facts) IsUnmade (WasStaged core delta facts) result core log old new)
            (free : Type 0) → (IsShort result → free) → Called Stands Between Owns Adds None (ask_of (reading batch)) free core log old new d.mid d.acts.after
        stage_called result d free f =
            called_as (called_of result d free f) None (ask_of (reading batch)) free (λ n other. other)
            (ap (λ p. of_stage p facts) parts ∙ ap (of_stage batch.parts) noted ∙ ap (λ b. if b then of_stage batch.parts (batch_facts batch) else of_moment) (sym closed)) (λ g. g)

        pub stages : (token : Staged) (bytes : List ℕ) → ((core mid : Core) → Between core mid → GoesFor Nobody core mid) → bytes ≡ file_of batch.config batch.documents → IsBatch log batch → AreSplit batch.config batch.documents → IsConfigured batch.config core →
            Does Stands Between Owns Adds None (of_stage delta facts) (stage_call delta facts) IsUnmade (WasStaged core delta facts) (Ok token) core log old new →
            StepsAs tells count Stands Between Owns Adds (Ok (said.Staged token.number)) (record indexer { place = reading batch }) core log (record reader { place = places.Staged token bytes }) old new
        stages token bytes between file made are k d = by d.acts.answer d.acts.did d.acts.says
          where
            by : (a : Result ⊤ Unmade) → stage_call delta facts d.acts.fate d.mid ≡ gives a d.acts.after → Says IsUnmade (WasStaged core delta facts) (Ok token) a d.acts.after →
                StepsAs tells count Stands Between Owns Adds (Ok (said.Staged token.number)) (record indexer { place = reading batch }) core log (record reader { place = places.Staged token bytes }) old new
            by (Ok done) did w =
                let called = stage_called (Ok token) d ⊥ (λ short. short) in
                record {
                  mid = d.mid;
                  passed = called.passed;
                  owned = called.owned;
                  luck = by_world d.acts.fate;
                  outcome = Some (outcomes.Staged (last_number (history d.acts.after.history)));
                  after = record indexer { place = staged (held_of batch (last_number (history d.acts.after.history))) };
                  behind = d.acts.after;
                  did = stage_did d.acts.fate d.mid d.acts.after (Ok done) did;
                  answer = ap outcomes.Staged (sym w.number);
                  stands = holds_on d.acts.after (places.Staged token bytes) (staged (held_of batch (last_number (history d.acts.after.history)))) (
                    held_of batch (last_number (history d.acts.after.history)),
                    refl,
                    w.number,
                    file,
                    staged_is_held log d.acts.after batch (last_number (history d.acts.after.history)) made are (called_configured called between batch.config k)
                        (subst (λ n. IsStagedIn batch.parts (batch_facts batch) d.acts.after n) w.number
                        (subst (λ f. IsStagedIn batch.parts f d.acts.after token.number) noted (subst (λ p. IsStagedIn p facts d.acts.after token.number) parts w.in_hand))),
                  );
                  gate = called.stands;
                  goes_on = called.goes;
                  made = called.made;
                  own = called.own;
                  asked = called.asked;
                  apart = λ n st e. absurd (fresh n (w.apart n st) (w.number ∙ same_number e));
                }
              where
                same_number : {a b : ℕ} → Some a ≡ Some b → a ≡ b
                same_number e = cc

                fresh : (n : ℕ) → n < token.number → token.number ≡ n → ⊥
                fresh n low e = absurd (omega (arith, low, e))
            by (Err e) did w = absurd w

        pub stage_fails : (error : WorldError) (answered : Result Said AllocError) → ((unmade : Unmade) → IsUnmade error unmade → Answers answered (stage_outcome unmade)) →
            Does Stands Between Owns Adds None (of_stage delta facts) (stage_call delta facts) IsUnmade (WasStaged core delta facts) (Err error) core log old new →
            StepsAs tells count Stands Between Owns Adds answered (record indexer { place = reading batch }) core log reader old new
        stage_fails error answered answers d = by d.acts.answer d.acts.did d.acts.says
          where
            by : (a : Result ⊤ Unmade) → stage_call delta facts d.acts.fate d.mid ≡ gives a d.acts.after → Says IsUnmade (WasStaged core delta facts) (Err error) a d.acts.after →
                StepsAs tells count Stands Between Owns Adds answered (record indexer { place = reading batch }) core log reader old new
            by (Ok done) did w = absurd w
            by (Err e) did w =
                ends_idle (reading batch) answered d.mid d.acts.after (by_world d.acts.fate) (stage_outcome e) (stage_called (Err error) d (IsCallFree (reading batch) (stage_outcome e)) (stage_free (reading batch) error e w))
                (stage_did d.acts.fate d.mid d.acts.after (Err e) did) (answers e w)

-- ---- what a Publish answers

pub published_answers : (held : IndexerHeld) (number : ℕ) (indexer : Indexer) (revision : ℕ) → number ≡ held.number → (a : Result ⊤ Unmade) (after : Core) → Says IsUnmade IsRevision (Ok revision) a after →
    Answers (Ok (said.Published number)) (publish_by a held indexer after).outcome
published_answers held number indexer revision same (Ok done) after w = ap outcomes.Published (sym same)
published_answers held number indexer revision same (Err e) after w = absurd w

pub unpublished_answers : (held : IndexerHeld) (number : ℕ) (indexer : Indexer) (error : WorldError) (answered : Result Said AllocError) → number ≡ held.number →
    ((unmade : Unmade) → IsUnmade error unmade → Answers answered (publish_outcome number unmade)) → (a : Result ⊤ Unmade) (after : Core) → Says IsUnmade IsRevision (Err error) a after →
    Answers answered (publish_by a held indexer after).outcome
unpublished_answers held number indexer error answered same f (Ok done) after w = absurd w
unpublished_answers held number indexer error answered same f (Err e) after w = subst (λ n. Answers answered (publish_outcome n e)) same (f e w)

-- ---- the facts of a split that is staged

abbrev with_rejected : ℕ → RowFacts → RowFacts
with_rejected n facts = record facts { rejected = n }

docs_are : (config : IndexConfig) (documents : List Placed) → (facts_of config documents 0).docs ≡ length documents
unfolding form_facts
docs_are config documents = refl

rejected_as : (config : IndexConfig) (documents : List Placed) (n : ℕ) → with_rejected (min n most) (facts_of config documents 0) ≡ facts_of config documents n
unfolding form_facts
rejected_as config documents n = refl

pub staged_facts : (batch : Batch) (documents : List Placed) (built given : RowFacts) (count rejected : ℕ) → documents ≡ batch.documents → count ≡ batch.count → built ≡ facts_of batch.config documents 0 → rejected ≡ count - built.docs →
    given ≡ record built { rejected = rejected } → batch.count ≤ batch.config.docs_target → batch.config.docs_target ≤ max_documents → given ≡ batch_facts batch
staged_facts batch documents built given count rejected d c b r g few target =
    g ∙ as_built ∙ as_kept ∙ ap (λ docs. facts_of batch.config docs (batch.count - length docs)) d
  where
    kept : rejected ≡ min (batch.count - length documents) most
    kept = let docs : built.docs ≡ length documents = ap (λ (f : RowFacts). f.docs) b ∙ docs_are batch.config documents in omega (arith, r, c, docs, few, target)

    as_built : record built { rejected = rejected } ≡ record (facts_of batch.config documents 0) { rejected = rejected }
    as_built = ap (with_rejected rejected) b

    as_kept : record (facts_of batch.config documents 0) { rejected = rejected } ≡ facts_of batch.config documents (batch.count - length documents)
    as_kept = ap (λ n. with_rejected n (facts_of batch.config documents 0)) kept ∙ rejected_as batch.config documents (batch.count - length documents)

-- what was built of documents is their split under the configuration of the batch
pub built_splits : (config mapping : IndexConfig) (list : List Placed) (split : BuiltSplit) → mapping ≡ config → IsBuilt mapping.schema list split → split.bytes ≡ form.file_of mapping.schema list → AreSplit config list
built_splits config mapping list split m b e =
    subst (λ (x : IndexConfig). AreSplit x list) m (record { stands = subst (λ (bs : List ℕ). IsSplit mapping.schema bs list) e b.split; few = b.within.few })

-- ---- a whole step

pub set_idle : {L : Type 0} (tells : L → Option Log) (count : L → ℕ) (reader : Reader L) (indexer : Indexer) (core : Core) (log : Log) (kept : HeldPlace) → kept ≡ places.Idle →
    IndexerStands tells count reader indexer core log → IndexerStands tells count (record reader { place = kept }) (record indexer { place = idle }) core log
set_idle tells count reader indexer core log kept e s =
    record { told = s.told; log_faults = s.log_faults; assignment = s.assignment; assigned = s.assigned; place = subst (λ k. PlaceStands log core k idle) (sym e) refl }

pub as_placed : {L W : Type 0} (tells : L → Option Log) (count : L → ℕ) (Stands : W → Core → Log → Type 0) (Between : Core → Core → Type 0) (Owns : W → ℕ → Type 0) (Adds : W → List CallMade → W → Type 0) (result : Result Said AllocError) (indexer : Indexer) (core : Core)
    (log : Log) (reader : Reader L) (old new : W) (place : IndexerPlace) → indexer.place ≡ place → StepsAs tells count Stands Between Owns Adds result (record indexer { place = place }) core log reader old new →
    StepsAs tells count Stands Between Owns Adds result indexer core log reader old new
as_placed tells count Stands Between Owns Adds result indexer core log reader old new place e h =
    subst (λ p. StepsAs tells count Stands Between Owns Adds result (record indexer { place = p }) core log reader old new) (sym e) h

-- what the place became
module _ {L W : Type 0} {tells : L → Option Log} {count : L → ℕ} {Stands : W → Core → Log → Type 0} {Between : Core → Core → Type 0} {Owns : W → ℕ → Type 0} {Adds : W → List CallMade → W → Type 0} {result : Result Said AllocError} {indexer : Indexer} {core : Core} {log : Log} {old new : W} where
  pub as_put : (reader : Reader L) (held put : HeldPlace) → put ≡ held → StepsAs tells count Stands Between Owns Adds result indexer core log (record reader { place = held }) old new →
      StepsAs tells count Stands Between Owns Adds result indexer core log (record reader { place = put }) old new
  as_put reader held put e h = subst (λ k. StepsAs tells count Stands Between Owns Adds result indexer core log (record reader { place = k }) old new) (sym e) h

pub no_answer : (result : Result Said AllocError) → IsErr result → Answers result None
no_answer (Ok given) e = cc
no_answer (Err none) e = tt

pub not_true : (b : Bool) → not b ≡ true → b ≡ false
not_true true e = sym e
not_true false e = refl

pub not_false : (b : Bool) → not b ≡ false → b ≡ true
not_false true e = refl
not_false false e = sym e
