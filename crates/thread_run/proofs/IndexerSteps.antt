-- What a step of an indexer says where it is refused or fails, and what it leaves.
use Rattle.std.proofs.Common.{◌≡◌, ℕ, ◌==◌, Bool, true, false, List, [], ◌∷◌, length, take, drop, refl, sym, subst}
use Rattle.std.specs.Prelude.{Option, Some, None, Result, Ok, Err, ⊤, if◌then◌else◌, nat_le}
use Rattle.meta_journal.specs.Places.{split_key}
use Rattle.meta_journal.specs.declared.entry.Act.TheVariants.{Publish}
use Rattle.meta_store.specs.History.{history}
use Rattle.meta_store.specs.State.{checkpoints_of}
use Rattle.meta_store.specs.declared.refusal.Refusal.{Refusal}
use Rattle.meta_store.specs.declared.refusal.Refusal.TheVariants as refusals
use Rattle.source_checkpoint.specs.declared.delta.StaleDelta.{StaleDelta}
use Rattle.source_checkpoint.specs.declared.delta.StaleDelta.TheVariants as deltas
use Rattle.source_checkpoint.specs.declared.ledger.Checkpoint.{Checkpoint as Mark}
use Rattle.source_log.specs.Log.{Log, records_of}
use Rattle.index_world.specs.Calls.{Trouble, faulted, no_memory, Unmade, refused, troubled, answer_behind, asked, entry_of, looked}
use Rattle.index_world.specs.Configuration.{config_or, configuration}
use Rattle.index_world.specs.Core.{Core, journal_of}
use Rattle.index_world.specs.Gate.{publish_call, stage_act, stage_call}
use Rattle.index_world.specs.SplitFile.{file_of}
use Rattle.indexing_run.specs.Making.{AreApart}
use Rattle.indexing_run.specs.Outcomes.{IndexerOutcome}
use Rattle.indexing_run.specs.Outcomes as said
use Rattle.indexing_run.specs.Places.{Batch, Indexer, IndexerHeld, IndexerPlace, idle, reading, staged, uploaded}
use Rattle.indexing_run.specs.Steps.{IndexerLuck, Stepped, batch_facts, checkpoints_by, idle_by, idle_unless, log_called, log_may_fail, or_short, partitions_for, publish_by, publish_refused, read_by, read_given, read_limit, stage_by, step_indexer, step_place, step_read, start_of, step_stage, stepped, take_checkpoints, taken_from, trouble_outcome, upload_by}
use Rattle.call_laws.proofs.CallTells.{IsLowCore, asked_own, copied_own}
use Rattle.thread_run.proofs.CallsSay.{FaultAt, Fails, TroubleAt, Unmakes, entry_fails, file_fails, store_fails}
use Rattle.thread_run.proofs.Low.{appended_low, asked_low, copied_low, file_made_low}
use Rattle.thread_run.proofs.CallParts.{IsOpen, fresh_opens, read_opens}

-- what is known of a place: a batch that is read is a delta
abbrev pub IsGood : IndexerPlace → Type 0
IsGood idle = ⊤
IsGood (reading batch) = IsOpen batch
IsGood (staged held) = ⊤
IsGood (uploaded held) = ⊤

-- a closed batch was refused by what was taken in
abbrev pub IsUnstaged : IndexerPlace → Core → Refusal → Type 0
IsUnstaged idle core refusal = ⊥
IsUnstaged (reading batch) core refusal = answer_behind core.history (entry_of (stage_act batch.parts (batch_facts batch) core) core) ≡ Err refusal
IsUnstaged (staged held) core refusal = ⊥
IsUnstaged (uploaded held) core refusal = ⊥

abbrev pub Says : IndexerPlace → Core → Option IndexerOutcome → Type 0
Says place core None = ⊤
Says place core (Some said.Checkpoint) = ⊤
Says place core (Some (said.Read count)) = ⊤
Says place core (Some (said.Staged number)) = ⊤
Says place core (Some (said.Uploaded number)) = ⊤
Says place core (Some (said.Published number)) = ⊤
Says place core (Some said.CaughtUp) = ⊤
Says place core (Some (said.Stale partition current from)) = ⊤
Says place core (Some (said.Lost number refusal)) = ⊤
Says place core (Some (said.Refused refusal)) = IsUnstaged place core refusal
Says place core (Some (said.SourceFault before after)) = ⊤
Says place core (Some (said.Faulted fault)) = FaultAt core fault

pub record IsStep (names : List (List ℕ)) (place : IndexerPlace) (log : Log) (step : Stepped) : Type 0 where
  pub says : Says place step.core step.outcome
  pub low : IsLowCore step.core
  pub good : IsGood step.indexer.place
  pub names_are : partitions_for step.indexer.assignment log ≡ names

trouble_says : (place : IndexerPlace) (core : Core) (trouble : Trouble) → TroubleAt core trouble → Says place core (trouble_outcome trouble)
trouble_says place core (faulted fault) h = h
trouble_says place core no_memory h = tt

stale_says : (place : IndexerPlace) (core : Core) (number : ℕ) (delta : StaleDelta) → Says place core (Some (publish_refused number (refusals.Delta delta)))
stale_says place core number (deltas.Stale partition current from) = tt
stale_says place core number (deltas.BackwardDelta partition) = tt
stale_says place core number (deltas.DoubledPartition partition) = tt

refused_says : (place : IndexerPlace) (core : Core) (number : ℕ) (refusal : Refusal) → Says place core (Some (publish_refused number refusal))
refused_says place core number (refusals.Delta delta) = stale_says place core number delta
refused_says place core number refusal = tt

module _ (luck : IndexerLuck) (log : Log) (core : Core) (low : IsLowCore core) (names : List (List ℕ)) (apart : AreApart names) where
  abbrev Steps : IndexerPlace → Stepped → Type 0
  Steps place step = IsStep names place log step

  abbrev HasNames : Indexer → Type 0
  HasNames indexer = partitions_for indexer.assignment log ≡ names

  -- ---- idle

  checkpoints_step : (r : Result ⊤ Trouble) (indexer : Indexer) (c : Core) → Fails c r → IsLowCore c → HasNames indexer → Steps idle (checkpoints_by r log indexer c)
  checkpoints_step (Ok done) indexer c f l has =
      let checkpoints = checkpoints_of (history c.history) in
      let config = config_or (configuration (journal_of c)) in
      record { says = tt; low = l; good = fresh_opens config checkpoints (partitions_for indexer.assignment log) (subst AreApart (sym has) apart); names_are = has }
  checkpoints_step (Err trouble) indexer c f l has = record { says = trouble_says idle c trouble f; low = l; good = tt; names_are = has }

  take_step : (indexer : Indexer) → HasNames indexer → Steps idle (take_checkpoints luck log indexer core)
  take_step indexer has =
      let given = looked luck.world core in
      checkpoints_step given.answer indexer given.core (store_fails given.core given.answer (copied_own luck.world core)) (copied_low luck.world core low) has

  idle_step : (fails : Bool) (assignment : Option (List (List ℕ))) (indexer : Indexer) → HasNames indexer → Steps idle (idle_by fails assignment luck log indexer core)
  idle_step true None indexer has = record { says = tt; low = low; good = tt; names_are = has }
  idle_step false None indexer has = take_step (log_called luck.log indexer) has
  idle_step true (Some given) indexer has = take_step indexer has
  idle_step false (Some given) indexer has = take_step indexer has

  unless_step : (short : Bool) (indexer : Indexer) → HasNames indexer → Steps idle (idle_unless short luck log indexer core)
  unless_step true indexer has = record { says = tt; low = low; good = tt; names_are = has }
  unless_step false indexer has = idle_step (log_may_fail luck.log indexer.log_faults) indexer.assignment indexer has

  -- ---- a batch

  module _ (batch : Batch) (open_so : IsOpen batch) where
    read_step : (fails : Bool) (mark : Mark) (rest : List Mark) (indexer : Indexer) (c : Core) → batch.queue ≡ mark ∷ rest → IsLowCore c → HasNames indexer → Steps (reading batch) (read_by fails luck log batch mark rest indexer c)
    read_step true mark rest indexer c is l has = record { says = tt; low = l; good = open_so; names_are = has }
    read_step false mark rest indexer c is l has =
        let behind = drop mark.at (records_of log mark.partition) in
        let limit = read_limit batch in
        let taken = taken_from batch.config mark.partition mark.at (take limit behind) (start_of batch) in
        record { says = tt; low = l; good = read_opens batch mark rest taken (nat_le (length behind) limit) c.moment is open_so; names_are = has }

    given_step : (r : Result ⊤ Trouble) (mark : Mark) (rest : List Mark) (indexer : Indexer) (c : Core) → batch.queue ≡ mark ∷ rest → Fails c r → IsLowCore c → HasNames indexer → Steps (reading batch) (read_given luck log batch mark rest indexer r c)
    given_step (Err trouble) mark rest indexer c is f l has = record { says = trouble_says (reading batch) c trouble f; low = l; good = tt; names_are = has }
    given_step (Ok done) mark rest indexer c is f l has = read_step (log_may_fail luck.log indexer.log_faults) mark rest indexer c is l has

    open_step : (queue : List Mark) (indexer : Indexer) → batch.queue ≡ queue → HasNames indexer → Steps (reading batch) (step_read luck log batch queue indexer core)
    open_step [] indexer is has = record { says = tt; low = low; good = tt; names_are = has }
    open_step (mark ∷ rest) indexer is has =
        let given = asked luck.world core in
        given_step given.answer mark rest indexer given.core is (store_fails given.core given.answer (asked_own luck.world core)) (asked_low luck.world core low) has

    staged_step : (r : Result ⊤ Unmade) (indexer : Indexer) (c : Core) → Unmakes (stage_act batch.parts (batch_facts batch)) c r → IsLowCore c → HasNames indexer → Steps (reading batch) (stage_by r batch indexer c)
    staged_step (Ok done) indexer c u l has = record { says = tt; low = l; good = tt; names_are = has }
    staged_step (Err (refused refusal)) indexer c u l has = record { says = u; low = l; good = tt; names_are = has }
    staged_step (Err (troubled trouble)) indexer c u l has = record { says = trouble_says (reading batch) c trouble u; low = l; good = tt; names_are = has }

    closed_step : (none : Bool) (indexer : Indexer) → HasNames indexer → Steps (reading batch) (if none then stepped (Some said.CaughtUp) idle indexer core else step_stage luck batch indexer core)
    closed_step true indexer has = record { says = tt; low = low; good = tt; names_are = has }
    closed_step false indexer has =
        let act = stage_act batch.parts (batch_facts batch) in
        let given = stage_call batch.parts (batch_facts batch) luck.world core in
        staged_step given.answer indexer given.core (entry_fails act luck.world core low) (appended_low act luck.world core low) has

    batch_step : (closed : Bool) (indexer : Indexer) → HasNames indexer →
        Steps (reading batch) (if closed then (if batch.count == 0 then stepped (Some said.CaughtUp) idle indexer core else step_stage luck batch indexer core) else step_read luck log batch batch.queue indexer core)
    batch_step true indexer has = closed_step (batch.count == 0) indexer has
    batch_step false indexer has = open_step batch.queue indexer refl has

  -- ---- staged and uploaded

  upload_step : (r : Result ⊤ Trouble) (held : IndexerHeld) (indexer : Indexer) (c : Core) → Fails c r → IsLowCore c → HasNames indexer → Steps (staged held) (upload_by r held indexer c)
  upload_step (Ok done) held indexer c f l has = record { says = tt; low = l; good = tt; names_are = has }
  upload_step (Err trouble) held indexer c f l has = record { says = trouble_says (staged held) c trouble f; low = l; good = tt; names_are = has }

  publish_step : (r : Result ⊤ Unmade) (held : IndexerHeld) (indexer : Indexer) (c : Core) → Unmakes (λ core. Publish held.number) c r → IsLowCore c → HasNames indexer → Steps (uploaded held) (publish_by r held indexer c)
  publish_step (Ok done) held indexer c u l has = record { says = tt; low = l; good = tt; names_are = has }
  publish_step (Err (refused refusal)) held indexer c u l has = record { says = refused_says (uploaded held) c held.number refusal; low = l; good = tt; names_are = has }
  publish_step (Err (troubled trouble)) held indexer c u l has = record { says = trouble_says (uploaded held) c trouble u; low = l; good = tt; names_are = has }

  -- ---- any place

  place_step : (place : IndexerPlace) (indexer : Indexer) → IsGood place → HasNames indexer → Steps place (step_place place luck log indexer core)
  place_step idle indexer good has = unless_step luck.log.short indexer has
  place_step (reading batch) indexer good has = batch_step batch good batch.closed indexer has
  place_step (staged held) indexer good has =
      let bytes = file_of held.config held.documents in
      upload_step _ held indexer _ (file_fails luck.world.first held.number bytes core) (file_made_low luck.world.first (split_key held.number) bytes core low) has
  place_step (uploaded held) indexer good has =
      let given = publish_call held.number luck.world core in
      publish_step given.answer held indexer given.core (entry_fails (λ c. Publish held.number) luck.world core low) (appended_low (λ c. Publish held.number) luck.world core low) has

  short_step : (short : Bool) (place : IndexerPlace) (step : Stepped) → Steps place step → Steps place (or_short short step)
  short_step true place step s = record { says = tt; low = s.low; good = tt; names_are = s.names_are }
  short_step false place step s = s

  pub step_is : (indexer : Indexer) → IsGood indexer.place → HasNames indexer → Steps indexer.place (step_indexer luck log indexer core)
  step_is indexer good has = short_step luck.short indexer.place (step_place indexer.place luck log indexer core) (place_step indexer.place indexer good has)
