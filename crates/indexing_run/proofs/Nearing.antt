-- Each step of an indexer that is no end comes nearer to its next Stage, or is one.
use Rattle.std.proofs.Common.{◌≡◌, ◌⊎◌, inl, inr, ℕ, zero, suc, ◌+◌, ◌-◌, ◌≤◌, ◌<◌, Bool, true, false, List, [], ◌∷◌, length, take, drop, refl, sym, ap, ◌∙◌, subst, arith}
use Rattle.std.proofs.lemmas.Bool.Decides.{nat_tests}
use Rattle.std.specs.Prelude.{Option, Some, None, Result, Ok, Err, ⊤, if◌then◌else◌, ◌==◌, ◌||◌, nat_le}
use Rattle.meta_store.specs.History.{history}
use Rattle.meta_store.specs.State.{checkpoints_of}
use Rattle.source_checkpoint.specs.declared.ledger.Checkpoint.{Checkpoint as Mark}
use Rattle.source_log.specs.Log.{Log, records_of}
use Rattle.index_config.specs.declared.config.IndexConfig.{IndexConfig}
use Rattle.index_world.specs.Calls.{Trouble, faulted, no_memory, Unmade, refused, troubled, Gives, gives, looked, asked, upload_made}
use Rattle.index_world.specs.Configuration.{configuration, config_or}
use Rattle.index_world.specs.Core.{Core, journal_of}
use Rattle.index_world.specs.Gate.{stage_act, stage_call, publish_call}
use Rattle.index_world.specs.SplitFile.{file_of, max_documents}
use Rattle.indexing_run.specs.Outcomes.{IndexerOutcome, Checkpoint, Read, Staged, Uploaded, Published, CaughtUp, Stale, Lost, Refused, SourceFault, Faulted}
use Rattle.indexing_run.specs.Places.{Batch, IndexerHeld, IndexerPlace, idle, reading, staged, uploaded, Indexer}
use Rattle.indexing_run.specs.Steps.{IndexerLuck, Stepped, Taken, taken_from, start_of, read_limit, batch_after, queue_after, marks_at, fresh_batch, partitions_for, log_may_fail, log_called, checkpoints_by, take_checkpoints, idle_by, idle_unless, read_by, read_given, step_read, batch_facts, stage_by, step_stage, upload_by, publish_by, publish_refused, or_short, stepped, step_place, step_indexer, trouble_outcome}
use Rattle.indexing_run.proofs.Reading.{target_ranges}
use Rattle.indexing_run.proofs.Watching.{taken_some}
use Rattle.indexing_run.specs.IndexLaws.{steps_to_stage}
use Rattle.indexing_run.proofs.Appended.{appended_longer}

-- how many steps are left from this place to the next Stage at most
abbrev pub steps_left : (partitions : ℕ) → IndexerPlace → ℕ
steps_left n idle = steps_to_stage n
steps_left n (reading batch) = (batch.config.docs_target - batch.count) + length batch.queue
steps_left n (staged held) = steps_to_stage n + 2
steps_left n (uploaded held) = steps_to_stage n + 1

-- an open batch has room for a record
abbrev pub HasRoom : IndexerPlace → Type 0
HasRoom idle = ⊤
HasRoom (reading batch) = batch.closed ≡ false → batch.count < batch.config.docs_target
HasRoom (staged held) = ⊤
HasRoom (uploaded held) = ⊤

-- a step that ends so is not the last
abbrev pub GoesOn : Option IndexerOutcome → Type 0
GoesOn None = ⊥
GoesOn (Some Checkpoint) = ⊤
GoesOn (Some (Read count)) = ⊤
GoesOn (Some (Staged number)) = ⊤
GoesOn (Some (Uploaded number)) = ⊤
GoesOn (Some (Published number)) = ⊤
GoesOn (Some CaughtUp) = ⊥
GoesOn (Some (Stale partition current from)) = ⊤
GoesOn (Some (Lost number refusal)) = ⊤
GoesOn (Some (Refused refusal)) = ⊥
GoesOn (Some (SourceFault before after)) = ⊥
GoesOn (Some (Faulted fault)) = ⊥

-- it is nearer than this, or the history is longer
abbrev pub IsNearer : (n b : ℕ) → Core → IndexerPlace → Core → Type 0
IsNearer n b core place after = (steps_left n place < b) ⊎ ((length core.history < length after.history) × (steps_left n place ≤ steps_to_stage n + 2))

pub record Nears (n b : ℕ) (log : Log) (core : Core) (step : Stepped) : Type 0 where
  pub near : GoesOn step.outcome → IsNearer n b core step.indexer.place step.core
  pub room : HasRoom step.indexer.place
  pub same : length (partitions_for step.indexer.assignment log) ≡ n

-- ---- one read

second_false : (a b c d : Bool) → (a || b || c || d) ≡ false → b ≡ false
second_false true b c d e = cc
second_false false true c d e = cc
second_false false false c d e = refl

is_above : (target count : ℕ) → nat_le target count ≡ false → count < target
is_above target count e = grind (e, arith, nat_tests)

after_room : (batch : Batch) (mark : Mark) (rest : List Mark) (taken : Taken) (at_end : Bool) (now : ℕ) → HasRoom (reading (batch_after batch mark rest taken at_end now))
after_room batch mark rest taken at_end now unclosed = is_above batch.config.docs_target (batch.count + taken.count) (second_false _ _ _ _ unclosed)

queue_shorter : (at_end : Bool) (mark : Mark) (count : ℕ) (rest : List Mark) → length (queue_after at_end mark count rest) ≤ suc (length rest)
queue_shorter true mark count rest = omega arith
queue_shorter false mark count rest = omega arith

module _ (n : ℕ) (batch : Batch) (mark : Mark) (rest : List Mark) (queue_is : batch.queue ≡ mark ∷ rest) (room : batch.count < batch.config.docs_target) (now : ℕ) where
  queue_length : length batch.queue ≡ suc (length rest)
  queue_length = ap (λ (l : List Mark). length l) queue_is

  none_nearer : steps_left n (reading (batch_after batch mark rest (start_of batch) true now)) < steps_left n (reading batch)
  none_nearer = let before = queue_length in omega (arith, before)

  some_nearer : (taken : Taken) (at_end : Bool) → 0 < taken.count → steps_left n (reading (batch_after batch mark rest taken at_end now)) < steps_left n (reading batch)
  some_nearer taken at_end some =
      let before = queue_length in
      let behind = queue_shorter at_end mark taken.count rest in
      omega (arith, before, behind, some, room)

  read_nearer : (behind : List (List ℕ)) (limit : ℕ) → 0 < limit →
      steps_left n (reading (batch_after batch mark rest (taken_from batch.config mark.partition mark.at (take limit behind) (start_of batch)) (nat_le (length behind) limit) now)) < steps_left n (reading batch)
  read_nearer [] limit some =
      let P : Taken → Bool → Type 0 = λ t b. steps_left n (reading (batch_after batch mark rest t b now)) < steps_left n (reading batch) in
      subst (λ t. P t (nat_le 0 limit)) (sym (none_of limit)) (subst (λ b. P (start_of batch) b) (sym (none_more limit)) none_nearer)
    where
      none_more : (limit : ℕ) → nat_le 0 limit ≡ true
      none_more limit = grind (arith, nat_tests)

      none_of : (limit : ℕ) → taken_from batch.config mark.partition mark.at (take limit []) (start_of batch) ≡ start_of batch
      none_of zero = refl
      none_of (suc limit) = refl
  read_nearer (bytes ∷ more) zero some = absurd (omega (arith, some))
  read_nearer (bytes ∷ more) (suc limit) some =
      some_nearer (taken_from batch.config mark.partition mark.at (bytes ∷ take limit more) (start_of batch)) (nat_le (length (bytes ∷ more)) (suc limit))
      (let one = taken_some batch.config mark.partition mark.at bytes (take limit more) (start_of batch) refl in omega (arith, one))

-- ---- a step

target_most : (core : Core) → (0 < (config_or (configuration (journal_of core))).docs_target) × ((config_or (configuration (journal_of core))).docs_target ≤ max_documents)
target_most core = by (configuration (journal_of core)) refl
  where
    by : (o : Option IndexConfig) → configuration (journal_of core) ≡ o → (0 < (config_or o).docs_target) × ((config_or o).docs_target ≤ max_documents)
    by None e = (omega arith, omega arith)
    by (Some config) e = target_ranges core config e

marks_length : (checkpoints : List Mark) (names : List (List ℕ)) → length (marks_at checkpoints names) ≡ length names
marks_length checkpoints [] = refl
marks_length checkpoints (name ∷ names) = ap suc (marks_length checkpoints names)

module _ (n b : ℕ) (log : Log) (luck : IndexerLuck) (core : Core) where
  abbrev Near : Stepped → Type 0
  Near step = Nears n b log core step

  abbrev HasNames : Indexer → Type 0
  HasNames indexer = length (partitions_for indexer.assignment log) ≡ n

  last : (outcome : Option IndexerOutcome) (place : IndexerPlace) (indexer : Indexer) (c : Core) → (GoesOn outcome → ⊥) → HasRoom place → HasNames indexer → Near (stepped outcome place indexer c)
  last outcome place indexer c ends room same = record { near = λ goes. absurd (ends goes); room = room; same = same }

  nearer : (outcome : Option IndexerOutcome) (place : IndexerPlace) (indexer : Indexer) (c : Core) → IsNearer n b core place c → HasRoom place → HasNames indexer → Near (stepped outcome place indexer c)
  nearer outcome place indexer c near room same = record { near = λ goes. near; room = room; same = same }

  troubled_near : (trouble : Trouble) (indexer : Indexer) (c : Core) → HasNames indexer → Near (stepped (trouble_outcome trouble) idle indexer c)
  troubled_near (faulted fault) indexer c same = last (Some (Faulted fault)) idle indexer c (λ g. g) tt same
  troubled_near no_memory indexer c same = last None idle indexer c (λ g. g) tt same

  -- ---- idle

  checkpoints_near : (r : Result ⊤ Trouble) (indexer : Indexer) (c : Core) → steps_to_stage n ≤ b → HasNames indexer → Near (checkpoints_by r log indexer c)
  checkpoints_near (Err trouble) indexer c le same = troubled_near trouble indexer c same
  checkpoints_near (Ok done) indexer c le same =
      let config = config_or (configuration (journal_of c)) in
      let marks = marks_at (checkpoints_of (history c.history)) (partitions_for indexer.assignment log) in
      let most = target_most c in
      let low = most.0 in
      let high = most.1 in
      let many = marks_length (checkpoints_of (history c.history)) (partitions_for indexer.assignment log) in
      nearer (Some Checkpoint) (reading (fresh_batch config marks)) indexer c (inl (omega (arith, high, many, same, le))) (λ unclosed. low) same

  take_near : (indexer : Indexer) → steps_to_stage n ≤ b → HasNames indexer → Near (take_checkpoints luck log indexer core)
  take_near indexer le same = checkpoints_near (looked luck.world core).answer indexer (looked luck.world core).core le same

  by_near : (fails : Bool) (names : Option (List (List ℕ))) (indexer : Indexer) → steps_to_stage n ≤ b → HasNames indexer → Near (idle_by fails names luck log indexer core)
  by_near true None indexer le same = last (Some (SourceFault _ _)) idle (log_called luck.log indexer) core (λ g. g) tt same
  by_near false None indexer le same = take_near (log_called luck.log indexer) le same
  by_near true (Some names) indexer le same = take_near indexer le same
  by_near false (Some names) indexer le same = take_near indexer le same

  idle_near : (short : Bool) (indexer : Indexer) → steps_to_stage n ≤ b → HasNames indexer → Near (idle_unless short luck log indexer core)
  idle_near true indexer le same = last None idle (log_called luck.log indexer) core (λ g. g) tt same
  idle_near false indexer le same = by_near (log_may_fail luck.log indexer.log_faults) indexer.assignment indexer le same

  -- ---- reading

  module _ (batch : Batch) (le : steps_left n (reading batch) ≤ b) where
    read_near : (fails : Bool) (mark : Mark) (rest : List Mark) (indexer : Indexer) (c : Core) → batch.queue ≡ mark ∷ rest → batch.closed ≡ false → HasRoom (reading batch) → HasNames indexer → Near (read_by fails luck log batch mark rest indexer c)
    read_near true mark rest indexer c queue_is unclosed room same = last (Some (SourceFault _ _)) (reading batch) (log_called luck.log indexer) c (λ g. g) room same
    read_near false mark rest indexer c queue_is unclosed room same =
        let free = room unclosed in
        let behind = drop mark.at (records_of log mark.partition) in
        let taken = taken_from batch.config mark.partition mark.at (take (read_limit batch) behind) (start_of batch) in
        let less = read_nearer n batch mark rest queue_is free c.moment behind (read_limit batch) (omega (arith, free)) in
        nearer (Some (Read taken.count)) (reading (batch_after batch mark rest taken (nat_le (length behind) (read_limit batch)) c.moment)) (log_called luck.log indexer) c
        (inl (omega (arith, less, le))) (after_room batch mark rest taken (nat_le (length behind) (read_limit batch)) c.moment) same

    given_near : (r : Result ⊤ Trouble) (mark : Mark) (rest : List Mark) (indexer : Indexer) (c : Core) → batch.queue ≡ mark ∷ rest → batch.closed ≡ false → HasRoom (reading batch) → HasNames indexer → Near (read_given luck log batch mark rest indexer r c)
    given_near (Err trouble) mark rest indexer c queue_is unclosed room same = troubled_near trouble indexer c same
    given_near (Ok done) mark rest indexer c queue_is unclosed room same = read_near (log_may_fail luck.log indexer.log_faults) mark rest indexer c queue_is unclosed room same

    open_near : (queue : List Mark) (indexer : Indexer) → batch.queue ≡ queue → batch.closed ≡ false → HasRoom (reading batch) → HasNames indexer → Near (step_read luck log batch queue indexer core)
    open_near [] indexer queue_is unclosed room same = last (Some CaughtUp) idle indexer core (λ g. g) tt same
    open_near (mark ∷ rest) indexer queue_is unclosed room same = given_near (asked luck.world core).answer mark rest indexer (asked luck.world core).core queue_is unclosed room same

    stage_near : (r : Result ⊤ Unmade) (indexer : Indexer) (c : Core) → (r ≡ Ok tt → length core.history < length c.history) → HasNames indexer → Near (stage_by r batch indexer c)
    stage_near (Ok done) indexer c longer same = nearer (Some (Staged _)) (staged _) indexer c (inr (longer refl, omega arith)) tt same
    stage_near (Err (refused refusal)) indexer c longer same = last (Some (Refused refusal)) idle indexer c (λ g. g) tt same
    stage_near (Err (troubled trouble)) indexer c longer same = troubled_near trouble indexer c same

    stage_longer : (given : Gives Unmade ⊤) → stage_call batch.parts (batch_facts batch) luck.world core ≡ given → given.answer ≡ Ok tt → length core.history < length given.core.history
    stage_longer given is done = appended_longer (stage_act batch.parts (batch_facts batch)) luck.world core given.core (is ∙ ap (λ r. gives r given.core) done)

    count_near : (none : Bool) (indexer : Indexer) → HasNames indexer → Near (if none then stepped (Some CaughtUp) idle indexer core else step_stage luck batch indexer core)
    count_near true indexer same = last (Some CaughtUp) idle indexer core (λ g. g) tt same
    count_near false indexer same =
        let given = stage_call batch.parts (batch_facts batch) luck.world core in
        stage_near given.answer indexer given.core (stage_longer given refl) same

    batch_near : (closed : Bool) (indexer : Indexer) → batch.closed ≡ closed → HasRoom (reading batch) → HasNames indexer →
        Near (if closed then (if batch.count == 0 then stepped (Some CaughtUp) idle indexer core else step_stage luck batch indexer core) else step_read luck log batch batch.queue indexer core)
    batch_near true indexer is room same = count_near (batch.count == 0) indexer same
    batch_near false indexer is room same = open_near batch.queue indexer refl is room same

  -- ---- staged and uploaded

  upload_near : (r : Result ⊤ Trouble) (held : IndexerHeld) (indexer : Indexer) (c : Core) → steps_to_stage n + 2 ≤ b → HasNames indexer → Near (upload_by r held indexer c)
  upload_near (Ok done) held indexer c le same = nearer (Some (Uploaded _)) (uploaded held) indexer c (inl (omega (arith, le))) tt same
  upload_near (Err trouble) held indexer c le same = troubled_near trouble indexer c same

  publish_near : (r : Result ⊤ Unmade) (held : IndexerHeld) (indexer : Indexer) (c : Core) → steps_to_stage n + 1 ≤ b → HasNames indexer → Near (publish_by r held indexer c)
  publish_near (Ok done) held indexer c le same = nearer (Some (Published _)) idle indexer c (inl (omega (arith, le))) tt same
  publish_near (Err (refused refusal)) held indexer c le same = nearer (Some (publish_refused held.number refusal)) idle indexer c (inl (omega (arith, le))) tt same
  publish_near (Err (troubled trouble)) held indexer c le same = troubled_near trouble indexer c same

  -- ---- any place

  short_near : (short : Bool) (step : Stepped) → Near step → Near (or_short short step)
  short_near true step s = last None idle step.indexer step.core (λ g. g) tt s.same
  short_near false step s = s

  place_near : (place : IndexerPlace) (indexer : Indexer) → steps_left n place ≤ b → HasRoom place → HasNames indexer → Near (step_place place luck log indexer core)
  place_near idle indexer le room same = idle_near luck.log.short indexer le same
  place_near (reading batch) indexer le room same = batch_near batch le batch.closed indexer refl room same
  place_near (staged held) indexer le room same =
      let given = upload_made luck.world held.number (file_of held.config held.documents) core in
      upload_near given.answer held indexer given.core le same
  place_near (uploaded held) indexer le room same =
      let given = publish_call held.number luck.world core in
      publish_near given.answer held indexer given.core le same

  pub step_near : (indexer : Indexer) → steps_left n indexer.place ≤ b → HasRoom indexer.place → HasNames indexer → Near (step_indexer luck log indexer core)
  step_near indexer le room same = short_near luck.short (step_place indexer.place luck log indexer core) (place_near indexer.place indexer le room same)
