-- An indexer says that it caught up only where the checkpoints that it saw are the ends of its partitions.
use Rattle.std.proofs.Common.{◌≡◌, ℕ, zero, suc, ◌≤◌, ◌<◌, ◌+◌, Bool, true, false, List, [], ◌∷◌, ◌++◌, length, take, drop, map, refl, sym, ap, ◌∙◌, subst, inl, inr, ◌⊎◌, append-nil, append_assoc, arith}
use Rattle.std.proofs.lemmas.Bool.{eqb-true}
use Rattle.std.proofs.lemmas.Bool.Decides.{nat_tests}
use Rattle.std.specs.List.{AllByRecursion}
use Rattle.std.specs.Prelude.{Option, Some, None, Result, Ok, Err, ⊤, if◌then◌else◌, ◌==◌, ◌||◌, ◌&&◌, nat_le, nat_lt}
use Rattle.meta_journal.specs.declared.entry.Entry.{Entry}
use Rattle.meta_store.specs.History.{history}
use Rattle.meta_store.specs.State.{checkpoints_of}
use Rattle.meta_store.specs.declared.refusal.Refusal.{Refusal}
use Rattle.meta_store.specs.declared.refusal.Refusal.TheVariants.{MomentBack, NotCreated, AlreadyCreated, BadConfig, NotNext, Delta, State, BadTask, UptoAhead, TooManyTasks, TooManyRows, TooManySpans}
use Rattle.source_checkpoint.specs.Checkpoints.{checkpoint_at}
use Rattle.source_checkpoint.specs.declared.delta.StaleDelta.{StaleDelta}
use Rattle.source_checkpoint.specs.declared.delta.StaleDelta.TheVariants as deltas
use Rattle.source_checkpoint.specs.declared.ledger.Checkpoint.{Checkpoint as Mark}
use Rattle.source_log.specs.Log.{Log, records_of}
use Rattle.doc_value.specs.declared.doc.DocField.{DocField}
use Rattle.index_config.specs.declared.config.IndexConfig.{IndexConfig}
use Rattle.index_world.specs.Accepted.{accepted}
use Rattle.index_world.specs.Configuration.{configuration, config_or}
use Rattle.index_world.specs.Calls.{Trouble, faulted, no_memory, Unmade, refused, troubled, looked, asked, upload_made}
use Rattle.index_world.specs.Core.{Core, journal_of}
use Rattle.index_world.specs.Gate.{stage_call, publish_call}
use Rattle.index_world.specs.SplitFile.{file_of}
use Rattle.index_world.proofs.StoreChanges.{All-snoc}
use Rattle.indexing_run.specs.Outcomes.{IndexerOutcome, Checkpoint, Read, Staged, Uploaded, Published, CaughtUp, Stale, Lost, Refused, SourceFault, Faulted}
use Rattle.indexing_run.specs.Places.{Batch, IndexerHeld, IndexerPlace, idle, reading, staged, uploaded, Indexer}
use Rattle.indexing_run.specs.Steps.{Stepped, Taken, with_record, taken_from, start_of, read_limit, batch_after, queue_after, is_empty, marks_at, fresh_batch, partitions_for, log_may_fail, log_called, checkpoints_by, take_checkpoints, idle_by, idle_unless, read_by, read_given, step_read, batch_facts, stage_by, step_stage, upload_by, publish_by, publish_refused, step_place, step_indexer}
use Rattle.indexing_run.specs.Steps as indexing
use Rattle.indexing_run.proofs.Reading.{target_ranges}
use Rattle.indexing_run.specs.IndexAll.{AreAtEnds}

-- ---- what a batch knows of the checkpoints that it began with

abbrev pub AtEnd : Log → Mark → Type 0
AtEnd log mark = drop mark.at (records_of log mark.partition) ≡ []

pub record Watched (log : Log) (marks : List Mark) (batch : Batch) : Type 0 where
  pub none_read : batch.count ≡ 0 → (done : List Mark) × (marks ≡ done ++ batch.queue) × AllByRecursion (AtEnd log) done
  pub open_if : batch.queue ≡ [] → batch.closed ≡ true
  pub closed_if : batch.closed ≡ true → batch.count ≡ 0 → batch.queue ≡ []
  pub target : 0 < batch.config.docs_target

empty_nil : {X : Type 0} (xs : List X) → is_empty xs ≡ true → xs ≡ []
empty_nil [] e = refl
empty_nil (x ∷ xs) e = cc

fresh_watched : (config : IndexConfig) (log : Log) (marks : List Mark) → 0 < config.docs_target → Watched log marks (fresh_batch config marks)
fresh_watched config log marks target =
    record {
      none_read = λ none. ([], refl, tt);
      open_if = λ none. ap is_empty none;
      closed_if = λ closed none. empty_nil marks closed;
      target = target;
    }

-- ---- one read

with_more : (name : List ℕ) (offset : ℕ) (doc : Option (List DocField)) (taken : Taken) → (with_record name offset doc taken).count ≡ suc taken.count
with_more name offset None taken = refl
with_more name offset (Some doc) taken = refl

taken_on : (config : IndexConfig) (name : List ℕ) (offset : ℕ) (records : List (List ℕ)) (taken : Taken) → taken.count ≤ (taken_from config name offset records taken).count
taken_on config name offset [] taken = omega arith
taken_on config name offset (bytes ∷ more) taken = by taken.heavy (taken_on config name (suc offset) more (with_record name offset (accepted config bytes) taken))
  where
    one : (with_record name offset (accepted config bytes) taken).count ≡ suc taken.count
    one = with_more name offset (accepted config bytes) taken

    by : (b : Bool) → (with_record name offset (accepted config bytes) taken).count ≤ (taken_from config name (suc offset) more (with_record name offset (accepted config bytes) taken)).count →
        taken.count ≤ (if b then taken else taken_from config name (suc offset) more (with_record name offset (accepted config bytes) taken)).count
    by true rest = omega arith
    by false rest = omega (arith, one, rest)

-- of some records one is taken at least
pub taken_some : (config : IndexConfig) (name : List ℕ) (offset : ℕ) (bytes : List ℕ) (more : List (List ℕ)) (taken : Taken) → taken.heavy ≡ false → taken.count < (taken_from config name offset (bytes ∷ more) taken).count
taken_some config name offset bytes more taken light = by taken.heavy light
  where
    one : (with_record name offset (accepted config bytes) taken).count ≡ suc taken.count
    one = with_more name offset (accepted config bytes) taken

    rest : (with_record name offset (accepted config bytes) taken).count ≤ (taken_from config name (suc offset) more (with_record name offset (accepted config bytes) taken)).count
    rest = taken_on config name (suc offset) more (with_record name offset (accepted config bytes) taken)

    by : (b : Bool) → b ≡ false → taken.count < (if b then taken else taken_from config name (suc offset) more (with_record name offset (accepted config bytes) taken)).count
    by true e = cc
    by false e = omega (arith, one, rest)

-- a read of what stands behind a mark, at most so many records
module _ (log : Log) (marks : List Mark) (batch : Batch) (mark : Mark) (rest : List Mark) (queue_is : batch.queue ≡ mark ∷ rest) (w : Watched log marks batch) (now : ℕ) where
  -- where nothing is left to read the batch is closed
  closed_by : (taken : Taken) (q : List Mark) → q ≡ [] → indexing.is_closed batch.config q (batch.count + taken.count) taken.heavy (indexing.first_moment batch.first_read now) now ≡ true
  closed_by taken [] e = refl
  closed_by taken (x ∷ q) e = cc

  -- nothing stood behind it
  read_none : AtEnd log mark → Watched log marks (batch_after batch mark rest (start_of batch) true now)
  read_none at_end =
      record {
        none_read = λ none.
            let old = w.none_read (omega (arith, none)) in
            (old.0 ++ mark ∷ [], (old.1 ∙ ap (λ l. old.0 ++ l) queue_is) ∙ sym (append_assoc old.0 (mark ∷ []) rest), All-snoc (AtEnd log) old.0 mark old.2 at_end);
        open_if = λ none. closed_by (start_of batch) rest none;
        closed_if = λ closed none. empty_nil rest (only_empty (is_empty rest) (batch.count + 0) (omega (arith, none)) closed);
        target = w.target;
      }
    where
      no_target : (target : ℕ) → 0 < target → nat_le target 0 ≡ false
      no_target target some = grind (some, arith, nat_tests)

      only_empty : (b : Bool) (count : ℕ) → count ≡ 0 →
          (b || nat_le batch.config.docs_target count || false || (nat_lt 0 count && nat_le (indexing.first_moment batch.first_read now + batch.config.commit_timeout) now)) ≡ true → b ≡ true
      only_empty true count none e = refl
      only_empty false count none e =
          let e0 : (nat_le batch.config.docs_target 0 || false || (nat_lt 0 0 && nat_le (indexing.first_moment batch.first_read now + batch.config.commit_timeout) now)) ≡ true =
          subst (λ n. (nat_le batch.config.docs_target n || false || (nat_lt 0 n && nat_le (indexing.first_moment batch.first_read now + batch.config.commit_timeout) now)) ≡ true) none e in
          let f : false ≡ true = rw (no_target batch.config.docs_target w.target) at e0 in
          absurd cc

  -- something was read
  read_more : (taken : Taken) (at_end : Bool) → 0 < batch.count + taken.count → Watched log marks (batch_after batch mark rest taken at_end now)
  read_more taken at_end more =
      record {
        none_read = λ none. absurd (omega (arith, none, more));
        open_if = λ none. closed_by taken (queue_after at_end mark taken.count rest) none;
        closed_if = λ closed none. absurd (omega (arith, none, more));
        target = w.target;
      }

  read_by_records : (behind : List (List ℕ)) (limit : ℕ) → drop mark.at (records_of log mark.partition) ≡ behind → 0 < limit →
      Watched log marks (batch_after batch mark rest (taken_from batch.config mark.partition mark.at (take limit behind) (start_of batch)) (nat_le (length behind) limit) now)
  read_by_records [] limit at some =
      subst (λ t. Watched log marks (batch_after batch mark rest t (nat_le 0 limit) now)) (sym (none_of limit))
      (subst (λ b. Watched log marks (batch_after batch mark rest (start_of batch) b now)) (sym (none_more limit)) (read_none at))
    where
      none_more : (limit : ℕ) → nat_le 0 limit ≡ true
      none_more limit = grind (arith, nat_tests)

      none_of : (limit : ℕ) → taken_from batch.config mark.partition mark.at (take limit []) (start_of batch) ≡ start_of batch
      none_of zero = refl
      none_of (suc limit) = refl
  read_by_records (bytes ∷ more) zero at some = absurd (omega (arith, some))
  read_by_records (bytes ∷ more) (suc limit) at some =
      let taken = taken_from batch.config mark.partition mark.at (bytes ∷ take limit more) (start_of batch) in
      let one = taken_some batch.config mark.partition mark.at bytes (take limit more) (start_of batch) refl in
      read_more taken (nat_le (length (bytes ∷ more)) (suc limit)) (omega (arith, one))

-- ---- an indexer's step

-- the configuration of a core takes a record at least
target_some : (core : Core) → 0 < (config_or (configuration (journal_of core))).docs_target
target_some core = by (configuration (journal_of core)) refl
  where
    by : (o : Option IndexConfig) → configuration (journal_of core) ≡ o → 0 < (config_or o).docs_target
    by None e = omega arith
    by (Some config) e = (target_ranges core config e).0

-- it doesn't say that it caught up
abbrev pub IsBehind : Option IndexerOutcome → Type 0
IsBehind outcome = outcome ≡ Some CaughtUp → ⊥

-- where it reads, it has just taken the checkpoints of this core
abbrev pub HasBegun : Log → (names : List (List ℕ)) → Option IndexerOutcome → IndexerPlace → Core → Type 0
HasBegun log names outcome idle core = Unit {0}
HasBegun log names outcome (reading batch) core = (outcome ≡ Some Checkpoint) × Watched log (marks_at (checkpoints_of (history core.history)) names) batch
HasBegun log names outcome (staged held) core = Unit {0}
HasBegun log names outcome (uploaded held) core = Unit {0}

abbrev pub PlaceWatched : Log → List Mark → IndexerPlace → Type 0
PlaceWatched log marks idle = Unit {0}
PlaceWatched log marks (reading batch) = Watched log marks batch
PlaceWatched log marks (staged held) = Unit {0}
PlaceWatched log marks (uploaded held) = Unit {0}

-- a step of an idle indexer
pub record Begins (log : Log) (names : List (List ℕ)) (step : Stepped) : Type 0 where
  pub is_behind : IsBehind step.outcome
  pub place : HasBegun log names step.outcome step.indexer.place step.core

-- a step of a reading one
pub record GoesOn (log : Log) (marks : List Mark) (step : Stepped) : Type 0 where
  pub at_ends : step.outcome ≡ Some CaughtUp → AllByRecursion (AtEnd log) marks
  pub place : PlaceWatched log marks step.indexer.place

-- it reads no batch
abbrev pub ReadsNone : IndexerPlace → Type 0
ReadsNone idle = Unit {0}
ReadsNone (reading batch) = ⊥
ReadsNone (staged held) = Unit {0}
ReadsNone (uploaded held) = Unit {0}

-- a step of one that holds a number
pub record Leaves (step : Stepped) : Type 0 where
  pub is_behind : IsBehind step.outcome
  pub place : ReadsNone step.indexer.place

module _ (log : Log) where
  module _ (names : List (List ℕ)) where
    trouble_begins : (trouble : Trouble) (indexer : Indexer) (core : Core) → Begins log names (indexing.stepped (indexing.trouble_outcome trouble) idle indexer core)
    trouble_begins (faulted fault) indexer core = record { is_behind = λ e. cc; place = tt }
    trouble_begins no_memory indexer core = record { is_behind = λ e. cc; place = tt }

    checkpoints_begin : (r : Result ⊤ Trouble) (indexer : Indexer) (core : Core) → partitions_for indexer.assignment log ≡ names → Begins log names (checkpoints_by r log indexer core)
    checkpoints_begin (Ok done) indexer core same =
        let config = config_or (configuration (journal_of core)) in
        let marks = λ (of : List (List ℕ)). marks_at (checkpoints_of (history core.history)) of in
        let P : List (List ℕ) → Type 0 = λ of. Watched log (marks of) (fresh_batch config (marks (partitions_for indexer.assignment log))) in
        record { is_behind = λ e. cc; place = (refl, subst P same (fresh_watched config log (marks (partitions_for indexer.assignment log)) (target_some core))) }
    checkpoints_begin (Err trouble) indexer core same = trouble_begins trouble indexer core

    module _ (luck : indexing.IndexerLuck) (core : Core) where
      take_begins : (indexer : Indexer) → partitions_for indexer.assignment log ≡ names → Begins log names (take_checkpoints luck log indexer core)
      take_begins indexer same = checkpoints_begin (looked luck.world core).answer indexer (looked luck.world core).core same

      idle_begins : (b : Bool) (assigned : Option (List (List ℕ))) (indexer : Indexer) → partitions_for indexer.assignment log ≡ names → Begins log names (idle_by b assigned luck log indexer core)
      idle_begins true None indexer same = record { is_behind = λ e. cc; place = tt }
      idle_begins false None indexer same = take_begins (log_called luck.log indexer) same
      idle_begins true (Some names) indexer same = take_begins indexer same
      idle_begins false (Some names) indexer same = take_begins indexer same

      unless_begins : (b : Bool) (indexer : Indexer) → partitions_for indexer.assignment log ≡ names → Begins log names (idle_unless b luck log indexer core)
      unless_begins true indexer same = record { is_behind = λ e. cc; place = tt }
      unless_begins false indexer same = idle_begins (log_may_fail luck.log indexer.log_faults) indexer.assignment indexer same

      short_begins : (b : Bool) (step : Stepped) → Begins log names step → Begins log names (indexing.or_short b step)
      short_begins true step s = record { is_behind = λ e. cc; place = tt }
      short_begins false step s = s

      pub idle_step : (indexer : Indexer) → indexer.place ≡ idle → partitions_for indexer.assignment log ≡ names → Begins log names (step_indexer luck log indexer core)
      idle_step indexer is same =
          let P : IndexerPlace → Type 0 = λ place. Begins log names (indexing.or_short luck.short (step_place place luck log indexer core)) in
          subst P (sym is) (short_begins luck.short (step_place idle luck log indexer core) (unless_begins luck.log.short indexer same))

  module _ (marks : List Mark) where
    stays : (outcome : Option IndexerOutcome) (place : IndexerPlace) (indexer : Indexer) (core : Core) → IsBehind outcome → PlaceWatched log marks place → GoesOn log marks (indexing.stepped outcome place indexer core)
    stays outcome place indexer core behind w = record { at_ends = λ e. absurd (behind e); place = w }

    trouble_stays : (trouble : Trouble) (indexer : Indexer) (core : Core) → GoesOn log marks (indexing.stepped (indexing.trouble_outcome trouble) idle indexer core)
    trouble_stays (faulted fault) indexer core = stays (Some (Faulted fault)) idle indexer core (λ e. cc) tt
    trouble_stays no_memory indexer core = stays None idle indexer core (λ e. cc) tt

    module _ (luck : indexing.IndexerLuck) (core : Core) where
      read_limit_some : (batch : Batch) → 0 < batch.config.docs_target → batch.count < batch.config.docs_target → 0 < read_limit batch
      read_limit_some batch target room = omega (arith, target, room)

      watched_on : (batch : Batch) (mark : Mark) (rest : List Mark) (now : ℕ) → batch.queue ≡ mark ∷ rest → Watched log marks batch → (batch.count < batch.config.docs_target) ⊎ (batch.config.docs_target ≤ batch.count) →
          Watched log marks (batch_after batch mark rest (taken_from batch.config mark.partition mark.at (take (read_limit batch) (drop mark.at (records_of log mark.partition))) (start_of batch))
          (nat_le (length (drop mark.at (records_of log mark.partition))) (read_limit batch)) now)
      watched_on batch mark rest now queue_is w (inl room) =
          read_by_records log marks batch mark rest queue_is w now (drop mark.at (records_of log mark.partition)) (read_limit batch) refl (read_limit_some batch w.target room)
      watched_on batch mark rest now queue_is w (inr full) =
          let target = w.target in
          read_more log marks batch mark rest queue_is w now (taken_from batch.config mark.partition mark.at (take (read_limit batch) (drop mark.at (records_of log mark.partition))) (start_of batch))
          (nat_le (length (drop mark.at (records_of log mark.partition))) (read_limit batch)) (omega (arith, target, full))

      below_or : (a b : ℕ) → (a < b) ⊎ (b ≤ a)
      below_or zero zero = inr (omega arith)
      below_or zero (suc b) = inl (omega arith)
      below_or (suc a) zero = inr (omega arith)
      below_or (suc a) (suc b) = by (below_or a b)
        where
          by : (a < b) ⊎ (b ≤ a) → (suc a < suc b) ⊎ (suc b ≤ suc a)
          by (inl less) = inl (omega (arith, less))
          by (inr more) = inr (omega (arith, more))

      read_goes : (b : Bool) (batch : Batch) (mark : Mark) (rest : List Mark) (indexer : Indexer) (c : Core) → batch.queue ≡ mark ∷ rest → Watched log marks batch → GoesOn log marks (read_by b luck log batch mark rest indexer c)
      read_goes true batch mark rest indexer c queue_is w = stays (Some (SourceFault _ _)) (reading batch) (log_called luck.log indexer) c (λ e. cc) w
      read_goes false batch mark rest indexer c queue_is w =
          stays (Some (Read _)) (reading _) (log_called luck.log indexer) c (λ e. cc) (watched_on batch mark rest c.moment queue_is w (below_or batch.count batch.config.docs_target))

      given_goes : (r : Result ⊤ Trouble) (batch : Batch) (mark : Mark) (rest : List Mark) (indexer : Indexer) (c : Core) → batch.queue ≡ mark ∷ rest → Watched log marks batch →
          GoesOn log marks (read_given luck log batch mark rest indexer r c)
      given_goes (Err trouble) batch mark rest indexer c queue_is w = trouble_stays trouble indexer c
      given_goes (Ok done) batch mark rest indexer c queue_is w = read_goes (log_may_fail luck.log indexer.log_faults) batch mark rest indexer c queue_is w

      -- an open batch has a partition to read
      open_goes : (batch : Batch) (queue : List Mark) (indexer : Indexer) → batch.queue ≡ queue → batch.closed ≡ false → Watched log marks batch → GoesOn log marks (step_read luck log batch queue indexer core)
      open_goes batch [] indexer queue_is unclosed w = absurd (not_both batch.closed unclosed (w.open_if queue_is))
        where
          not_both : (b : Bool) → b ≡ false → b ≡ true → ⊥
          not_both b f t = cc
      open_goes batch (mark ∷ rest) indexer queue_is unclosed w = given_goes (asked luck.world core).answer batch mark rest indexer (asked luck.world core).core queue_is w

      stage_goes : (r : Result ⊤ Unmade) (batch : Batch) (indexer : Indexer) (c : Core) → GoesOn log marks (stage_by r batch indexer c)
      stage_goes (Ok done) batch indexer c = stays (Some (Staged _)) (staged _) indexer c (λ e. cc) tt
      stage_goes (Err (refused refusal)) batch indexer c = stays (Some (Refused refusal)) idle indexer c (λ e. cc) tt
      stage_goes (Err (troubled trouble)) batch indexer c = trouble_stays trouble indexer c

      count_goes : (b : Bool) (batch : Batch) (indexer : Indexer) → (batch.count == 0) ≡ b → batch.closed ≡ true → Watched log marks batch →
          GoesOn log marks (if b then indexing.stepped (Some CaughtUp) idle indexer core else step_stage luck batch indexer core)
      count_goes true batch indexer none closed w =
          let old = w.none_read (eqb-true batch.count 0 none) in
          let all_done = (old.1 ∙ ap (λ l. old.0 ++ l) (w.closed_if closed (eqb-true batch.count 0 none))) ∙ append-nil old.0 in
          record { at_ends = λ e. subst (AllByRecursion (AtEnd log)) (sym all_done) old.2; place = tt }
      count_goes false batch indexer some closed w = let given = stage_call batch.parts (batch_facts batch) luck.world core in stage_goes given.answer batch indexer given.core

      batch_goes : (b : Bool) (batch : Batch) (indexer : Indexer) → batch.closed ≡ b → Watched log marks batch →
          GoesOn log marks (if b then (if batch.count == 0 then indexing.stepped (Some CaughtUp) idle indexer core else step_stage luck batch indexer core) else step_read luck log batch batch.queue indexer core)
      batch_goes true batch indexer closed w = count_goes (batch.count == 0) batch indexer refl closed w
      batch_goes false batch indexer closed w = open_goes batch batch.queue indexer refl closed w

      short_goes : (b : Bool) (step : Stepped) → GoesOn log marks step → GoesOn log marks (indexing.or_short b step)
      short_goes true step s = record { at_ends = λ e. cc; place = tt }
      short_goes false step s = s

      pub reading_step : (indexer : Indexer) (batch : Batch) → indexer.place ≡ reading batch → Watched log marks batch → GoesOn log marks (step_indexer luck log indexer core)
      reading_step indexer batch is w =
          let P : IndexerPlace → Type 0 = λ place. GoesOn log marks (indexing.or_short luck.short (step_place place luck log indexer core)) in
          subst P (sym is) (short_goes luck.short (step_place (reading batch) luck log indexer core) (batch_goes batch.closed batch indexer refl w))

  module _ (luck : indexing.IndexerLuck) (core : Core) where
    leaves : (outcome : Option IndexerOutcome) (place : IndexerPlace) (indexer : Indexer) (c : Core) → IsBehind outcome → ReadsNone place → Leaves (indexing.stepped outcome place indexer c)
    leaves outcome place indexer c behind w = record { is_behind = behind; place = w }

    trouble_leaves : (trouble : Trouble) (indexer : Indexer) (c : Core) → Leaves (indexing.stepped (indexing.trouble_outcome trouble) idle indexer c)
    trouble_leaves (faulted fault) indexer c = leaves (Some (Faulted fault)) idle indexer c (λ e. cc) tt
    trouble_leaves no_memory indexer c = leaves None idle indexer c (λ e. cc) tt

    upload_leaves : (r : Result ⊤ Trouble) (held : IndexerHeld) (indexer : Indexer) (c : Core) → Leaves (upload_by r held indexer c)
    upload_leaves (Ok done) held indexer c = leaves (Some (Uploaded _)) (uploaded held) indexer c (λ e. cc) tt
    upload_leaves (Err trouble) held indexer c = trouble_leaves trouble indexer c

    stale_behind : (number : ℕ) (delta : StaleDelta) → IsBehind (Some (indexing.stale_or_lost number delta))
    stale_behind number (deltas.Stale partition current from) = λ e. cc
    stale_behind number (deltas.BackwardDelta partition) = λ e. cc
    stale_behind number (deltas.DoubledPartition partition) = λ e. cc

    refused_behind : (number : ℕ) (refusal : Refusal) → IsBehind (Some (publish_refused number refusal))
    refused_behind number (Delta fault) = stale_behind number fault
    refused_behind number (MomentBack given greatest) = λ e. cc
    refused_behind number NotCreated = λ e. cc
    refused_behind number AlreadyCreated = λ e. cc
    refused_behind number (BadConfig error) = λ e. cc
    refused_behind number (NotNext given next) = λ e. cc
    refused_behind number (State refusal) = λ e. cc
    refused_behind number (BadTask error) = λ e. cc
    refused_behind number (UptoAhead upto last) = λ e. cc
    refused_behind number (TooManyTasks count) = λ e. cc
    refused_behind number (TooManyRows count) = λ e. cc
    refused_behind number (TooManySpans count) = λ e. cc

    publish_leaves : (r : Result ⊤ Unmade) (held : IndexerHeld) (indexer : Indexer) (c : Core) → Leaves (publish_by r held indexer c)
    publish_leaves (Ok done) held indexer c = leaves (Some (Published _)) idle indexer c (λ e. cc) tt
    publish_leaves (Err (refused refusal)) held indexer c = leaves (Some (publish_refused held.number refusal)) idle indexer c (refused_behind held.number refusal) tt
    publish_leaves (Err (troubled trouble)) held indexer c = trouble_leaves trouble indexer c

    short_leaves : (b : Bool) (step : Stepped) → Leaves step → Leaves (indexing.or_short b step)
    short_leaves true step s = record { is_behind = λ e. cc; place = tt }
    short_leaves false step s = s

    pub staged_step : (indexer : Indexer) (held : IndexerHeld) → indexer.place ≡ staged held → Leaves (step_indexer luck log indexer core)
    staged_step indexer held is =
        let given = upload_made luck.world held.number (file_of held.config held.documents) core in
        let P : IndexerPlace → Type 0 = λ place. Leaves (indexing.or_short luck.short (step_place place luck log indexer core)) in
        subst P (sym is) (short_leaves luck.short (step_place (staged held) luck log indexer core) (upload_leaves given.answer held indexer given.core))

    pub uploaded_step : (indexer : Indexer) (held : IndexerHeld) → indexer.place ≡ uploaded held → Leaves (step_indexer luck log indexer core)
    uploaded_step indexer held is =
        let given = publish_call held.number luck.world core in
        let P : IndexerPlace → Type 0 = λ place. Leaves (indexing.or_short luck.short (step_place place luck log indexer core)) in
        subst P (sym is) (short_leaves luck.short (step_place (uploaded held) luck log indexer core) (publish_leaves given.answer held indexer given.core))

-- ---- in numbers

drop_none : {X : Type 0} (n : ℕ) (xs : List X) → drop n xs ≡ [] → length xs ≤ n
drop_none zero [] e = omega arith
drop_none zero (x ∷ xs) e = absurd (cons_nil x xs e)
  where
    cons_nil : {X : Type 0} (x : X) (xs : List X) → x ∷ xs ≡ [] → ⊥
    cons_nil x xs e = cc
drop_none (suc n) [] e = omega arith
drop_none (suc n) (x ∷ xs) e = let less = drop_none n xs e in omega (arith, less)

pub ends_of : (log : Log) (entries : List Entry) (names : List (List ℕ)) → AllByRecursion (AtEnd log) (marks_at (checkpoints_of (history entries)) names) → AreAtEnds log names entries
ends_of log entries [] all = tt
ends_of log entries (name ∷ names) all = (drop_none (checkpoint_at (checkpoints_of (history entries)) name) (records_of log name) all.0, ends_of log entries names all.1)
