-- An indexer says that it caught up exactly where the checkpoints that it saw are the ends of its partitions.
use Rattle.std.proofs.Common.{◌≡◌, ℕ, zero, suc, ◌≤◌, ◌<◌, ◌+◌, Bool, true, false, List, [], ◌∷◌, ◌++◌, length, take, drop, map, refl, sym, ap, ◌∙◌, subst, inl, inr, ◌⊎◌, append-nil, append_assoc, arith}
use Rattle.std.proofs.lemmas.Bool.{eqb-true}
use Rattle.std.proofs.lemmas.Bool.Decides.{nat_tests}
use Rattle.std.proofs.lemmas.List.{length-append, take-append-le, take_all}
use Rattle.std.specs.List.{AllByRecursion}
use Rattle.std.specs.Prelude.{Option, Some, None, Result, Ok, Err, ⊤, if◌then◌else◌, ◌==◌, ◌||◌, ◌&&◌, nat_le, nat_lt, slice_set}
use Rattle.meta_journal.specs.declared.entry.Entry.{Entry}
use Rattle.meta_store.specs.History.{history}
use Rattle.meta_store.specs.State.{checkpoints_of}
use Rattle.meta_store.specs.declared.refusal.Refusal.{Refusal}
use Rattle.meta_store.specs.declared.refusal.Refusal.TheVariants.{MomentBack, NotCreated, AlreadyCreated, BadConfig, NotNext, Delta, State, BadTask, UptoAhead, TooManyTasks, TooManyRows, TooManySpans}
use Rattle.source_checkpoint.specs.Checkpoints.{checkpoint_at}
use Rattle.source_checkpoint.specs.declared.delta.StaleDelta.{StaleDelta}
use Rattle.source_checkpoint.specs.declared.delta.StaleDelta.TheVariants as deltas
use Rattle.source_checkpoint.specs.declared.ledger.Checkpoint.{Checkpoint as Mark}
use Rattle.source_log.specs.Log.{Log, records_of}
use Rattle.doc_value.specs.declared.doc.DocField.{DocField}
use Rattle.index_config.specs.declared.config.IndexConfig.{IndexConfig}
use Rattle.index_world.specs.Accepted.{accepted}
use Rattle.index_world.specs.Configuration.{configuration, config_or}
use Rattle.index_world.specs.Calls.{Trouble, faulted, no_memory, Unmade, refused, troubled, Unread, not_read, looked, asked, upload_made}
use Rattle.index_world.specs.Calls as calls
use Rattle.index_world.specs.Core.{Core, journal_of}
use Rattle.index_world.specs.Gate.{stage_call, publish_call}
use Rattle.index_world.specs.SplitFile.{file_of}
use Rattle.index_world.proofs.StoreChanges.{All-snoc}
use Rattle.indexing_run.specs.Outcomes.{IndexerOutcome, Checkpoint, Read, Staged, Uploaded, Published, CaughtUp, Stale, Lost, Refused, SourceFault, Faulted}
use Rattle.indexing_run.specs.Places.{Batch, IndexerHeld, IndexerPlace, idle, reading, staged, uploaded, Indexer}
use Rattle.indexing_run.specs.Steps.{Stepped, Taken, with_record, taken_from, start_of, read_limit, batch_after, queue_after, is_empty, marks_at, fresh_batch, partitions_for, log_may_fail, log_called, checkpoints_by, take_checkpoints, idle_by, idle_unless, read_by, read_given, step_read, stage_by, step_stage, batch_facts, upload_by, publish_by, publish_refused, step_place, step_indexer}
use Rattle.indexing_run.specs.Steps as indexing
use Rattle.indexing_run.proofs.Reading.{target_ranges}
use Rattle.upkeep_run.specs.Outcomes.{UpkeepOutcome}
use Rattle.upkeep_run.specs.declared.work.Aim.{Aim}
use Rattle.upkeep_run.specs.declared.work.Aim.TheVariants.{Deleting, Merging}
use Rattle.node_run.specs.Node.{Node, Line, At, Assign, StepIndexer, RestartIndexer, RestartClient, StepMerger, RestartMerger, StepDeleter, RestartDeleter, StepCollector, RestartCollector, RestartNode, Open, StepClient, Outcome, indexer_said, assigned}
use Rattle.root_search.specs.Steps.{Request, no_request, opened, planned, Client}
use Rattle.root_search.specs.declared.outcome.SearchStep.{SearchStep}
use Rattle.split_collector.specs.Outcomes.{Outcome as CollectorOutcome}
use Rattle.call_laws.proofs.CallMoves.{Grows}
use Rattle.node_run.proofs.Moving.{turn_later, turns_later}
use Rattle.node_run.specs.Turns.{reader_of, said_by_client, said_by_collector, LineLuck, Turned, turned, indexer_at, with_indexer, made_idle, indexing_luck, said_by_indexer, assign_at, indexer_turn_by, client_turn_by, client_named, collector_turn_by, open_by, restart_by, full_turn, quiet, or_quiet, turn_by, Turn, Turns, said_by_worker, worker_turn_by, with_deleter, with_merger}
use Rattle.quick_node.specs.CaughtUp.{IfHere, Seen, unseen, after_said, after_line, AreEnds, SaidAtEnds, LineAtEnds, CatchesUp}
use Rattle.quick_node.specs.Serve.{IsPrefixOf, Before, End, by_reading, no_index, opening_failed, read_failed, write_failed, out_of_memory, IsFresh, Answers, Unopened, RanShort, Lives}
use Rattle.quick_node.proofs.NodeAtEnd.{opens_moves}
use Rattle.quick_node.proofs.Searching.{prefix_on}

-- ---- what a batch knows of the checkpoints that it began with

abbrev pub AtEnd : Log → Mark → Type 0
AtEnd log mark = drop mark.at (records_of log mark.partition) ≡ []

pub record Watched (log : Log) (marks : List Mark) (batch : Batch) : Type 0 where
  pub none_read : batch.count ≡ 0 → (done : List Mark) × (marks ≡ done ++ batch.queue) × AllByRecursion (AtEnd log) done
  pub some_read : 0 < batch.count → AllByRecursion (AtEnd log) marks → ⊥
  pub open_if : batch.queue ≡ [] → batch.closed ≡ true
  pub closed_if : batch.closed ≡ true → batch.count ≡ 0 → batch.queue ≡ []
  pub target : 0 < batch.config.docs_target

abbrev pub PlaceWatched : Log → List Mark → IndexerPlace → Type 0
PlaceWatched log marks idle = Unit {0}
PlaceWatched log marks (reading batch) = Watched log marks batch
PlaceWatched log marks (staged held) = Unit {0}
PlaceWatched log marks (uploaded held) = Unit {0}

empty_nil : {X : Type 0} (xs : List X) → is_empty xs ≡ true → xs ≡ []
empty_nil [] e = refl
empty_nil (x ∷ xs) e = cc

fresh_watched : (config : IndexConfig) (log : Log) (marks : List Mark) → 0 < config.docs_target → Watched log marks (fresh_batch config marks)
fresh_watched config log marks target =
    record {
      none_read = λ none. ([], refl, tt);
      some_read = λ some all. absurd (omega (arith, some));
      open_if = λ none. ap is_empty none;
      closed_if = λ closed none. empty_nil marks closed;
      target = target;
    }

-- ---- one read

with_more : (name : List ℕ) (offset : ℕ) (doc : Option (List DocField)) (taken : Taken) → (with_record name offset doc taken).count ≡ suc taken.count
with_more name offset None taken = refl
with_more name offset (Some doc) taken = refl

taken_on : (config : IndexConfig) (name : List ℕ) (offset : ℕ) (records : List (List ℕ)) (taken : Taken) → taken.count ≤ (taken_from config name offset records taken).count
taken_on config name offset [] taken = omega arith
taken_on config name offset (bytes ∷ more) taken = by taken.heavy (taken_on config name (suc offset) more (with_record name offset (accepted config bytes) taken))
  where
    one : (with_record name offset (accepted config bytes) taken).count ≡ suc taken.count
    one = with_more name offset (accepted config bytes) taken

    by : (b : Bool) → (with_record name offset (accepted config bytes) taken).count ≤ (taken_from config name (suc offset) more (with_record name offset (accepted config bytes) taken)).count →
        taken.count ≤ (if b then taken else taken_from config name (suc offset) more (with_record name offset (accepted config bytes) taken)).count
    by true rest = omega arith
    by false rest = omega (arith, one, rest)

-- of some records one is taken at least
taken_some : (config : IndexConfig) (name : List ℕ) (offset : ℕ) (bytes : List ℕ) (more : List (List ℕ)) (taken : Taken) → taken.heavy ≡ false → taken.count < (taken_from config name offset (bytes ∷ more) taken).count
taken_some config name offset bytes more taken light = by taken.heavy light
  where
    one : (with_record name offset (accepted config bytes) taken).count ≡ suc taken.count
    one = with_more name offset (accepted config bytes) taken

    rest : (with_record name offset (accepted config bytes) taken).count ≤ (taken_from config name (suc offset) more (with_record name offset (accepted config bytes) taken)).count
    rest = taken_on config name (suc offset) more (with_record name offset (accepted config bytes) taken)

    by : (b : Bool) → b ≡ false → taken.count < (if b then taken else taken_from config name (suc offset) more (with_record name offset (accepted config bytes) taken)).count
    by true e = cc
    by false e = omega (arith, one, rest)

All-last : {X : Type 0} (P : X → Type 0) (xs : List X) (x : X) (ys : List X) → AllByRecursion P (xs ++ x ∷ ys) → P x
All-last P [] x ys all = all.0
All-last P (y ∷ xs) x ys all = All-last P xs x ys all.1

-- a read of what stands behind a mark, at most so many records
module _ (log : Log) (marks : List Mark) (batch : Batch) (mark : Mark) (rest : List Mark) (queue_is : batch.queue ≡ mark ∷ rest) (w : Watched log marks batch) (now : ℕ) where
  -- where nothing is left to read the batch is closed
  closed_by : (taken : Taken) (q : List Mark) → q ≡ [] → indexing.is_closed batch.config q (batch.count + taken.count) taken.heavy (indexing.first_moment batch.first_read now) now ≡ true
  closed_by taken [] e = refl
  closed_by taken (x ∷ q) e = cc

  -- nothing stood behind it
  read_none : AtEnd log mark → Watched log marks (batch_after batch mark rest (start_of batch) true now)
  read_none at_end =
      record {
        none_read = λ none.
            let old = w.none_read (omega (arith, none)) in
            (old.0 ++ mark ∷ [], (old.1 ∙ ap (λ l. old.0 ++ l) queue_is) ∙ sym (append_assoc old.0 (mark ∷ []) rest), All-snoc (AtEnd log) old.0 mark old.2 at_end);
        some_read = λ some. w.some_read (omega (arith, some));
        open_if = λ none. closed_by (start_of batch) rest none;
        closed_if = λ closed none. empty_nil rest (only_empty (is_empty rest) (batch.count + 0) (omega (arith, none)) closed);
        target = w.target;
      }
    where
      no_target : (target : ℕ) → 0 < target → nat_le target 0 ≡ false
      no_target target some = grind (some, arith, nat_tests)

      only_empty : (b : Bool) (count : ℕ) → count ≡ 0 →
          (b || nat_le batch.config.docs_target count || false || (nat_lt 0 count && nat_le (indexing.first_moment batch.first_read now + batch.config.commit_timeout) now)) ≡ true → b ≡ true
      only_empty true count none e = refl
      only_empty false count none e =
          let e0 : (nat_le batch.config.docs_target 0 || false || (nat_lt 0 0 && nat_le (indexing.first_moment batch.first_read now + batch.config.commit_timeout) now)) ≡ true =
          subst (λ n. (nat_le batch.config.docs_target n || false || (nat_lt 0 n && nat_le (indexing.first_moment batch.first_read now + batch.config.commit_timeout) now)) ≡ true) none e in
          let f : false ≡ true = rw (no_target batch.config.docs_target w.target) at e0 in
          absurd cc

  -- something was read before
  read_more : (taken : Taken) (at_end : Bool) → 0 < batch.count → Watched log marks (batch_after batch mark rest taken at_end now)
  read_more taken at_end more =
      record {
        none_read = λ none. absurd (omega (arith, none, more));
        some_read = λ some. w.some_read more;
        open_if = λ none. closed_by taken (queue_after at_end mark taken.count rest) none;
        closed_if = λ closed none. absurd (omega (arith, none, more));
        target = w.target;
      }

  -- some stood behind it, the first that was read
  read_some : (taken : Taken) (at_end : Bool) → batch.count ≡ 0 → 0 < taken.count → (AtEnd log mark → ⊥) → Watched log marks (batch_after batch mark rest taken at_end now)
  read_some taken at_end first some behind =
      record {
        none_read = λ none. absurd (omega (arith, none, some));
        some_read = λ more all.
            let old = w.none_read first in
            behind (All-last (AtEnd log) old.0 mark rest (subst (AllByRecursion (AtEnd log)) (old.1 ∙ ap (λ l. old.0 ++ l) queue_is) all));
        open_if = λ none. closed_by taken (queue_after at_end mark taken.count rest) none;
        closed_if = λ closed none. absurd (omega (arith, none, some));
        target = w.target;
      }

  read_by_records : (behind : List (List ℕ)) (limit : ℕ) → drop mark.at (records_of log mark.partition) ≡ behind → batch.count ≡ 0 → 0 < limit →
      Watched log marks (batch_after batch mark rest (taken_from batch.config mark.partition mark.at (take limit behind) (start_of batch)) (nat_le (length behind) limit) now)
  read_by_records [] limit at first some =
      subst (λ t. Watched log marks (batch_after batch mark rest t (nat_le 0 limit) now)) (sym (none_of limit))
      (subst (λ b. Watched log marks (batch_after batch mark rest (start_of batch) b now)) (sym (none_more limit)) (read_none at))
    where
      none_more : (limit : ℕ) → nat_le 0 limit ≡ true
      none_more limit = grind (arith, nat_tests)

      none_of : (limit : ℕ) → taken_from batch.config mark.partition mark.at (take limit []) (start_of batch) ≡ start_of batch
      none_of zero = refl
      none_of (suc limit) = refl
  read_by_records (bytes ∷ more) zero at first some = absurd (omega (arith, some))
  read_by_records (bytes ∷ more) (suc limit) at first some =
      read_some (taken_from batch.config mark.partition mark.at (bytes ∷ take limit more) (start_of batch)) (nat_le (length (bytes ∷ more)) (suc limit)) first
      (taken_some batch.config mark.partition mark.at bytes (take limit more) (start_of batch) refl) (λ none. cons_nil bytes more (sym at ∙ none))
    where
      cons_nil : (x : List ℕ) (xs : List (List ℕ)) → x ∷ xs ≡ [] → ⊥
      cons_nil x xs e = cc

-- ---- an indexer's step

-- the configuration of a core takes a record at least
target_some : (core : Core) → 0 < (config_or (configuration (journal_of core))).docs_target
target_some core = by (configuration (journal_of core)) refl
  where
    by : (o : Option IndexConfig) → configuration (journal_of core) ≡ o → 0 < (config_or o).docs_target
    by None e = omega arith
    by (Some config) e = (target_ranges core config e).0

some_same : {X : Type 0} (x y : X) → Some x ≡ Some y → x ≡ y
some_same x y e = cc

none_some : {X : Type 0} (x : X) → None ≡ Some x → ⊥
none_some x e = cc

module _ (exit : List Entry) (log : Log) (seen : Seen) where
  abbrev marks_of : Seen → List Mark
  marks_of s = marks_at (checkpoints_of (history (take s.revision exit))) s.names

  ends_of : (names : List (List ℕ)) (marks : List Mark) → AllByRecursion (AtEnd log) (marks_at marks names) →
      AllByRecursion (λ name. drop (checkpoint_at marks name) (records_of log name) ≡ []) names
  ends_of [] marks all = tt
  ends_of (name ∷ names) marks all = (all.0, ends_of names marks all.1)

  ends_to : (names : List (List ℕ)) (marks : List Mark) → AllByRecursion (λ name. drop (checkpoint_at marks name) (records_of log name) ≡ []) names →
      AllByRecursion (AtEnd log) (marks_at marks names)
  ends_to [] marks all = tt
  ends_to (name ∷ names) marks all = (all.0, ends_to names marks all.1)

  not_ends : (batch : Batch) → Watched log (marks_of seen) batch → (batch.count ≡ 0 → ⊥) → AreEnds exit log seen → ⊥
  not_ends batch w some ends = w.some_read (by batch.count some) (ends_to seen.names (checkpoints_of (history (take seen.revision exit))) ends)
    where
      by : (n : ℕ) → (n ≡ 0 → ⊥) → 0 < n
      by zero f = absurd (f refl)
      by (suc n) f = omega arith

  -- what a step of the indexer says and leaves
  record Did (o : IndexerOutcome) (place : IndexerPlace) (assignment : Option (List (List ℕ))) (core : Core) : Type 0 where
    says : SaidAtEnds exit log seen o
    place_is : PlaceWatched log (marks_of (after_said log (length core.history) seen o)) place
    assignment_is : assignment ≡ seen.assignment

  abbrev Steps : Stepped → Type 0
  Steps step = (o : IndexerOutcome) → step.outcome ≡ Some o → IsPrefixOf step.core.history exit → Did o step.indexer.place step.indexer.assignment step.core

  said : (o : IndexerOutcome) (place : IndexerPlace) (indexer : Indexer) (core : Core) → (IsPrefixOf core.history exit → Did o place indexer.assignment core) →
      Steps (indexing.stepped (Some o) place indexer core)
  said o place indexer core d o' e p = subst (λ x. Did x place indexer.assignment core) (some_same o o' e) (d p)

  unsaid : (place : IndexerPlace) (indexer : Indexer) (core : Core) → Steps (indexing.stepped None place indexer core)
  unsaid place indexer core o e p = absurd (none_some o e)

  front_taken : (h : List Entry) → IsPrefixOf h exit → take (length h) exit ≡ h
  front_taken h p = ap (take (length h)) p.1 ∙ take-append-le (length h) h p.0 (omega arith) ∙ take_all (length h) h (omega arith)

  module _ (luck : indexing.IndexerLuck) (core : Core) where
    trouble_steps : (trouble : Trouble) (indexer : Indexer) (c : Core) → indexer.assignment ≡ seen.assignment → Steps (indexing.stepped (indexing.trouble_outcome trouble) idle indexer c)
    trouble_steps (faulted fault) indexer c same = said (Faulted fault) idle indexer c (λ p. record { says = tt; place_is = tt; assignment_is = same })
    trouble_steps no_memory indexer c same = unsaid idle indexer c

    checkpoints_step : (r : Result ⊤ Trouble) (indexer : Indexer) (c : Core) → indexer.assignment ≡ seen.assignment → Steps (checkpoints_by r log indexer c)
    checkpoints_step (Ok done) indexer c same =
        said Checkpoint (reading (fresh_batch config marks)) indexer c
        (λ p. record { says = tt; place_is = subst (λ ms. Watched log ms (fresh_batch config marks)) (are p) (fresh_watched config log marks (target_some c)); assignment_is = same })
      where
        config : IndexConfig
        config = config_or (configuration (journal_of c))

        marks : List Mark
        marks = marks_at (checkpoints_of (history c.history)) (partitions_for indexer.assignment log)

        are : IsPrefixOf c.history exit → marks ≡ marks_of (record seen { names = partitions_for seen.assignment log; revision = length c.history })
        are p =
            ap (λ es. marks_at (checkpoints_of (history es)) (partitions_for indexer.assignment log)) (sym (front_taken c.history p))
            ∙ ap (λ a. marks_at (checkpoints_of (history (take (length c.history) exit))) (partitions_for a log)) same
    checkpoints_step (Err trouble) indexer c same = trouble_steps trouble indexer c same

    take_step : (indexer : Indexer) → indexer.assignment ≡ seen.assignment → Steps (take_checkpoints luck log indexer core)
    take_step indexer same = checkpoints_step (looked luck.world core).answer indexer (looked luck.world core).core same

    idle_step : (b : Bool) (names : Option (List (List ℕ))) (indexer : Indexer) → indexer.assignment ≡ seen.assignment → Steps (idle_by b names luck log indexer core)
    idle_step true None indexer same = said _ idle (log_called luck.log indexer) core (λ p. record { says = tt; place_is = tt; assignment_is = same })
    idle_step false None indexer same = take_step (log_called luck.log indexer) same
    idle_step true (Some names) indexer same = take_step indexer same
    idle_step false (Some names) indexer same = take_step indexer same

    unless_step : (b : Bool) (indexer : Indexer) → indexer.assignment ≡ seen.assignment → Steps (idle_unless b luck log indexer core)
    unless_step true indexer same = unsaid idle (log_called luck.log indexer) core
    unless_step false indexer same = idle_step (log_may_fail luck.log indexer.log_faults) indexer.assignment indexer same

    limit_some : (batch : Batch) → batch.count ≡ 0 → 0 < batch.config.docs_target → 0 < read_limit batch
    limit_some batch e target = omega (arith, e, target)

    zero_or : (n : ℕ) → (n ≡ 0) ⊎ (0 < n)
    zero_or zero = inl refl
    zero_or (suc n) = inr (omega arith)

    read_watched : (batch : Batch) (mark : Mark) (rest : List Mark) (now : ℕ) → batch.queue ≡ mark ∷ rest → Watched log (marks_of seen) batch → (batch.count ≡ 0) ⊎ (0 < batch.count) →
        Watched log (marks_of seen) (batch_after batch mark rest (taken_from batch.config mark.partition mark.at (take (read_limit batch) (drop mark.at (records_of log mark.partition))) (start_of batch))
        (nat_le (length (drop mark.at (records_of log mark.partition))) (read_limit batch)) now)
    read_watched batch mark rest now queue_is w (inl none) =
        read_by_records log (marks_of seen) batch mark rest queue_is w now (drop mark.at (records_of log mark.partition)) (read_limit batch) refl none (limit_some batch none w.target)
    read_watched batch mark rest now queue_is w (inr more) = read_more log (marks_of seen) batch mark rest queue_is w now
        (taken_from batch.config mark.partition mark.at (take (read_limit batch) (drop mark.at (records_of log mark.partition))) (start_of batch))
        (nat_le (length (drop mark.at (records_of log mark.partition))) (read_limit batch)) more

    read_step : (b : Bool) (batch : Batch) (mark : Mark) (rest : List Mark) (indexer : Indexer) (c : Core) → batch.queue ≡ mark ∷ rest →
        Watched log (marks_of seen) batch → indexer.assignment ≡ seen.assignment → Steps (read_by b luck log batch mark rest indexer c)
    read_step true batch mark rest indexer c queue_is w same =
        said _ (reading batch) (log_called luck.log indexer) c (λ p. record { says = tt; place_is = w; assignment_is = same })
    read_step false batch mark rest indexer c queue_is w same =
        said _ (reading _) (log_called luck.log indexer) c
        (λ p. record { says = tt; place_is = read_watched batch mark rest c.moment queue_is w (zero_or batch.count); assignment_is = same })

    given_step : (r : Result ⊤ Trouble) (batch : Batch) (mark : Mark) (rest : List Mark) (indexer : Indexer) (c : Core) → batch.queue ≡ mark ∷ rest →
        Watched log (marks_of seen) batch → indexer.assignment ≡ seen.assignment → Steps (read_given luck log batch mark rest indexer r c)
    given_step (Err trouble) batch mark rest indexer c queue_is w same = trouble_steps trouble indexer c same
    given_step (Ok done) batch mark rest indexer c queue_is w same =
        read_step (log_may_fail luck.log indexer.log_faults) batch mark rest indexer c queue_is w same

    -- an open batch has a partition to read
    open_step : (batch : Batch) (queue : List Mark) (indexer : Indexer) → batch.queue ≡ queue → batch.closed ≡ false → Watched log (marks_of seen) batch →
        indexer.assignment ≡ seen.assignment → Steps (step_read luck log batch queue indexer core)
    open_step batch [] indexer queue_is unclosed w same = absurd (not_both batch.closed unclosed (w.open_if queue_is))
      where
        not_both : (b : Bool) → b ≡ false → b ≡ true → ⊥
        not_both b f t = cc
    open_step batch (mark ∷ rest) indexer queue_is unclosed w same =
        given_step (asked luck.world core).answer batch mark rest indexer (asked luck.world core).core queue_is w same

    stage_steps : (r : Result ⊤ Unmade) (batch : Batch) (indexer : Indexer) (c : Core) → (AreEnds exit log seen → ⊥) → indexer.assignment ≡ seen.assignment →
        Steps (stage_by r batch indexer c)
    stage_steps (Ok done) batch indexer c not same = said _ (staged _) indexer c (λ p. record { says = not; place_is = tt; assignment_is = same })
    stage_steps (Err (refused refusal)) batch indexer c not same = said (Refused refusal) idle indexer c (λ p. record { says = not; place_is = tt; assignment_is = same })
    stage_steps (Err (troubled trouble)) batch indexer c not same = trouble_steps trouble indexer c same

    upload_steps : (r : Result ⊤ Trouble) (held : IndexerHeld) (indexer : Indexer) (c : Core) → indexer.assignment ≡ seen.assignment → Steps (upload_by r held indexer c)
    upload_steps (Ok done) held indexer c same = said _ (uploaded held) indexer c (λ p. record { says = tt; place_is = tt; assignment_is = same })
    upload_steps (Err trouble) held indexer c same = trouble_steps trouble indexer c same

    stale_says : (number : ℕ) (delta : StaleDelta) → SaidAtEnds exit log seen (indexing.stale_or_lost number delta)
    stale_says number (deltas.Stale partition current from) = tt
    stale_says number (deltas.BackwardDelta partition) = tt
    stale_says number (deltas.DoubledPartition partition) = tt

    refused_says : (number : ℕ) (refusal : Refusal) → SaidAtEnds exit log seen (publish_refused number refusal)
    refused_says number (Delta fault) = stale_says number fault
    refused_says number (MomentBack given greatest) = tt
    refused_says number NotCreated = tt
    refused_says number AlreadyCreated = tt
    refused_says number (BadConfig error) = tt
    refused_says number (NotNext given next) = tt
    refused_says number (State refusal) = tt
    refused_says number (BadTask error) = tt
    refused_says number (UptoAhead upto last) = tt
    refused_says number (TooManyTasks count) = tt
    refused_says number (TooManyRows count) = tt
    refused_says number (TooManySpans count) = tt

    publish_steps : (r : Result ⊤ Unmade) (held : IndexerHeld) (indexer : Indexer) (c : Core) → indexer.assignment ≡ seen.assignment → Steps (publish_by r held indexer c)
    publish_steps (Ok done) held indexer c same = said _ idle indexer c (λ p. record { says = tt; place_is = tt; assignment_is = same })
    publish_steps (Err (refused refusal)) held indexer c same =
        said (publish_refused held.number refusal) idle indexer c (λ p. record { says = refused_says held.number refusal; place_is = tt; assignment_is = same })
    publish_steps (Err (troubled trouble)) held indexer c same = trouble_steps trouble indexer c same

    caught_up : (batch : Batch) → Watched log (marks_of seen) batch → batch.closed ≡ true → batch.count ≡ 0 → AreEnds exit log seen
    caught_up batch w closed none =
        let old = w.none_read none in
        ends_of seen.names (checkpoints_of (history (take seen.revision exit)))
        (subst (AllByRecursion (AtEnd log)) (sym (old.1 ∙ ap (λ l. old.0 ++ l) (w.closed_if closed none) ∙ append-nil old.0)) old.2)

    count_by : (b : Bool) (batch : Batch) (indexer : Indexer) → (batch.count == 0) ≡ b → batch.closed ≡ true → Watched log (marks_of seen) batch → indexer.assignment ≡ seen.assignment →
        Steps (if b then indexing.stepped (Some CaughtUp) idle indexer core else step_stage luck batch indexer core)
    count_by true batch indexer none closed w same =
        said CaughtUp idle indexer core (λ p. record { says = caught_up batch w closed (eqb-true batch.count 0 none); place_is = tt; assignment_is = same })
    count_by false batch indexer some closed w same =
        let given = stage_call batch.parts (batch_facts batch) luck.world core in
        stage_steps given.answer batch indexer given.core (not_ends batch w (λ none. not_zero batch.count none some)) same
      where
        not_zero : (n : ℕ) → n ≡ 0 → (n == 0) ≡ false → ⊥
        not_zero zero e f = cc
        not_zero (suc n) e f = omega (arith, e)

    closed_by_step : (b : Bool) (batch : Batch) (indexer : Indexer) → batch.closed ≡ b → Watched log (marks_of seen) batch → indexer.assignment ≡ seen.assignment →
        Steps (if b then (if batch.count == 0 then indexing.stepped (Some CaughtUp) idle indexer core else step_stage luck batch indexer core)
        else step_read luck log batch batch.queue indexer core)
    closed_by_step true batch indexer closed w same = count_by (batch.count == 0) batch indexer refl closed w same
    closed_by_step false batch indexer closed w same = open_step batch batch.queue indexer refl closed w same

    place_step : (place : IndexerPlace) (indexer : Indexer) → PlaceWatched log (marks_of seen) place → indexer.assignment ≡ seen.assignment → Steps (step_place place luck log indexer core)
    place_step idle indexer w same = unless_step luck.log.short indexer same
    place_step (reading batch) indexer w same = closed_by_step batch.closed batch indexer refl w same
    place_step (staged held) indexer w same =
        let given = upload_made luck.world held.number (file_of held.config held.documents) core in upload_steps given.answer held indexer given.core same
    place_step (uploaded held) indexer w same =
        let given = publish_call held.number luck.world core in publish_steps given.answer held indexer given.core same

    short_step : (b : Bool) (step : Stepped) → Steps step → Steps (indexing.or_short b step)
    short_step true step s o e p = absurd (none_some o e)
    short_step false step s o e p = s o e p

    indexer_step : (indexer : Indexer) → PlaceWatched log (marks_of seen) indexer.place → indexer.assignment ≡ seen.assignment → Steps (step_indexer luck log indexer core)
    indexer_step indexer w same = short_step luck.short (step_place indexer.place luck log indexer core) (place_step indexer.place indexer w same)

-- ---- a line

-- what is known of the indexer with this number agrees with the node
pub record Watches (exit : List Entry) (log : Log) (i : ℕ) (seen : Seen) (indexers : List Indexer) : Type 0 where
  pub within : i < length indexers
  pub assignment_is : (indexer_at indexers i).assignment ≡ seen.assignment
  pub place_is : PlaceWatched log (marks_at (checkpoints_of (history (take seen.revision exit))) seen.names) (indexer_at indexers i).place

at_other : (xs : List Indexer) (j i : ℕ) (x : Indexer) → (j == i) ≡ false → indexer_at (slice_set xs j x) i ≡ indexer_at xs i
at_other [] j i x e = refl
at_other (y ∷ xs) zero zero x e = cc
at_other (y ∷ xs) zero (suc i) x e = refl
at_other (y ∷ xs) (suc j) zero x e = refl
at_other (y ∷ xs) (suc j) (suc i) x e = at_other xs j i x (apart j i e)
  where
    apart : (j i : ℕ) → (suc j == suc i) ≡ false → (j == i) ≡ false
    apart j i e = grind (e, arith, nat_tests)

at_same : (xs : List Indexer) (i : ℕ) (x : Indexer) → i < length xs → indexer_at (slice_set xs i x) i ≡ x
at_same [] i x h = absurd (omega (arith, h))
at_same (y ∷ xs) zero x h = refl
at_same (y ∷ xs) (suc i) x h = at_same xs i x (omega (arith, h))

set_long : (xs : List Indexer) (i : ℕ) (x : Indexer) → length (slice_set xs i x) ≡ length xs
set_long [] i x = refl
set_long (y ∷ xs) zero x = refl
set_long (y ∷ xs) (suc i) x = ap suc (set_long xs i x)

at_idle : (xs : List Indexer) (i : ℕ) → indexer_at (map made_idle xs) i ≡ made_idle (indexer_at xs i)
at_idle [] i = refl
at_idle (x ∷ xs) zero = refl
at_idle (x ∷ xs) (suc i) = at_idle xs i

map_long : (xs : List Indexer) → length (map made_idle xs) ≡ length xs
map_long [] = refl
map_long (x ∷ xs) = ap suc (map_long xs)

module _ (exit : List Entry) (log : Log) (i : ℕ) (seen : Seen) where
  -- another indexer changed
  other_watches : (indexers : List Indexer) (j : ℕ) (x : Indexer) → (j == i) ≡ false → Watches exit log i seen indexers → Watches exit log i seen (slice_set indexers j x)
  other_watches indexers j x e w =
      let same = at_other indexers j i x e in
      record {
        within = subst (λ n. i < n) (sym (set_long indexers j x)) w.within;
        assignment_is = ap (λ y. y.assignment) same ∙ w.assignment_is;
        place_is = subst (λ y. PlaceWatched log (marks_at (checkpoints_of (history (take seen.revision exit))) seen.names) y.place) (sym same) w.place_is;
      }

  -- this one did
  this_watches : (indexers : List Indexer) (x : Indexer) (new : Seen) → i < length indexers → x.assignment ≡ new.assignment →
      PlaceWatched log (marks_at (checkpoints_of (history (take new.revision exit))) new.names) x.place → Watches exit log i new (slice_set indexers i x)
  this_watches indexers x new within assignment place =
      let same = at_same indexers i x within in
      record {
        within = subst (λ n. i < n) (sym (set_long indexers i x)) within;
        assignment_is = ap (λ y. y.assignment) same ∙ assignment;
        place_is = subst (λ y. PlaceWatched log (marks_at (checkpoints_of (history (take new.revision exit))) new.names) y.place) (sym same) place;
      }

  idle_watches : (indexers : List Indexer) → Watches exit log i seen indexers → Watches exit log i seen (map made_idle indexers)
  idle_watches indexers w =
      let same = at_idle indexers i in
      record {
        within = subst (λ n. i < n) (sym (map_long indexers)) w.within;
        assignment_is = ap (λ y. y.assignment) same ∙ w.assignment_is;
        place_is = subst (λ y. PlaceWatched log (marks_at (checkpoints_of (history (take seen.revision exit))) seen.names) y.place) (sym same) tt;
      }

  -- what a line says and leaves
  record Line_did (line : Line) (o : Outcome) (new : Node) : Type 0 where
    says : LineAtEnds exit log i seen line o
    log_is : new.log ≡ log
    watches : Watches exit log i (after_line log i (length new.core.history) seen line o) new.indexers

  abbrev TurnDid : Line → Turned → Type 0
  TurnDid line turn = (o : Outcome) → turn.said ≡ Some o → IsPrefixOf turn.node.core.history exit → Line_did line o turn.node

  module _ (node : Node) (log_is : node.log ≡ log) (w : Watches exit log i seen node.indexers) where
    said_did : (line : Line) (o : Outcome) (new : Node) → (IsPrefixOf new.core.history exit → Line_did line o new) → TurnDid line (turned o new)
    said_did line o new d o' e p = subst (λ x. Line_did line x new) (some_same o o' e) (d p)

    unsaid_did : (line : Line) (new : Node) → TurnDid line (record { said = None; node = new })
    unsaid_did line new o e p = absurd (none_some o e)

    step_did : (j : ℕ) (step : Stepped) → ((j == i) ≡ true → Steps exit log seen step) → (o : IndexerOutcome) → step.outcome ≡ Some o → IsPrefixOf step.core.history exit → (b : Bool) → (j == i) ≡ b →
        Line_did (StepIndexer j) (indexer_said j o) (record (with_indexer j step.indexer node) { core = step.core })
    step_did j step steps o e p true is =
        let d = steps is o e p in
        let new : Seen = after_said log (length step.core.history) seen o in
        record {
          says = subst (λ b. IfHere b (SaidAtEnds exit log seen o)) (sym is) d.says;
          log_is = log_is;
          watches = subst (λ b. Watches exit log i (if b then new else seen) (slice_set node.indexers j step.indexer)) (sym is)
              (subst (λ k. Watches exit log i new (slice_set node.indexers k step.indexer)) (sym (eqb-true j i is))
              (this_watches node.indexers step.indexer new w.within (d.assignment_is ∙ sym (same_assignment o)) d.place_is));
        }
      where
        same_assignment : (o : IndexerOutcome) → (after_said log (length step.core.history) seen o).assignment ≡ seen.assignment
        same_assignment Checkpoint = refl
        same_assignment (Read count) = refl
        same_assignment (Staged number) = refl
        same_assignment (Uploaded number) = refl
        same_assignment (Published number) = refl
        same_assignment CaughtUp = refl
        same_assignment (Stale partition current from) = refl
        same_assignment (Lost number refusal) = refl
        same_assignment (Refused refusal) = refl
        same_assignment (SourceFault before after) = refl
        same_assignment (Faulted fault) = refl
    step_did j step steps o e p false is =
        record {
          says = subst (λ b. IfHere b (SaidAtEnds exit log seen o)) (sym is) tt;
          log_is = log_is;
          watches = subst (λ b. Watches exit log i (if b then after_said log (length step.core.history) seen o else seen) (slice_set node.indexers j step.indexer)) (sym is)
              (other_watches node.indexers j step.indexer is w);
        }

    stepped_did : (j : ℕ) (step : Stepped) (said : Option IndexerOutcome) → step.outcome ≡ said → ((j == i) ≡ true → Steps exit log seen step) →
        TurnDid (StepIndexer j) (record { said = said_by_indexer j said; node = record (with_indexer j step.indexer node) { core = step.core } })
    stepped_did j step None e steps = unsaid_did (StepIndexer j) _
    stepped_did j step (Some o) e steps = said_did (StepIndexer j) (indexer_said j o) _ (λ p. step_did j step steps o e p (j == i) refl)

    indexer_did : (down : Bool) (luck : LineLuck) (j : ℕ) → TurnDid (StepIndexer j) (indexer_turn_by down luck j node)
    indexer_did true luck j = said_did (StepIndexer j) _ node (λ p. record { says = tt; log_is = log_is; watches = w })
    indexer_did false luck j =
        let step = step_indexer (indexing_luck luck) node.log (indexer_at node.indexers j) node.core in
        stepped_did j step step.outcome refl
        (λ is. subst (λ l. Steps exit log seen (step_indexer (indexing_luck luck) l (indexer_at node.indexers j) node.core)) (sym log_is)
        (indexer_step exit log seen (indexing_luck luck) node.core (indexer_at node.indexers j)
        (subst (λ k. PlaceWatched log (marks_of exit log seen seen) (indexer_at node.indexers k).place) (sym (eqb-true j i is)) w.place_is)
        (subst (λ k. (indexer_at node.indexers k).assignment ≡ seen.assignment) (sym (eqb-true j i is)) w.assignment_is)))

    assigned_did : (j : ℕ) (names : List (List ℕ)) (b : Bool) → (j == i) ≡ b →
        Line_did (Assign j names) (assigned j (length names)) (with_indexer j (record (indexer_at node.indexers j) { assignment = Some names }) node)
    assigned_did j names true is =
        let x : Indexer = record (indexer_at node.indexers j) { assignment = Some names } in
        let new : Seen = record seen { assignment = Some names } in
        record {
          says = tt;
          log_is = log_is;
          watches = subst (λ b. Watches exit log i (if b then new else seen) (slice_set node.indexers j x)) (sym is)
              (subst (λ k. Watches exit log i new (slice_set node.indexers k x)) (sym (eqb-true j i is))
              (this_watches node.indexers x new w.within refl (subst (λ k. PlaceWatched log (marks_of exit log seen seen) (indexer_at node.indexers k).place) (sym (eqb-true j i is)) w.place_is)));
        }
    assigned_did j names false is =
        let x : Indexer = record (indexer_at node.indexers j) { assignment = Some names } in
        record {
          says = tt;
          log_is = log_is;
          watches = subst (λ b. Watches exit log i (if b then record seen { assignment = Some names } else seen) (slice_set node.indexers j x)) (sym is) (other_watches node.indexers j x is w);
        }

    assign_did : (place : IndexerPlace) (j : ℕ) (names : List (List ℕ)) → TurnDid (Assign j names) (assign_at place j names (indexer_at node.indexers j) node)
    assign_did idle j names = said_did (Assign j names) _ _ (λ p. assigned_did j names (j == i) refl)
    assign_did (reading batch) j names = said_did (Assign j names) _ node (λ p. record { says = tt; log_is = log_is; watches = w })
    assign_did (staged held) j names = said_did (Assign j names) _ node (λ p. record { says = tt; log_is = log_is; watches = w })
    assign_did (uploaded held) j names = said_did (Assign j names) _ node (λ p. record { says = tt; log_is = log_is; watches = w })

    -- an indexer that is made idle keeps its assignment
    idled_watches : (j : ℕ) (b : Bool) → (j == i) ≡ b → Watches exit log i seen (slice_set node.indexers j (made_idle (indexer_at node.indexers j)))
    idled_watches j true is =
        subst (λ k. Watches exit log i seen (slice_set node.indexers k (made_idle (indexer_at node.indexers j)))) (sym (eqb-true j i is))
        (this_watches node.indexers (made_idle (indexer_at node.indexers j)) seen w.within
        (subst (λ k. (indexer_at node.indexers k).assignment ≡ seen.assignment) (sym (eqb-true j i is)) w.assignment_is) tt)
    idled_watches j false is = other_watches node.indexers j (made_idle (indexer_at node.indexers j)) is w

    open_did : (request : Request) (name text : List ℕ) (client : Client) → TurnDid (Open name text) (open_by request name text client node)
    open_did no_request name text client = said_did (Open name text) _ _ (λ p. record { says = tt; log_is = log_is; watches = w })
    open_did (opened other) name text client = said_did (Open name text) _ node (λ p. record { says = tt; log_is = log_is; watches = w })
    open_did (planned plan) name text client = said_did (Open name text) _ node (λ p. record { says = tt; log_is = log_is; watches = w })

    searched_did : (name : List ℕ) (said : Option SearchStep) (new : Node) → new.log ≡ log → Watches exit log i seen new.indexers →
        TurnDid (StepClient name) (record { said = said_by_client name said; node = new })
    searched_did name None new l v = unsaid_did (StepClient name) new
    searched_did name (Some s) new l v = said_did (StepClient name) _ new (λ p. record { says = tt; log_is = l; watches = v })

    client_did : (down : Bool) (luck : LineLuck) (name : List ℕ) → TurnDid (StepClient name) (client_turn_by down luck name node)
    client_did true luck name = said_did (StepClient name) _ _ (λ p. record { says = tt; log_is = log_is; watches = w })
    client_did false luck name = searched_did name _ _ log_is w

    worked_did : (aim : Aim) (said : Option UpkeepOutcome) (new : Node) → new.log ≡ log → Watches exit log i seen new.indexers → TurnDid StepMerger (record { said = said_by_worker aim said; node = new })
    worked_did aim None new l v = unsaid_did StepMerger new
    worked_did aim (Some o) new l v = said_did StepMerger _ new (λ p. record { says = tt; log_is = l; watches = v })

    deleted_did : (aim : Aim) (said : Option UpkeepOutcome) (new : Node) → new.log ≡ log → Watches exit log i seen new.indexers → TurnDid StepDeleter (record { said = said_by_worker aim said; node = new })
    deleted_did aim None new l v = unsaid_did StepDeleter new
    deleted_did aim (Some o) new l v = said_did StepDeleter _ new (λ p. record { says = tt; log_is = l; watches = v })

    merger_did : (down : Bool) (luck : LineLuck) → TurnDid StepMerger (worker_turn_by down Merging node.merger with_merger luck node)
    merger_did true luck = said_did StepMerger _ node (λ p. record { says = tt; log_is = log_is; watches = w })
    merger_did false luck = worked_did Merging _ _ log_is w

    deleter_did : (down : Bool) (luck : LineLuck) → TurnDid StepDeleter (worker_turn_by down Deleting node.deleter with_deleter luck node)
    deleter_did true luck = said_did StepDeleter _ node (λ p. record { says = tt; log_is = log_is; watches = w })
    deleter_did false luck = deleted_did Deleting _ _ log_is w

    collected_did : (said : Option CollectorOutcome) (new : Node) → new.log ≡ log → Watches exit log i seen new.indexers →
        TurnDid StepCollector (record { said = said_by_collector said; node = new })
    collected_did None new l v = unsaid_did StepCollector new
    collected_did (Some o) new l v = said_did StepCollector _ new (λ p. record { says = tt; log_is = l; watches = v })

    collector_did : (down : Bool) (luck : LineLuck) → TurnDid StepCollector (collector_turn_by down luck node)
    collector_did true luck = said_did StepCollector _ node (λ p. record { says = tt; log_is = log_is; watches = w })
    collector_did false luck = collected_did _ _ log_is w

    restart_did : (r : Result ⊤ Unread) (core : Core) → TurnDid RestartNode (restart_by r core node)
    restart_did (Ok done) core = said_did RestartNode _ _ (λ p. record { says = tt; log_is = log_is; watches = idle_watches node.indexers w })
    restart_did (Err (not_read (faulted fault))) core = said_did RestartNode _ _ (λ p. record { says = tt; log_is = log_is; watches = idle_watches node.indexers w })
    restart_did (Err (not_read no_memory)) core = unsaid_did RestartNode _
    restart_did (Err calls.no_index) core = said_did RestartNode _ _ (λ p. record { says = tt; log_is = log_is; watches = idle_watches node.indexers w })

    full_did : (luck : LineLuck) (line : Line) → TurnDid line (full_turn luck node line)
    full_did luck (At moment) = said_did (At moment) _ _ (λ p. record { says = tt; log_is = log_is; watches = w })
    full_did luck (Assign j names) = assign_did (indexer_at node.indexers j).place j names
    full_did luck (StepIndexer j) = indexer_did node.down luck j
    full_did luck (RestartIndexer j) = said_did (RestartIndexer j) _ _ (λ p. record { says = tt; log_is = log_is; watches = idled_watches j (j == i) refl })
    full_did luck (RestartClient name) = said_did (RestartClient name) _ _ (λ p. record { says = tt; log_is = log_is; watches = w })
    full_did luck StepMerger = merger_did node.down luck
    full_did luck RestartMerger = said_did RestartMerger _ _ (λ p. record { says = tt; log_is = log_is; watches = w })
    full_did luck StepDeleter = deleter_did node.down luck
    full_did luck RestartDeleter = said_did RestartDeleter _ _ (λ p. record { says = tt; log_is = log_is; watches = w })
    full_did luck StepCollector = collector_did node.down luck
    full_did luck RestartCollector = said_did RestartCollector _ node (λ p. record { says = tt; log_is = log_is; watches = w })
    full_did luck RestartNode = let given = calls.loaded luck.world node.core in restart_did given.answer given.core
    full_did luck (Open name text) = open_did (client_named name node.clients).request name text (client_named name node.clients)
    full_did luck (StepClient name) = client_did node.down luck name

    quiet_did : (b : Bool) (line : Line) (turn : Turned) → TurnDid line turn → TurnDid line (or_quiet b line turn)
    quiet_did true line turn d = unsaid_did line (quiet line turn.node)
    quiet_did false line turn d = d

    by_did : (b : Bool) (luck : LineLuck) (line : Line) → TurnDid line (turn_by b luck node line)
    by_did true luck line = unsaid_did line (quiet line node)
    by_did false luck line = quiet_did luck.short line (full_turn luck node line) (full_did luck line)

    turn_did : (line : Line) (o : Outcome) (new : Node) → Turn node line (Some o) new → IsPrefixOf new.core.history exit → Line_did line o new
    turn_did line o new turn p = subst (λ t. TurnDid line t) turn.is (by_did turn.luck.early turn.luck line) o refl p

-- ---- all lines

longer : (a b : Node) → Grows a.core b.core → length a.core.history ≤ length b.core.history
longer a b g = let e : length b.core.history ≡ length a.core.history + length g.0 = ap length g.1 ∙ length-append a.core.history g.0 in omega (arith, e)

within_exit : (h exit : List Entry) → IsPrefixOf h exit → length h ≤ length exit
within_exit h exit p = let e : length exit ≡ length h + length p.0 = ap length p.1 ∙ length-append h p.0 in omega (arith, e)

pub catches_up : (exit : List Entry) (log : Log) (i least : ℕ) (seen : Seen) (node last : Node) (lines : List Line) (outcomes : List Outcome) → node.log ≡ log →
    Watches exit log i seen node.indexers → least ≤ length node.core.history → IsPrefixOf last.core.history exit → Turns node lines outcomes last →
    CatchesUp exit log i least seen lines outcomes
catches_up exit log i least seen node last [] [] log_is w le p run = tt
catches_up exit log i least seen node last [] (o ∷ os) log_is w le p run = absurd run
catches_up exit log i least seen node last (line ∷ lines) [] log_is w le p run = absurd run
catches_up exit log i least seen node last (line ∷ lines) (o ∷ os) log_is w le p run =
    let mid = run.0 in
    let before = prefix_on mid.core.history last.core.history exit (turns_later mid last lines os run.2).grows p in
    let d = turn_did exit log i seen node log_is w line o mid run.1 before in
    let up = longer node mid (turn_later node line (Some o) mid run.1).grows in (
      d.says,
      (
        length mid.core.history,
        omega (arith, le, up),
        within_exit mid.core.history exit before,
        catches_up exit log i (length mid.core.history) (after_line log i (length mid.core.history) seen line o) mid last lines os d.log_is d.watches (omega arith) p run.2,
      ),
    )

-- ---- a call

reader_at : (counts : List ℕ) (i : ℕ) → ((indexer_at (map reader_of counts) i).assignment ≡ None) × ((indexer_at (map reader_of counts) i).place ≡ idle)
reader_at [] i = (refl, refl)
reader_at (count ∷ counts) zero = (refl, refl)
reader_at (count ∷ counts) (suc i) = reader_at counts i

readers_long : (counts : List ℕ) → length (map reader_of counts) ≡ length counts
readers_long [] = refl
readers_long (count ∷ counts) = ap suc (readers_long counts)

fresh_watches : (exit : List Entry) (log : Log) (i : ℕ) (counts : List ℕ) → i < length counts → Watches exit log i unseen (map reader_of counts)
fresh_watches exit log i counts within =
    let r = reader_at counts i in
    record {
      within = subst (λ n. i < n) (sym (readers_long counts)) within;
      assignment_is = r.0;
      place_is = subst (λ place. PlaceWatched log (marks_at (checkpoints_of (history (take 0 exit))) []) place) (sym r.1) tt;
    }

module _ (entry exit : List Entry) (before : Before) (fresh : Node) (is : IsFresh before entry fresh) (i : ℕ) (within : i < length before.log_faults) where
  abbrev Catches : List Line → List Outcome → Type 0
  Catches lines outcomes = CatchesUp exit before.log i (length entry) unseen lines outcomes

  answers_catch : (lines : List Line) (outcomes : List Outcome) (last : Node) → Answers fresh lines outcomes last → IsPrefixOf last.core.history exit → Catches lines outcomes
  answers_catch lines outcomes last a p =
      catches_up exit before.log i (length entry) unseen a.opened last lines outcomes (ap (λ n. n.log) a.opens.is ∙ ap (λ n. n.log) is.is)
      (subst (λ indexers. Watches exit before.log i unseen indexers) (sym (ap (λ n. n.indexers) a.opens.is ∙ ap (λ n. n.indexers) is.is)) (fresh_watches exit before.log i before.log_faults within))
      (subst (λ h. length h ≤ length a.opened.core.history) (ap (λ n. n.core.history) is.is) (longer fresh a.opened (opens_moves fresh _ a.opened a.opens).later.grows)) p a.turns

  none_catch : (lines : List Line) (outcomes : List Outcome) → lines ≡ [] → outcomes ≡ [] → Catches lines outcomes
  none_catch lines outcomes no_lines no_outcomes =
      subst (λ ls. Catches ls outcomes) (sym no_lines) (subst (λ os. Catches [] os) (sym no_outcomes) tt)

  unopened_catch : (lines : List Line) (outcomes : List Outcome) (why : Unread) (last : Node) → Unopened fresh lines outcomes why last → Catches lines outcomes
  unopened_catch lines outcomes why last u = none_catch lines outcomes u.no_lines u.no_outcomes

  short_catch : (lines : List Line) (outcomes : List Outcome) (last : Node) → RanShort before fresh lines outcomes last → IsPrefixOf last.core.history exit → Catches lines outcomes
  short_catch lines outcomes last s p =
      answers_catch lines outcomes s.mid s.answers (prefix_on s.mid.core.history last.core.history exit (turn_later s.mid s.line None last s.turn).grows p)

  pub lives_catch : (end : End) (lines : List Line) (outcomes : List Outcome) (last : Node) → Lives before end fresh lines outcomes last → IsPrefixOf last.core.history exit →
      Catches lines outcomes
  lives_catch (by_reading ending) lines outcomes last l p = answers_catch lines outcomes last l p
  lives_catch no_index lines outcomes last l p = unopened_catch lines outcomes _ last l
  lives_catch (opening_failed low high) lines outcomes last l p = unopened_catch lines outcomes _ last l
  lives_catch read_failed lines outcomes last l p = answers_catch lines outcomes last l p
  lives_catch write_failed lines outcomes last l p = answers_catch lines outcomes last l p
  lives_catch out_of_memory lines outcomes last (inl none) p = none_catch lines outcomes none.0 none.1
  lives_catch out_of_memory lines outcomes last (inr (inl u)) p = unopened_catch lines outcomes _ last u
  lives_catch out_of_memory lines outcomes last (inr (inr (inl a))) p = answers_catch lines outcomes last a p
  lives_catch out_of_memory lines outcomes last (inr (inr (inr s))) p = short_catch lines outcomes last s p
