-- Each fault of the store that a line tells has the counts before the line and behind it, of which the second rose.
use Rattle.std.proofs.Common.{◌≡◌, ℕ, ◌≤◌, ◌<◌, Bool, true, false, List, [], ◌∷◌, ◌++◌, flat_map, map, refl, sym, ap, subst, arith}
use Rattle.std.specs.Prelude.{Option, Some, None, Result, Ok, Err, ⊤, if◌then◌else◌, ◌==◌, min, nat_lt, length}
use Rattle.byte_fields.specs.Causes.{Rose}
use Rattle.meta_journal.specs.Places.{split_key}
use Rattle.meta_journal.specs.declared.entry.Act.TheVariants.{Publish}
use Rattle.meta_store.specs.declared.refusal.Refusal.{Refusal}
use Rattle.meta_store.specs.declared.refusal.Refusal.TheVariants.{MomentBack, NotCreated, AlreadyCreated, BadConfig, NotNext, Delta, State, BadTask, UptoAhead, TooManyTasks, TooManyRows, TooManySpans}
use Rattle.source_checkpoint.specs.declared.delta.StaleDelta.{StaleDelta}
use Rattle.source_checkpoint.specs.declared.delta.StaleDelta.TheVariants as deltas
use Rattle.source_checkpoint.specs.declared.ledger.Checkpoint.{Checkpoint}
use Rattle.source_log.specs.Log.{Log}
use Rattle.index_world.specs.Calls.{Fate, store_fault, is_foreign, is_full, is_expired, Trouble, faulted, no_memory, Unmade, refused, troubled, Unread, not_read, Gives, gives, or_short, appended, looked, asked_and_looked, asked, file_made, loaded}
use Rattle.index_world.specs.Calls as calls
use Rattle.index_world.specs.Core.{Core, last_count}
use Rattle.index_world.specs.Gate.{stage_act, task_act, task_call}
use Rattle.index_world.specs.Seen.{visible_at}
use Rattle.index_world.specs.SplitFile.{file_of}
use Rattle.indexing_run.specs.Outcomes.{IndexerOutcome}
use Rattle.indexing_run.specs.Places.{Batch, IndexerHeld, IndexerPlace, idle, reading, staged, uploaded, Indexer}
use Rattle.indexing_run.specs.Steps.{Stepped, log_may_fail, log_called, checkpoints_by, take_checkpoints, idle_by, read_by, read_given, step_read, stage_by, step_stage, batch_facts, upload_by, publish_by, publish_refused, step_batch, step_place, step_indexer}
use Rattle.indexing_run.specs.Steps as indexing
use Rattle.agg_nested.specs.Answers.{all_buckets, nested_answer, told}
use Rattle.agg_nested.specs.declared.answer.NestedAnswer.{NestedAnswer}
use Rattle.agg_model.specs.Answers.{most_buckets}
use Rattle.doc_tallies.specs.Picked.{docs_of}
use Rattle.doc_value.specs.declared.schema.Schema.{Schema}
use Rattle.split_bundle.specs.declared.placed.Placed.{Placed}
use Rattle.search_api.specs.Resolved.{Asked, IsDelete, IsSearch, Search}
use Rattle.search_api.specs.declared.reply.Refusal.{Refusal as Unfit}
use Rattle.search_api.specs.declared.reply.Refusal.TheVariants as refusals
use Rattle.search_api.specs.declared.reply.Said.TheVariants as given
use Rattle.search_api.specs.declared.unanswered.Unanswered.{Unanswered}
use Rattle.search_api.specs.declared.unanswered.Unanswered.TheVariants as reasons
use Rattle.root_search.specs.Answer.{answer, matching, printed, shown}
use Rattle.root_search.specs.Requests.{ask_of, asked_of}
use Rattle.root_search.specs.Steps.{Request, no_request, opened, planned, Plan, Client, config_at, config_in, delete_by, opened_by, plan_by, plan_given, state_refusal, fetch_by, fetched_each, next_step, step_request, step_client}
use Rattle.root_search.specs.Steps as searching
use Rattle.root_search.specs.declared.outcome.SearchStep.{SearchStep}
use Rattle.split_collector.specs.Outcomes.{Outcome as CollectorOutcome}
use Rattle.upkeep_run.specs.Outcomes.{UpkeepOutcome}
use Rattle.upkeep_run.specs.declared.work.Aim.{Aim}
use Rattle.upkeep_run.specs.declared.work.Aim.TheVariants.{Deleting, Merging}
use Rattle.node_run.specs.Node.{Node, Line, At, Assign, StepIndexer, RestartIndexer, RestartClient, StepMerger, RestartMerger, StepDeleter, RestartDeleter, StepCollector, RestartCollector, RestartNode, Open, StepClient, Outcome}
use Rattle.node_run.specs.Turns.{LineLuck, Turned, indexer_at, indexing_luck, searching_luck, said_by_indexer, said_by_client, said_by_collector, assign_at, indexer_turn_by, client_turn_by, client_named, collecting_luck, collector_turn_by, open_by, restart_by, full_turn, quiet, or_quiet, turn_by, Turn, Turns, working_luck, said_by_worker, worker_turn_by, with_deleter, with_merger}
use Rattle.request_laws.specs.OfText.{IsOfText, OfText}
use Rattle.node_run.proofs.Refusals.{asked_of_text}
use Rattle.quick_node.specs.Faults.{Interval, AreBetween, indexer_told, refusal_told, said_told, search_told, store_told}
use Rattle.quick_node.proofs.FaultCalls.{trouble_told, unmade_told, unread_told, answer_told, Good, Says, as_given, lower, appended_good, looked_good, asked_and_looked_good, asked_good, file_good, each_good, loaded_good}
use Rattle.quick_node.proofs.CollectorFaults.{by_collector, collector_says}
use Rattle.quick_node.proofs.WorkerFaults.{by_worker, worker_says}

abbrev by_indexer : Option IndexerOutcome → List Interval
by_indexer None = []
by_indexer (Some outcome) = indexer_told outcome

abbrev by_search : Option SearchStep → List Interval
by_search None = []
by_search (Some step) = search_told step

abbrev by_line : Option Outcome → List Interval
by_line None = []
by_line (Some outcome) = store_told outcome

as_said : {E A : Type 0} (told : E → List Interval) (low : ℕ) (given : Gives E A) (faults : List Interval) (core : Core) → Good told low given → faults ≡ answer_told told given.answer →
    core ≡ given.core → Says low faults core
as_said told low given faults core g same at =
    subst (λ c. Says low faults c) (sym at) (subst (λ fs. Says low fs given.core) (sym same) (record { says = g.says; on = g.on; bound = g.bound }))

-- nothing is said of it
unsaid : {E A : Type 0} (told : E → List Interval) (low : ℕ) (given : Gives E A) (core : Core) → Good told low given → core ≡ given.core → Says low [] core
unsaid told low given core g at = subst (λ c. Says low [] c) (sym at) (record { says = g.on; on = g.on; bound = g.bound })

still : (core : Core) → core.store_faults ≤ last_count → Says core.store_faults [] core
still core bound = record { says = omega arith; on = omega arith; bound = bound }

stale_none : (number : ℕ) (delta : StaleDelta) → indexer_told (indexing.stale_or_lost number delta) ≡ []
stale_none number (deltas.Stale partition current from) = refl
stale_none number (deltas.BackwardDelta partition) = refl
stale_none number (deltas.DoubledPartition partition) = refl

publish_none : (number : ℕ) (refusal : Refusal) → indexer_told (publish_refused number refusal) ≡ []
publish_none number (Delta fault) = stale_none number fault
publish_none number (MomentBack given greatest) = refl
publish_none number NotCreated = refl
publish_none number AlreadyCreated = refl
publish_none number (BadConfig error) = refl
publish_none number (NotNext given next) = refl
publish_none number (State refusal) = refl
publish_none number (BadTask error) = refl
publish_none number (UptoAhead upto last) = refl
publish_none number (TooManyTasks count) = refl
publish_none number (TooManyRows count) = refl
publish_none number (TooManySpans count) = refl

trouble_said : (trouble : Trouble) → by_indexer (indexing.trouble_outcome trouble) ≡ trouble_told trouble
trouble_said (faulted fault) = refl
trouble_said no_memory = refl

abbrev Stepping : ℕ → Stepped → Type 0
Stepping low step = Says low (by_indexer step.outcome) step.core

checkpoints_said : (low : ℕ) (log : Log) (indexer : Indexer) (r : Result ⊤ Trouble) (core : Core) → Good trouble_told low (gives r core) → Stepping low (checkpoints_by r log indexer core)
checkpoints_said low log indexer (Ok done) core g = record { says = g.on; on = g.on; bound = g.bound }
checkpoints_said low log indexer (Err trouble) core g =
    as_said trouble_told low (gives {A = ⊤} (Err trouble) core) _ core g (trouble_said trouble) refl

module _ (luck : indexing.IndexerLuck) (log : Log) (core : Core) (bound : core.store_faults ≤ last_count) where
  take_said : (indexer : Indexer) → Stepping core.store_faults (take_checkpoints luck log indexer core)
  take_said indexer =
      checkpoints_said core.store_faults log indexer (looked luck.world core).answer (looked luck.world core).core
      (as_given trouble_told core.store_faults (looked luck.world core) (looked_good luck.world core bound))

  idle_said : (b : Bool) (names : Option (List (List ℕ))) (indexer : Indexer) → Stepping core.store_faults (idle_by b names luck log indexer core)
  idle_said true None indexer = still core bound
  idle_said false None indexer = take_said (log_called luck.log indexer)
  idle_said true (Some names) indexer = take_said indexer
  idle_said false (Some names) indexer = take_said indexer

  unless_said : (b : Bool) (indexer : Indexer) → Stepping core.store_faults (indexing.idle_unless b luck log indexer core)
  unless_said true indexer = still core bound
  unless_said false indexer = idle_said (log_may_fail luck.log indexer.log_faults) indexer.assignment indexer

  read_by_said : (b : Bool) (batch : Batch) (mark : Checkpoint) (rest : List Checkpoint) (indexer : Indexer) (c : Core) → core.store_faults ≤ c.store_faults → c.store_faults ≤ last_count →
      Stepping core.store_faults (read_by b luck log batch mark rest indexer c)
  read_by_said true batch mark rest indexer c on b = record { says = on; on = on; bound = b }
  read_by_said false batch mark rest indexer c on b = record { says = on; on = on; bound = b }

  given_said : (batch : Batch) (mark : Checkpoint) (rest : List Checkpoint) (indexer : Indexer) (r : Result ⊤ Trouble) (c : Core) → Good trouble_told core.store_faults (gives r c) →
      Stepping core.store_faults (read_given luck log batch mark rest indexer r c)
  given_said batch mark rest indexer (Err trouble) c g =
      as_said trouble_told core.store_faults (gives {A = ⊤} (Err trouble) c) _ c g (trouble_said trouble) refl
  given_said batch mark rest indexer (Ok done) c g = read_by_said (log_may_fail luck.log indexer.log_faults) batch mark rest indexer c g.on g.bound

  read_said : (batch : Batch) (queue : List Checkpoint) (indexer : Indexer) → Stepping core.store_faults (step_read luck log batch queue indexer core)
  read_said batch [] indexer = still core bound
  read_said batch (mark ∷ rest) indexer =
      given_said batch mark rest indexer (asked luck.world core).answer (asked luck.world core).core
      (as_given trouble_told core.store_faults (asked luck.world core) (asked_good luck.world core bound))

  stage_by_said : (batch : Batch) (indexer : Indexer) (r : Result ⊤ Unmade) (c : Core) → Good unmade_told core.store_faults (gives r c) → Stepping core.store_faults (stage_by r batch indexer c)
  stage_by_said batch indexer (Ok done) c g = record { says = g.on; on = g.on; bound = g.bound }
  stage_by_said batch indexer (Err (refused refusal)) c g = record { says = g.on; on = g.on; bound = g.bound }
  stage_by_said batch indexer (Err (troubled trouble)) c g =
      as_said unmade_told core.store_faults (gives {A = ⊤} (Err (troubled trouble)) c) _ c g (trouble_said trouble) refl

  upload_by_said : (held : IndexerHeld) (indexer : Indexer) (r : Result ⊤ Trouble) (c : Core) → Good trouble_told core.store_faults (gives r c) → Stepping core.store_faults (upload_by r held indexer c)
  upload_by_said held indexer (Ok done) c g = record { says = g.on; on = g.on; bound = g.bound }
  upload_by_said held indexer (Err trouble) c g =
      as_said trouble_told core.store_faults (gives {A = ⊤} (Err trouble) c) _ c g (trouble_said trouble) refl

  publish_by_said : (held : IndexerHeld) (indexer : Indexer) (r : Result ⊤ Unmade) (c : Core) → Good unmade_told core.store_faults (gives r c) → Stepping core.store_faults (publish_by r held indexer c)
  publish_by_said held indexer (Ok done) c g = record { says = g.on; on = g.on; bound = g.bound }
  publish_by_said held indexer (Err (refused refusal)) c g =
      as_said unmade_told core.store_faults (gives {A = ⊤} (Err (refused refusal)) c) _ c g (publish_none held.number refusal) refl
  publish_by_said held indexer (Err (troubled trouble)) c g =
      as_said unmade_told core.store_faults (gives {A = ⊤} (Err (troubled trouble)) c) _ c g (trouble_said trouble) refl

  stage_said : (batch : Batch) (indexer : Indexer) → Stepping core.store_faults (step_stage luck batch indexer core)
  stage_said batch indexer =
      let given = appended luck.world (stage_act batch.parts (batch_facts batch)) core in
      stage_by_said batch indexer given.answer given.core
      (as_given unmade_told core.store_faults given (appended_good luck.world (stage_act batch.parts (batch_facts batch)) core bound))

  choice_said : (b : Bool) (x y : Stepped) → Stepping core.store_faults x → Stepping core.store_faults y → Stepping core.store_faults (if b then x else y)
  choice_said true x y p q = p
  choice_said false x y p q = q

  batch_said : (batch : Batch) (indexer : Indexer) → Stepping core.store_faults (step_batch luck log batch indexer core)
  batch_said batch indexer =
      choice_said batch.closed _ _ (choice_said (batch.count == 0) _ _ (still core bound) (stage_said batch indexer)) (read_said batch batch.queue indexer)

  place_said : (place : IndexerPlace) (indexer : Indexer) → Stepping core.store_faults (step_place place luck log indexer core)
  place_said idle indexer = unless_said luck.log.short indexer
  place_said (reading batch) indexer = batch_said batch indexer
  place_said (staged held) indexer =
      let given = file_made luck.world.first (split_key held.number) (file_of held.config held.documents) core in
      upload_by_said held indexer given.answer given.core
      (as_given trouble_told core.store_faults given (file_good luck.world.first (split_key held.number) (file_of held.config held.documents) core bound))
  place_said (uploaded held) indexer =
      let given = appended luck.world (λ c. Publish held.number) core in
      publish_by_said held indexer given.answer given.core
      (as_given unmade_told core.store_faults given (appended_good luck.world (λ c. Publish held.number) core bound))

  short_said : (b : Bool) (step : Stepped) → Stepping core.store_faults step → Stepping core.store_faults (indexing.or_short b step)
  short_said true step p = record { says = p.on; on = p.on; bound = p.bound }
  short_said false step p = p

  indexer_said : (indexer : Indexer) → Stepping core.store_faults (step_indexer luck log indexer core)
  indexer_said indexer = short_said luck.short _ (place_said indexer.place indexer)

-- ---- a client's step

abbrev Searching : ℕ → searching.Searched → Type 0
Searching low step = Says low (by_search step.outcome) step.core

replied_said : (low revision : ℕ) (trouble : Trouble) (client : Client) (core : Core) → Says low (trouble_told trouble) core → Searching low (searching.trouble_replied revision trouble client core)
replied_said low revision (faulted (store_fault before after)) client core p = p
replied_said low revision (faulted (is_foreign key)) client core p = p
replied_said low revision (faulted is_full) client core p = p
replied_said low revision (faulted (is_expired planned_at now)) client core p = p
replied_said low revision no_memory client core p = p

-- a refusal of a text tells no fault
text_none : (refusal : Unfit) → IsOfText refusal → refusal_told refusal ≡ []
text_none (refusals.StoreFault before after) h = absurd h
text_none refusal h = refl

none_said : (low : ℕ) (told : List Interval) (core : Core) → told ≡ [] → low ≤ core.store_faults → core.store_faults ≤ last_count → Says low told core
none_said low told core e on bound = subst (λ fs. Says low fs core) (sym e) (record { says = on; on = on; bound = bound })

refused_said : (low revision : ℕ) (refusal : Unfit) (trouble : Trouble) (client : Client) (core : Core) → IsOfText refusal → Says low (trouble_told trouble) core →
    Searching low (searching.refused_over revision refusal trouble client core)
refused_said low revision refusal (faulted fault) client core h p = none_said low (refusal_told refusal) core (text_none refusal h) p.on p.bound
refused_said low revision refusal no_memory client core h p = p

plan_said : (low : ℕ) (r : Result ⊤ Trouble) (asked : Result Search Unanswered) (client : Client) (core : Core) → Good trouble_told low (gives r core) → OfText asked →
    Searching low (plan_by r asked client core)
plan_said low (Ok done) (Ok search) client core g h = record { says = g.on; on = g.on; bound = g.bound }
plan_said low (Ok done) (Err (reasons.Refused refusal)) client core g h = none_said low (refusal_told refusal) core (text_none refusal h) g.on g.bound
plan_said low (Ok done) (Err (reasons.Memory e)) client core g h = record { says = g.on; on = g.on; bound = g.bound }
plan_said low (Err trouble) (Ok search) client core g h = replied_said low client.front trouble client core (record { says = g.says; on = g.on; bound = g.bound })
plan_said low (Err trouble) (Err (reasons.Refused refusal)) client core g h =
    refused_said low client.front refusal trouble client core h (record { says = g.says; on = g.on; bound = g.bound })
plan_said low (Err trouble) (Err (reasons.Memory e)) client core g h = record { says = g.on; on = g.on; bound = g.bound }

-- nor does a task that the index's state refuses
state_none : (refusal : Refusal) → refusal_told (state_refusal refusal) ≡ []
state_none (TooManyTasks count) = refl
state_none (MomentBack given greatest) = refl
state_none NotCreated = refl
state_none AlreadyCreated = refl
state_none (BadConfig error) = refl
state_none (NotNext given next) = refl
state_none (Delta fault) = refl
state_none (State refusal) = refl
state_none (BadTask error) = refl
state_none (UptoAhead upto last) = refl
state_none (TooManyRows count) = refl
state_none (TooManySpans count) = refl

delete_said : (low : ℕ) (r : Result ⊤ Unmade) (client : Client) (core : Core) → Good unmade_told low (gives r core) → Searching low (delete_by r client core)
delete_said low (Ok done) client core g = record { says = g.on; on = g.on; bound = g.bound }
delete_said low (Err (refused refusal)) client core g = none_said low (refusal_told (state_refusal refusal)) core (state_none refusal) g.on g.bound
delete_said low (Err (troubled trouble)) client core g = replied_said low client.front trouble client core (record { says = g.says; on = g.on; bound = g.bound })

-- nor does an answer
buckets_none : (b : Bool) (many count : ℕ) (lines : List (List ℕ)) (results : List NestedAnswer) → said_told (if b then given.Refused (refusals.TooManyBuckets count) else given.Found many lines results) ≡ []
buckets_none true many count lines results = refl
buckets_none false many count lines results = refl

answer_none : (s : Schema) (search : Search) (documents : List Placed) → said_told (answer s search documents) ≡ []
answer_none s search documents =
    let found = matching s search documents in
    let count = all_buckets search.aggs (docs_of found) in
    buckets_none (nat_lt most_buckets count) (length found) (told count) (printed s (shown search found)) (map (nested_answer (docs_of found)) search.aggs)

fetch_said : (low : ℕ) (r : Result ⊤ Trouble) (plan : Plan) (number : ℕ) (more : List ℕ) (client : Client) (core : Core) → Good trouble_told low (gives r core) →
    Searching low (fetch_by r plan number more client core)
fetch_said low (Ok done) plan number more client core g = record { says = g.on; on = g.on; bound = g.bound }
fetch_said low (Err trouble) plan number more client core g = replied_said low plan.revision trouble client core (record { says = g.says; on = g.on; bound = g.bound })

module _ (luck : searching.ClientLuck) (log : Log) (client : Client) (core : Core) (bound : core.store_faults ≤ last_count) where
  next_said : (plan : Plan) (unfetched : List ℕ) → Searching core.store_faults (next_step luck log plan unfetched client core)
  next_said plan [] =
      let documents = visible_at plan.revision core.history log in
      none_said core.store_faults _ core (answer_none (config_at plan.revision core).schema plan.search documents) (omega arith) bound
  next_said plan (number ∷ more) =
      let given = fetched_each plan.grace luck.world luck.more core in
      fetch_said core.store_faults given.answer plan number more client given.core (as_given trouble_told core.store_faults given (each_good plan.grace luck.more luck.world core bound))

  plans_said : (asked : Result Search Unanswered) → OfText asked → Searching core.store_faults (plan_given asked client (asked_and_looked luck.world core))
  plans_said asked h =
      let given = asked_and_looked luck.world core in
      plan_said core.store_faults given.answer asked client given.core (as_given trouble_told core.store_faults given (asked_and_looked_good luck.world core bound)) h

  opened_said : (asked : Result Asked Unanswered) → OfText asked → Searching core.store_faults (opened_by asked luck.world client core)
  opened_said (Ok (IsSearch search)) h = plans_said (Ok search) tt
  opened_said (Ok (IsDelete deletion)) h =
      let given = task_call (ask_of deletion) luck.world core in
      delete_said core.store_faults given.answer client given.core (as_given unmade_told core.store_faults given (appended_good luck.world (task_act (ask_of deletion)) core bound))
  opened_said (Err (reasons.Refused refusal)) h = plans_said (Err (reasons.Refused refusal)) h
  opened_said (Err (reasons.Memory e)) h = plans_said (Err (reasons.Memory e)) tt

  request_said : (request : Request) → Searching core.store_faults (step_request request luck log client core)
  request_said no_request = still core bound
  request_said (opened text) = opened_said (asked_of (config_in core) text) (asked_of_text (config_in core) text)
  request_said (planned plan) = next_said plan plan.unfetched

  search_short : (b : Bool) (step : searching.Searched) → Searching core.store_faults step → Searching core.store_faults (searching.or_short b client step)
  search_short true step p = record { says = p.on; on = p.on; bound = p.bound }
  search_short false step p = p

  client_said : Searching core.store_faults (step_client luck log client core)
  client_said = search_short luck.short _ (request_said client.request)

-- ---- a line

abbrev Turning : ℕ → Turned → Type 0
Turning low turn = Says low (by_line turn.said) turn.node.core

indexer_line : (low i : ℕ) (outcome : Option IndexerOutcome) (core : Core) → Says low (by_indexer outcome) core → Says low (by_line (said_by_indexer i outcome)) core
indexer_line low i None core p = p
indexer_line low i (Some outcome) core p = p

client_line : (low : ℕ) (name : List ℕ) (outcome : Option SearchStep) (core : Core) → Says low (by_search outcome) core → Says low (by_line (said_by_client name outcome)) core
client_line low name None core p = p
client_line low name (Some outcome) core p = p

worker_line : (low : ℕ) (aim : Aim) (outcome : Option UpkeepOutcome) (core : Core) → Says low (by_worker outcome) core → Says low (by_line (said_by_worker aim outcome)) core
worker_line low aim None core p = p
worker_line low aim (Some outcome) core p = p

collector_line : (low : ℕ) (outcome : Option CollectorOutcome) (core : Core) → Says low (by_collector outcome) core → Says low (by_line (said_by_collector outcome)) core
collector_line low None core p = p
collector_line low (Some outcome) core p = p

restart_said : (low : ℕ) (r : Result ⊤ Unread) (core : Core) (node : Node) → Good unread_told low (gives r core) → Turning low (restart_by r core node)
restart_said low (Ok done) core node g = record { says = g.on; on = g.on; bound = g.bound }
restart_said low (Err (not_read (faulted fault))) core node g = record { says = g.says; on = g.on; bound = g.bound }
restart_said low (Err (not_read no_memory)) core node g = record { says = g.on; on = g.on; bound = g.bound }
restart_said low (Err calls.no_index) core node g = record { says = g.on; on = g.on; bound = g.bound }

module _ (luck : LineLuck) (node : Node) (bound : node.core.store_faults ≤ last_count) where
  assign_said : (place : IndexerPlace) (i : ℕ) (names : List (List ℕ)) (indexer : Indexer) → Turning node.core.store_faults (assign_at place i names indexer node)
  assign_said idle i names indexer = still node.core bound
  assign_said (reading batch) i names indexer = still node.core bound
  assign_said (staged held) i names indexer = still node.core bound
  assign_said (uploaded held) i names indexer = still node.core bound

  open_said : (request : Request) (name text : List ℕ) (client : Client) → Turning node.core.store_faults (open_by request name text client node)
  open_said no_request name text client = still node.core bound
  open_said (opened other) name text client = still node.core bound
  open_said (planned plan) name text client = still node.core bound

  indexer_turn_said : (down : Bool) (i : ℕ) → Turning node.core.store_faults (indexer_turn_by down luck i node)
  indexer_turn_said true i = still node.core bound
  indexer_turn_said false i = indexer_line node.core.store_faults i _ _ (indexer_said (indexing_luck luck) node.log node.core bound (indexer_at node.indexers i))

  client_turn_said : (down : Bool) (name : List ℕ) → Turning node.core.store_faults (client_turn_by down luck name node)
  client_turn_said true name = still node.core bound
  client_turn_said false name = client_line node.core.store_faults name _ _ (client_said (searching_luck luck) node.log (client_named name node.clients) node.core bound)

  merger_turn_said : (down : Bool) → Turning node.core.store_faults (worker_turn_by down Merging node.merger with_merger luck node)
  merger_turn_said true = still node.core bound
  merger_turn_said false = worker_line node.core.store_faults Merging _ _ (worker_says (working_luck luck) node.log node.core bound Merging node.merger)

  deleter_turn_said : (down : Bool) → Turning node.core.store_faults (worker_turn_by down Deleting node.deleter with_deleter luck node)
  deleter_turn_said true = still node.core bound
  deleter_turn_said false = worker_line node.core.store_faults Deleting _ _ (worker_says (working_luck luck) node.log node.core bound Deleting node.deleter)

  collector_turn_said : (down : Bool) → Turning node.core.store_faults (collector_turn_by down luck node)
  collector_turn_said true = still node.core bound
  collector_turn_said false = collector_line node.core.store_faults _ _ (collector_says (collecting_luck luck) node.core bound)

  full_said : (line : Line) → Turning node.core.store_faults (full_turn luck node line)
  full_said (At moment) = record { says = omega arith; on = omega arith; bound = bound }
  full_said (Assign i names) = assign_said (indexer_at node.indexers i).place i names (indexer_at node.indexers i)
  full_said (StepIndexer i) = indexer_turn_said node.down i
  full_said (RestartIndexer i) = still node.core bound
  full_said (RestartClient name) = still node.core bound
  full_said StepMerger = merger_turn_said node.down
  full_said RestartMerger = still node.core bound
  full_said StepDeleter = deleter_turn_said node.down
  full_said RestartDeleter = still node.core bound
  full_said StepCollector = collector_turn_said node.down
  full_said RestartCollector = still node.core bound
  full_said RestartNode =
      let given = loaded luck.world node.core in
      restart_said node.core.store_faults given.answer given.core node (as_given unread_told node.core.store_faults given (loaded_good luck.world node.core bound))
  full_said (Open name text) = open_said (client_named name node.clients).request name text (client_named name node.clients)
  full_said (StepClient name) = client_turn_said node.down name

quiet_count : (line : Line) (node : Node) → (quiet line node).core.store_faults ≡ node.core.store_faults
quiet_count (At moment) node = refl
quiet_count (Assign i names) node = refl
quiet_count (StepIndexer i) node = refl
quiet_count (RestartIndexer i) node = refl
quiet_count (RestartClient name) node = refl
quiet_count StepMerger node = refl
quiet_count RestartMerger node = refl
quiet_count StepDeleter node = refl
quiet_count RestartDeleter node = refl
quiet_count StepCollector node = refl
quiet_count RestartCollector node = refl
quiet_count RestartNode node = refl
quiet_count (Open name text) node = refl
quiet_count (StepClient name) node = refl

quiet_said : (low : ℕ) (b : Bool) (line : Line) (turn : Turned) → Turning low turn → Turning low (or_quiet b line turn)
quiet_said low true line turn p =
    let e = quiet_count line turn.node in
    record { says = omega (arith, e, p.on); on = omega (arith, e, p.on); bound = omega (arith, e, p.bound) }
quiet_said low false line turn p = p

by_said : (b : Bool) (luck : LineLuck) (node : Node) (line : Line) → node.core.store_faults ≤ last_count → Turning node.core.store_faults (turn_by b luck node line)
by_said true luck node line bound =
    let e = quiet_count line node in
    record { says = omega (arith, e); on = omega (arith, e); bound = omega (arith, e, bound) }
by_said false luck node line bound = quiet_said node.core.store_faults luck.short line (full_turn luck node line) (full_said luck node bound line)

turn_said : (node : Node) (line : Line) (said : Option Outcome) (last : Node) → node.core.store_faults ≤ last_count → Turn node line said last →
    Says node.core.store_faults (by_line said) last.core
turn_said node line said last bound turn = subst (λ t. Turning node.core.store_faults t) turn.is (by_said turn.luck.early turn.luck node line bound)

-- ---- lines

pub between_more : (low mid high : ℕ) (xs ys : List Interval) → AreBetween low xs mid → AreBetween mid ys high → AreBetween low (xs ++ ys) high
between_more low mid high [] ys p q = lower low mid ys high p q
between_more low mid high (x ∷ xs) ys p q = (p.0, p.1, between_more x.high mid high xs ys p.2 q)

pub turns_told : (node last : Node) (lines : List Line) (outcomes : List Outcome) → node.core.store_faults ≤ last_count → Turns node lines outcomes last →
    AreBetween node.core.store_faults (flat_map store_told outcomes) last.core.store_faults
turns_told node last [] [] bound run = let e = ap (λ n. n.core.store_faults) run in omega (arith, e)
turns_told node last [] (o ∷ os) bound run = absurd run
turns_told node last (line ∷ lines) [] bound run = absurd run
turns_told node last (line ∷ lines) (o ∷ os) bound run =
    let s = turn_said node line (Some o) run.0 bound run.1 in
    between_more node.core.store_faults run.0.core.store_faults last.core.store_faults (store_told o) (flat_map store_told os) s.says
    (turns_told run.0 last lines os s.bound run.2)

abbrev pub opening_told : Result ⊤ Unread → List Interval
opening_told (Ok done) = []
opening_told (Err e) = unread_told e

-- an opening tells within its counts, and leaves a count with an end
pub opening_says : (fate : Fate) (core after : Core) (answer : Result ⊤ Unread) → core.store_faults ≤ last_count → loaded fate core ≡ gives answer after →
    AreBetween core.store_faults (opening_told answer) after.store_faults × (core.store_faults ≤ after.store_faults) × (after.store_faults ≤ last_count)
opening_says fate core after answer bound did = by answer (subst (λ (given : Gives Unread ⊤). Good unread_told core.store_faults given) did (loaded_good fate core bound))
  where
    by : (answer : Result ⊤ Unread) → Good unread_told core.store_faults (gives answer after) →
        AreBetween core.store_faults (opening_told answer) after.store_faults × (core.store_faults ≤ after.store_faults) × (after.store_faults ≤ last_count)
    by (Ok done) g = (g.on, g.on, g.bound)
    by (Err e) g = (g.says, g.on, g.bound)

pub turns_bound : (node last : Node) (lines : List Line) (outcomes : List Outcome) → node.core.store_faults ≤ last_count → Turns node lines outcomes last →
    last.core.store_faults ≤ last_count
turns_bound node last [] [] bound run = let e = ap (λ n. n.core.store_faults) run in omega (arith, e, bound)
turns_bound node last [] (o ∷ os) bound run = absurd run
turns_bound node last (line ∷ lines) [] bound run = absurd run
turns_bound node last (line ∷ lines) (o ∷ os) bound run = turns_bound run.0 last lines os (turn_said node line (Some o) run.0 bound run.1).bound run.2

pub turn_on : (node : Node) (line : Line) (said : Option Outcome) (last : Node) → node.core.store_faults ≤ last_count → Turn node line said last →
    node.core.store_faults ≤ last.core.store_faults
turn_on node line said last bound turn = (turn_said node line said last bound turn).on

-- where the count stood still, no fault was told
pub none_told : (count : ℕ) (faults : List Interval) → count < last_count → AreBetween count faults count → faults ≡ []
none_told count [] below p = refl
none_told count (fault ∷ faults) below p = absurd (rises_past fault.high faults p.2 p.0 p.1)
  where
    reach : (low high : ℕ) (faults : List Interval) → AreBetween low faults high → min low last_count ≤ high
    reach low high [] p = omega (arith, p)
    reach low high (fault ∷ faults) p = let r = reach fault.high high faults p.2 in let q = p.1 in omega (arith, p.0, q, r)

    rises_past : (high : ℕ) (faults : List Interval) → AreBetween high faults count → count ≤ fault.low → Rose fault.low high → ⊥
    rises_past high faults q low rose = let r = reach high count faults q in omega (arith, low, rose, r, below)
