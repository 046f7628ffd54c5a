-- A line of a node over a sound index tells no foreign key.
use Rattle.std.proofs.Common.{◌≡◌, ℕ, Bool, true, false, List, [], ◌∷◌, length, refl, sym, subst}
use Rattle.std.specs.List.{AllByRecursion, AllZip}
use Rattle.std.specs.Prelude.{Option, Some, None, Result, Ok, Err, ⊤, if◌then◌else◌, ◌==◌, ◌||◌, slice_get}
use Rattle.meta_journal.specs.Places.{split_key}
use Rattle.meta_journal.specs.declared.entry.Act.TheVariants.{Publish}
use Rattle.meta_store.specs.declared.refusal.Refusal.{Refusal}
use Rattle.meta_store.specs.declared.refusal.Refusal.TheVariants.{MomentBack, NotCreated, AlreadyCreated, BadConfig, NotNext, Delta, State, BadTask, UptoAhead, TooManyTasks, TooManyRows, TooManySpans}
use Rattle.source_checkpoint.specs.declared.delta.StaleDelta.{StaleDelta}
use Rattle.source_checkpoint.specs.declared.delta.StaleDelta.TheVariants as deltas
use Rattle.source_checkpoint.specs.declared.ledger.Checkpoint.{Checkpoint}
use Rattle.source_log.specs.Log.{Log}
use Rattle.index_world.specs.Calls.{store_fault, is_foreign, is_full, is_expired, Trouble, faulted, no_memory, Unmade, refused, troubled, Unread, not_read, begun, or_short, appended, looked, asked_and_looked, asked, file_made, loaded}
use Rattle.index_world.specs.Calls as calls
use Rattle.index_world.specs.Core.{Core}
use Rattle.index_world.specs.Gate.{stage_act, task_act, task_call}
use Rattle.index_world.specs.Seen.{visible_at}
use Rattle.index_world.specs.SplitFile.{file_of}
use Rattle.index_world.specs.World.{Keeping, WorldStands}
use Rattle.index_world.proofs.Indexing.{All-get}
use Rattle.indexing_run.specs.Outcomes.{IndexerOutcome}
use Rattle.indexing_run.specs.Places.{Batch, IndexerHeld, IndexerPlace, idle, reading, staged, uploaded, Indexer}
use Rattle.indexing_run.specs.Standing.{PlaceStands, IndexerStands}
use Rattle.indexing_run.specs.Steps.{Stepped, log_may_fail, log_called, checkpoints_by, take_checkpoints, idle_by, read_by, read_given, step_read, stage_by, batch_facts, upload_by, publish_by, publish_refused, step_batch, step_place, step_indexer}
use Rattle.indexing_run.specs.Steps as indexing
use Rattle.indexing_run.specs.declared.indexer.Indexer.{Indexer as Reader}
use Rattle.indexing_run.specs.declared.indexer.IndexerPlace.{IndexerPlace as HeldPlace}
use Rattle.indexing_run.specs.declared.indexer.IndexerPlace.TheVariants as places
use Rattle.root_search.specs.Requests.{ask_of, asked_of}
use Rattle.root_search.specs.Steps.{Request, no_request, opened, planned, Plan, Client, config_at, config_in, state_refusal, plan_by, plan_given, delete_by, opened_by, fetch_by, fetched_each, next_step, step_request, step_client}
use Rattle.root_search.specs.Steps as searching
use Rattle.root_search.specs.declared.outcome.SearchStep.{SearchStep}
use Rattle.search_api.specs.Resolved.{Asked, IsDelete, IsSearch, Search}
use Rattle.search_api.specs.declared.reply.Refusal.{Refusal as Unfit}
use Rattle.search_api.specs.declared.unanswered.Unanswered.{Unanswered}
use Rattle.search_api.specs.declared.unanswered.Unanswered.TheVariants as reasons
use Rattle.split_collector.specs.Outcomes.{Outcome as CollectorOutcome}
use Rattle.upkeep_run.specs.Outcomes.{UpkeepOutcome}
use Rattle.upkeep_run.specs.Places.{WorkerPlace as Worker}
use Rattle.upkeep_run.specs.Standing as works
use Rattle.upkeep_run.specs.declared.work.Aim.{Aim}
use Rattle.upkeep_run.specs.declared.work.Aim.TheVariants.{Deleting, Merging}
use Rattle.upkeep_run.specs.declared.work.WorkerPlace.{WorkerPlace as WorkerPlace}
use Rattle.node_run.specs.Node.{Node, Line, At, Assign, StepIndexer, RestartIndexer, RestartClient, StepMerger, RestartMerger, StepDeleter, RestartDeleter, StepCollector, RestartCollector, RestartNode, Open, StepClient, Outcome}
use Rattle.node_run.specs.Telling.{IndexerMayTell, RefusalMayTell, SearchMayTell, LineMayTell}
use Rattle.request_laws.specs.OfText.{IsOfText, OfText}
use Rattle.node_run.specs.Turns.{LineLuck, Turned, indexer_or, indexer_at, indexing_luck, searching_luck, said_by_indexer, said_by_client, assign_at, indexer_turn_by, client_turn_by, client_named, working_luck, said_by_worker, worker_turn_by, with_deleter, with_merger, collecting_luck, collector_turn_by, said_by_collector, open_by, restart_by, full_turn, or_quiet, turn_by, Turn}
use Rattle.node_run.proofs.Refusals.{asked_of_text, text_may, answer_may}
use Rattle.call_laws.proofs.CallTells.{AreLow, IsStoreTrouble, IsOwnTrouble, IfErr, appended_own, file_own, copied_own, asked_and_looked_own, asked_own, IsFetchTrouble, IsStoreUnread, load_own, IsFree, store_not_foreign}
use Rattle.node_run.proofs.Fetches.{each_own}
use Rattle.node_run.proofs.CollectorTells.{Tells, collector_tells}
use Rattle.node_run.proofs.WorkerTells.{WorkTells, WorkerIsFree, worker_free, worker_tells}
use Rattle.node_run.proofs.OwnEntries.{IsLawful, world_lawful}

-- ---- an indexer's step

abbrev StepTells : Option IndexerOutcome → Type 0
StepTells None = Unit {0}
StepTells (Some outcome) = IndexerMayTell outcome

trouble_tells : (trouble : Trouble) → IsStoreTrouble trouble → StepTells (indexing.trouble_outcome trouble)
trouble_tells (faulted fault) h = store_not_foreign fault h
trouble_tells no_memory h = tt

unmade_tells : (trouble : Trouble) → IsOwnTrouble (troubled trouble) → StepTells (indexing.trouble_outcome trouble)
unmade_tells (faulted fault) h = h
unmade_tells no_memory h = tt

stale_tells : (number : ℕ) (delta : StaleDelta) → IndexerMayTell (indexing.stale_or_lost number delta)
stale_tells number (deltas.Stale partition current from) = tt
stale_tells number (deltas.BackwardDelta partition) = tt
stale_tells number (deltas.DoubledPartition partition) = tt

publish_tells : (number : ℕ) (refusal : Refusal) → IndexerMayTell (publish_refused number refusal)
publish_tells number (Delta fault) = stale_tells number fault
publish_tells number (MomentBack given greatest) = tt
publish_tells number NotCreated = tt
publish_tells number AlreadyCreated = tt
publish_tells number (BadConfig error) = tt
publish_tells number (NotNext given next) = tt
publish_tells number (State refusal) = tt
publish_tells number (BadTask error) = tt
publish_tells number (UptoAhead upto last) = tt
publish_tells number (TooManyTasks count) = tt
publish_tells number (TooManyRows count) = tt
publish_tells number (TooManySpans count) = tt

abbrev PlaceIsFree : Core → IndexerPlace → Type 0
PlaceIsFree core idle = Unit {0}
PlaceIsFree core (reading batch) = Unit {0}
PlaceIsFree core (staged held) = IsFree core (split_key held.number)
PlaceIsFree core (uploaded held) = Unit {0}

module _ (luck : indexing.IndexerLuck) (log : Log) (core : Core) (low : AreLow (length core.history) core) where
  checkpoints_tell : (r : Result ⊤ Trouble) (indexer : Indexer) (c : Core) → IfErr IsStoreTrouble r → StepTells (checkpoints_by r log indexer c).outcome
  checkpoints_tell (Ok done) indexer c h = tt
  checkpoints_tell (Err trouble) indexer c h = trouble_tells trouble h

  take_tells : (indexer : Indexer) → StepTells (take_checkpoints luck log indexer core).outcome
  take_tells indexer = checkpoints_tell (looked luck.world core).answer indexer (looked luck.world core).core (copied_own luck.world core)

  idle_tells : (b : Bool) (names : Option (List (List ℕ))) (indexer : Indexer) → StepTells (idle_by b names luck log indexer core).outcome
  idle_tells true None indexer = tt
  idle_tells false None indexer = take_tells (log_called luck.log indexer)
  idle_tells true (Some names) indexer = take_tells indexer
  idle_tells false (Some names) indexer = take_tells indexer

  unless_tells : (b : Bool) (indexer : Indexer) → StepTells (indexing.idle_unless b luck log indexer core).outcome
  unless_tells true indexer = tt
  unless_tells false indexer = idle_tells (log_may_fail luck.log indexer.log_faults) indexer.assignment indexer

  read_by_tells : (b : Bool) (batch : Batch) (mark : Checkpoint) (rest : List Checkpoint) (indexer : Indexer) (c : Core) → StepTells (read_by b luck log batch mark rest indexer c).outcome
  read_by_tells true batch mark rest indexer c = tt
  read_by_tells false batch mark rest indexer c = tt

  given_tells : (batch : Batch) (mark : Checkpoint) (rest : List Checkpoint) (indexer : Indexer) (r : Result ⊤ Trouble) (c : Core) → IfErr IsStoreTrouble r →
      StepTells (read_given luck log batch mark rest indexer r c).outcome
  given_tells batch mark rest indexer (Err trouble) c h = trouble_tells trouble h
  given_tells batch mark rest indexer (Ok done) c h = read_by_tells (log_may_fail luck.log indexer.log_faults) batch mark rest indexer c

  read_tells : (batch : Batch) (queue : List Checkpoint) (indexer : Indexer) → StepTells (step_read luck log batch queue indexer core).outcome
  read_tells batch [] indexer = tt
  read_tells batch (mark ∷ rest) indexer = given_tells batch mark rest indexer (asked luck.world core).answer (asked luck.world core).core (asked_own luck.world core)

  stage_tells : (r : Result ⊤ Unmade) (batch : Batch) (indexer : Indexer) (c : Core) → IfErr IsOwnTrouble r → StepTells (stage_by r batch indexer c).outcome
  stage_tells (Ok done) batch indexer c h = tt
  stage_tells (Err (refused refusal)) batch indexer c h = tt
  stage_tells (Err (troubled trouble)) batch indexer c h = unmade_tells trouble h

  upload_tells : (r : Result ⊤ Trouble) (held : IndexerHeld) (indexer : Indexer) (c : Core) → IfErr IsStoreTrouble r → StepTells (upload_by r held indexer c).outcome
  upload_tells (Ok done) held indexer c h = tt
  upload_tells (Err trouble) held indexer c h = trouble_tells trouble h

  published_tells : (r : Result ⊤ Unmade) (held : IndexerHeld) (indexer : Indexer) (c : Core) → IfErr IsOwnTrouble r → StepTells (publish_by r held indexer c).outcome
  published_tells (Ok done) held indexer c h = tt
  published_tells (Err (refused refusal)) held indexer c h = publish_tells held.number refusal
  published_tells (Err (troubled trouble)) held indexer c h = unmade_tells trouble h

  choice_tells : (b : Bool) (x y : Stepped) → StepTells x.outcome → StepTells y.outcome → StepTells (if b then x else y).outcome
  choice_tells true x y p q = p
  choice_tells false x y p q = q

  batch_tells : (batch : Batch) (indexer : Indexer) → StepTells (step_batch luck log batch indexer core).outcome
  batch_tells batch indexer =
      let given = appended luck.world (stage_act batch.parts (batch_facts batch)) core in
      choice_tells batch.closed _ _
      (choice_tells (batch.count == 0) _ _ tt (stage_tells given.answer batch indexer given.core (appended_own luck.world (stage_act batch.parts (batch_facts batch)) core low)))
      (read_tells batch batch.queue indexer)

  place_tells : (place : IndexerPlace) (indexer : Indexer) → PlaceIsFree core place → StepTells (step_place place luck log indexer core).outcome
  place_tells idle indexer f = unless_tells luck.log.short indexer
  place_tells (reading batch) indexer f = batch_tells batch indexer
  place_tells (staged held) indexer f =
      let given = file_made luck.world.first (split_key held.number) (file_of held.config held.documents) core in
      upload_tells given.answer held indexer given.core (file_own luck.world.first (split_key held.number) (file_of held.config held.documents) core f)
  place_tells (uploaded held) indexer f =
      let given = appended luck.world (λ c. Publish held.number) core in
      published_tells given.answer held indexer given.core (appended_own luck.world (λ c. Publish held.number) core low)

  short_tells : (b : Bool) (step : Stepped) → StepTells step.outcome → StepTells (indexing.or_short b step).outcome
  short_tells true step p = tt
  short_tells false step p = p

  indexer_tells : (indexer : Indexer) → PlaceIsFree core indexer.place → StepTells (step_indexer luck log indexer core).outcome
  indexer_tells indexer f = short_tells luck.short _ (place_tells indexer.place indexer f)

-- ---- a client's step

abbrev SearchTells : Option SearchStep → Type 0
SearchTells None = Unit {0}
SearchTells (Some step) = SearchMayTell step

own_tells : (revision : ℕ) (trouble : Trouble) (client : Client) (core : Core) → IsOwnTrouble (troubled trouble) → SearchTells (searching.trouble_replied revision trouble client core).outcome
own_tells revision (faulted (store_fault before after)) client core h = tt
own_tells revision (faulted (is_foreign key)) client core h = absurd h
own_tells revision (faulted is_full) client core h = tt
own_tells revision (faulted (is_expired planned_at now)) client core h = absurd h
own_tells revision no_memory client core h = tt

replied_tells : (revision : ℕ) (trouble : Trouble) (client : Client) (core : Core) → IsStoreTrouble trouble → SearchTells (searching.trouble_replied revision trouble client core).outcome
replied_tells revision (faulted fault) client core h = own_tells revision (faulted fault) client core (store_not_foreign fault h)
replied_tells revision no_memory client core h = tt

too_late_tells : (revision : ℕ) (trouble : Trouble) (client : Client) (core : Core) → IsFetchTrouble trouble → SearchTells (searching.trouble_replied revision trouble client core).outcome
too_late_tells revision (faulted (store_fault before after)) client core h = tt
too_late_tells revision (faulted (is_foreign key)) client core h = absurd h
too_late_tells revision (faulted is_full) client core h = absurd h
too_late_tells revision (faulted (is_expired planned_at now)) client core h = tt
too_late_tells revision no_memory client core h = tt

refused_tells : (revision : ℕ) (refusal : Unfit) (trouble : Trouble) (client : Client) (core : Core) → IsOfText refusal →
    SearchTells (searching.refused_over revision refusal trouble client core).outcome
refused_tells revision refusal (faulted fault) client core h = text_may refusal h
refused_tells revision refusal no_memory client core h = tt

plan_tells : (r : Result ⊤ Trouble) (asked : Result Search Unanswered) (client : Client) (core : Core) → IfErr IsStoreTrouble r → OfText asked →
    SearchTells (plan_by r asked client core).outcome
plan_tells (Ok done) (Ok search) client core h a = tt
plan_tells (Ok done) (Err (reasons.Refused refusal)) client core h a = text_may refusal a
plan_tells (Ok done) (Err (reasons.Memory e)) client core h a = tt
plan_tells (Err trouble) (Ok search) client core h a = replied_tells client.front trouble client core h
plan_tells (Err trouble) (Err (reasons.Refused refusal)) client core h a = refused_tells client.front refusal trouble client core a
plan_tells (Err trouble) (Err (reasons.Memory e)) client core h a = tt

-- why the state refuses the task of a delete
state_may : (refusal : Refusal) → RefusalMayTell (state_refusal refusal)
state_may (MomentBack given greatest) = tt
state_may NotCreated = tt
state_may AlreadyCreated = tt
state_may (BadConfig error) = tt
state_may (NotNext given next) = tt
state_may (Delta fault) = tt
state_may (State refusal) = tt
state_may (BadTask error) = tt
state_may (UptoAhead upto last) = tt
state_may (TooManyTasks count) = tt
state_may (TooManyRows count) = tt
state_may (TooManySpans count) = tt

delete_tells : (r : Result ⊤ Unmade) (client : Client) (core : Core) → IfErr IsOwnTrouble r → SearchTells (delete_by r client core).outcome
delete_tells (Ok done) client core h = tt
delete_tells (Err (refused refusal)) client core h = state_may refusal
delete_tells (Err (troubled trouble)) client core h = own_tells client.front trouble client core h

fetch_tells : (r : Result ⊤ Trouble) (plan : Plan) (number : ℕ) (more : List ℕ) (client : Client) (core : Core) → IfErr IsFetchTrouble r →
    SearchTells (fetch_by r plan number more client core).outcome
fetch_tells (Ok done) plan number more client core h = tt
fetch_tells (Err trouble) plan number more client core h = too_late_tells plan.revision trouble client core h

module _ (luck : searching.ClientLuck) (log : Log) (client : Client) (core : Core) (low : AreLow (length core.history) core) where
  next_tells : (plan : Plan) (unfetched : List ℕ) → SearchTells (next_step luck log plan unfetched client core).outcome
  next_tells plan [] = answer_may (config_at plan.revision core).schema plan.search (visible_at plan.revision core.history log)
  next_tells plan (number ∷ more) =
      let given = fetched_each plan.grace luck.world luck.more core in
      fetch_tells given.answer plan number more client given.core (each_own plan.grace luck.more luck.world core)

  given_plan_tells : (asked : Result Search Unanswered) → OfText asked → SearchTells (plan_given asked client (asked_and_looked luck.world core)).outcome
  given_plan_tells asked a =
      let given = asked_and_looked luck.world core in
      plan_tells given.answer asked client given.core (asked_and_looked_own luck.world core) a

  opened_tells : (asked : Result Asked Unanswered) → OfText asked → SearchTells (opened_by asked luck.world client core).outcome
  opened_tells (Ok (IsSearch search)) a = given_plan_tells (Ok search) tt
  opened_tells (Ok (IsDelete deletion)) a =
      let given = task_call (ask_of deletion) luck.world core in
      delete_tells given.answer client given.core (appended_own luck.world (task_act (ask_of deletion)) core low)
  opened_tells (Err reason) a = given_plan_tells (Err reason) a

  request_tells : (request : Request) → SearchTells (step_request request luck log client core).outcome
  request_tells no_request = tt
  request_tells (opened text) = opened_tells (asked_of (config_in core) text) (asked_of_text (config_in core) text)
  request_tells (planned plan) = next_tells plan plan.unfetched

  client_short : (b : Bool) (step : searching.Searched) → SearchTells step.outcome → SearchTells (searching.or_short b client step).outcome
  client_short true step p = tt
  client_short false step p = p

  client_tells : SearchTells (step_client luck log client core).outcome
  client_tells = client_short luck.short _ (request_tells client.request)

-- ---- a line

indexer_line : (i : ℕ) (outcome : Option IndexerOutcome) → StepTells outcome → LineMayTell (said_by_indexer i outcome)
indexer_line i None h = tt
indexer_line i (Some outcome) h = h

client_line : (name : List ℕ) (outcome : Option SearchStep) → SearchTells outcome → LineMayTell (said_by_client name outcome)
client_line name None h = tt
client_line name (Some outcome) h = h

worker_line : (aim : Aim) (outcome : Option UpkeepOutcome) → WorkTells aim outcome → LineMayTell (said_by_worker aim outcome)
worker_line aim None h = tt
worker_line aim (Some outcome) h = h

collector_line : (outcome : Option CollectorOutcome) → Tells outcome → LineMayTell (said_by_collector outcome)
collector_line None h = tt
collector_line (Some outcome) h = h

restart_tells : (r : Result ⊤ Unread) (core : Core) (node : Node) → IfErr IsStoreUnread r → LineMayTell (restart_by r core node).said
restart_tells (Ok done) core node h = tt
restart_tells (Err (not_read (faulted fault))) core node h = h
restart_tells (Err (not_read no_memory)) core node h = tt
restart_tells (Err calls.no_index) core node h = tt

-- what a node that stands knows
record IsOwn (node : Node) : Type 0 where
  lawful : IsLawful node.core
  free : AllByRecursion (λ indexer. PlaceIsFree node.core indexer.place) node.indexers
  merger_free : WorkerIsFree node.core node.merger
  deleter_free : WorkerIsFree node.core node.deleter

free_or : (core : Core) (o : Option Indexer) → ((indexer : Indexer) → o ≡ Some indexer → PlaceIsFree core indexer.place) → PlaceIsFree core (indexer_or o).place
free_or core None f = tt
free_or core (Some indexer) f = f indexer refl

module _ (luck : LineLuck) (node : Node) (own : IsOwn node) where
  assign_tells : (place : IndexerPlace) (i : ℕ) (names : List (List ℕ)) (indexer : Indexer) → LineMayTell (assign_at place i names indexer node).said
  assign_tells idle i names indexer = tt
  assign_tells (reading batch) i names indexer = tt
  assign_tells (staged held) i names indexer = tt
  assign_tells (uploaded held) i names indexer = tt

  open_tells : (request : Request) (name text : List ℕ) (client : Client) → LineMayTell (open_by request name text client node).said
  open_tells no_request name text client = tt
  open_tells (opened other) name text client = tt
  open_tells (planned plan) name text client = tt

  indexer_turn_tells : (down : Bool) (i : ℕ) → LineMayTell (indexer_turn_by down luck i node).said
  indexer_turn_tells true i = tt
  indexer_turn_tells false i =
      indexer_line i _ (indexer_tells (indexing_luck luck) node.log node.core own.lawful.low (indexer_at node.indexers i)
      (free_or node.core (slice_get node.indexers i) (λ indexer at. All-get (λ x. PlaceIsFree node.core x.place) node.indexers i indexer own.free at)))

  client_turn_tells : (down : Bool) (name : List ℕ) → LineMayTell (client_turn_by down luck name node).said
  client_turn_tells true name = tt
  client_turn_tells false name = client_line name _ (client_tells (searching_luck luck) node.log (client_named name node.clients) node.core own.lawful.low)

  worker_turn_tells : (down : Bool) (aim : Aim) (worker : Worker) (keep : Worker → Node → Node) → WorkerIsFree node.core worker → LineMayTell (worker_turn_by down aim worker keep luck node).said
  worker_turn_tells true aim worker keep free = tt
  worker_turn_tells false aim worker keep free = worker_line aim _ (worker_tells (working_luck luck) node.log node.core own.lawful.low aim worker free)

  collector_turn_tells : (down : Bool) → LineMayTell (collector_turn_by down luck node).said
  collector_turn_tells true = tt
  collector_turn_tells false = collector_line _ (collector_tells (collecting_luck luck) node.core own.lawful)

  full_tells : (line : Line) → LineMayTell (full_turn luck node line).said
  full_tells (At moment) = tt
  full_tells (Assign i names) = assign_tells (indexer_at node.indexers i).place i names (indexer_at node.indexers i)
  full_tells (StepIndexer i) = indexer_turn_tells node.down i
  full_tells (RestartIndexer i) = tt
  full_tells (RestartClient name) = tt
  full_tells StepMerger = worker_turn_tells node.down Merging node.merger with_merger own.merger_free
  full_tells RestartMerger = tt
  full_tells StepDeleter = worker_turn_tells node.down Deleting node.deleter with_deleter own.deleter_free
  full_tells RestartDeleter = tt
  full_tells StepCollector = collector_turn_tells node.down
  full_tells RestartCollector = tt
  full_tells RestartNode =
      restart_tells (loaded luck.world node.core).answer (loaded luck.world node.core).core node
      (load_own (luck.world.first.short || luck.world.second.short) _ luck.world.second node.core.store_faults (begun luck.world.first node.core))
  full_tells (Open name text) = open_tells (client_named name node.clients).request name text (client_named name node.clients)
  full_tells (StepClient name) = client_turn_tells node.down name

  quiet_tells : (b : Bool) (line : Line) (turn : Turned) → LineMayTell turn.said → LineMayTell (or_quiet b line turn).said
  quiet_tells true line turn h = tt
  quiet_tells false line turn h = h

  by_tells : (b : Bool) (line : Line) → LineMayTell (turn_by b luck node line).said
  by_tells true line = tt
  by_tells false line = quiet_tells luck.short line (full_turn luck node line) (full_tells line)

turn_tells : (node : Node) (line : Line) (said : Option Outcome) (last : Node) → IsOwn node → Turn node line said last → LineMayTell said
turn_tells node line said last own turn = subst (λ t. LineMayTell t.said) turn.is (by_tells turn.luck node own turn.luck.early line)

-- ---- a node of the code

placed_free : (log : Log) (core : Core) (held : HeldPlace) (place : IndexerPlace) → PlaceStands log core held place → PlaceIsFree core place
placed_free log core places.Idle place s = subst (PlaceIsFree core) (sym s) tt
placed_free log core (places.Reading held) place s = subst (PlaceIsFree core) (sym s.1) tt
placed_free log core (places.Staged token bytes) place s =
    subst (PlaceIsFree core) (sym s.1) (record { absent = s.4.unused.absent; not_late = s.4.unused.not_late })
placed_free log core (places.Uploaded token) place s = subst (PlaceIsFree core) (sym s.1) tt

module _ {L : Type 0} (told : L → Option Log) (count : L → ℕ) (core : Core) (log : Log) where
  readers_free : (readers : List (Reader L)) (indexers : List Indexer) → AllZip (λ reader indexer. IndexerStands told count reader indexer core log) readers indexers →
      AllByRecursion (λ indexer. PlaceIsFree core indexer.place) indexers
  readers_free [] [] z = tt
  readers_free [] (indexer ∷ indexers) z = absurd z
  readers_free (reader ∷ readers) [] z = absurd z
  readers_free (reader ∷ readers) (indexer ∷ indexers) z = (placed_free log core reader.place indexer.place z.0.place, readers_free readers indexers z.1)

pub stands_own : {L : Type 0} (told : L → Option Log) (count : L → ℕ) (node : Node) (world : Keeping) (readers : List (Reader L)) (merger deleter : WorkerPlace) →
    WorldStands world node.core node.log → AllZip (λ reader indexer. IndexerStands told count reader indexer node.core node.log) readers node.indexers → works.PlaceStands Merging node.log node.core merger node.merger →
    works.PlaceStands Deleting node.log node.core deleter node.deleter →
    (line : Line) (said : Option Outcome) (last : Node) → Turn node line said last → LineMayTell said
stands_own told count node world readers merger deleter stands indexers merging deleting line said last turn =
    turn_tells node line said last
    (record {
      lawful = world_lawful world node.core node.log stands;
      free = readers_free told count node.core node.log readers node.indexers indexers;
      merger_free = worker_free Merging node.log node.core merger node.merger merging;
      deleter_free = worker_free Deleting node.log node.core deleter node.deleter deleting;
    })
    turn
