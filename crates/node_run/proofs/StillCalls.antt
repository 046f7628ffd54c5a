-- A step with a calm luck leaves a core still that was still.
use Rattle.std.proofs.Common.{◌≡◌, ℕ, List, [], ◌∷◌, refl, sym, Bool, true, false, subst, arith}
use Rattle.std.specs.Prelude.{Option, Some, None, Result, Ok, Err, ⊤, if◌then◌else◌, ◌==◌, is_some, length}
use Rattle.meta_journal.specs.declared.entry.Act.{Act}
use Rattle.meta_journal.specs.declared.entry.Act.TheVariants.{Publish, Raise, Replace}
use Rattle.meta_journal.specs.declared.entry.Entry.{Entry}
use Rattle.meta_journal.specs.Places.{split_key}
use Rattle.source_checkpoint.specs.declared.ledger.Checkpoint.{Checkpoint}
use Rattle.source_log.specs.Log.{Log}
use Rattle.index_world.specs.Calls.{done_never, Unmade, begun, calm_call, calm_fate, made_behind, adopted_making, first_unless, transact, appended, entry_of, may_append, unless_short, and_then, settle_with, looked, asked, asked_clock, asked_and_looked, file_by, file_made, Grace, fetched, reborn, unless_empty, loaded}
use Rattle.index_world.specs.Core.{Core, file_at}
use Rattle.index_world.specs.Gate.{raise_call, replace_call, stage_call, publish_call, stage_act, task_act, task_call}
use Rattle.index_world.specs.SplitFile.{file_of}
use Rattle.indexing_run.specs.Outcomes as said
use Rattle.indexing_run.specs.Places.{Batch, IndexerHeld, IndexerPlace, idle, reading, staged, uploaded, Indexer}
use Rattle.indexing_run.specs.Steps.{Stepped, stepped, log_may_fail, log_called, take_checkpoints, idle_by, step_read, step_stage, batch_facts, step_upload, step_publish, step_batch, step_place, step_indexer}
use Rattle.root_search.specs.Requests.{ask_of, asked_of}
use Rattle.root_search.specs.Steps.{Request, no_request, opened, planned, Plan, Client, config_in, plan_given, opened_by, next_step, step_request, step_client}
use Rattle.root_search.proofs.Steps.{delete_core}
use Rattle.search_api.specs.Resolved.{Asked, IsDelete, IsSearch, Search}
use Rattle.search_api.specs.declared.unanswered.Unanswered.{Unanswered}
use Rattle.split_states.specs.declared.rows.Row.{Row}
use Rattle.upkeep_run.specs.Places as workers
use Rattle.upkeep_run.specs.Steps as working
use Rattle.upkeep_run.specs.declared.work.Aim.{Aim}
use Rattle.upkeep_run.specs.declared.work.Aim.TheVariants.{Deleting, Merging}
use Rattle.node_run.specs.Calm.{IsStill}
use Rattle.node_run.specs.Node.{Node, Line, At, Assign, StepIndexer, RestartIndexer, RestartClient, StepMerger, RestartMerger, StepDeleter, RestartDeleter, StepCollector, RestartCollector, RestartNode, Open, StepClient}
use Rattle.node_run.specs.Turns.{calm, indexer_at, client_named, indexer_turn_by, client_turn_by, worker_turn_by, with_deleter, with_merger, collector_turn_by, turn}
use Rattle.node_run.proofs.Calming.{asked_still, calm_risen, fetched_calm}
use Rattle.node_run.proofs.CalmSteps.{calm_indexing, calm_searching, load_still}
use Rattle.node_run.proofs.CollectorCalms.{collector_still}
use Rattle.node_run.proofs.WorkerCalms.{calm_working}
use Rattle.node_run.proofs.WorkerMoves.{fetched_same, planned_same, raised_same, replaced_same, staged_same, uploaded_same}
use Rattle.node_run.proofs.Moving.{checkpoints_same, stage_same, upload_same, publish_same, given_same, plan_same, fetch_same, assign_same, open_same, restart_same}

begun_still : (core : Core) → IsStill core → IsStill (begun calm_call core)
begun_still core s = record { late = s.late; standing = s.standing; unsure = s.unsure; below = omega (arith, s.below) }

-- ---- the calls

adopted_still : (standing : Option Entry) (before : ℕ) (act : Core → Act) (entry : Entry) (core : Core) → standing ≡ None → IsStill core →
    IsStill (adopted_making calm_call calm_call before act entry (made_behind standing entry core)).core
adopted_still None before act entry core e s = record { late = s.late; standing = refl; unsure = refl; below = s.below }
adopted_still (Some other) before act entry core e s = absurd (some_is_none e)
  where
    some_is_none : Some other ≡ None → ⊥
    some_is_none e = cc

first_still : (r : Result ⊤ Unmade) (act : Core → Act) (core : Core) → IsStill core → IsStill (first_unless r calm_call calm_call calm_call act core).core
first_still (Err e) act core s = s
first_still (Ok done) act core s = adopted_still core.standing core.store_faults act (entry_of (act core) core) (begun calm_call core) s.standing (begun_still core s)

transact_still : (b : Bool) (act : Core → Act) (core : Core) → b ≡ false → IsStill core → IsStill (transact b calm_call calm_call calm_call act core).core
transact_still true act core e s = absurd (true_is_false e)
  where
    true_is_false : true ≡ false → ⊥
    true_is_false e = cc
transact_still false act core e s = first_still (may_append (act core) core) act core s

pub appended_still : (act : Core → Act) (core : Core) → IsStill core → IsStill (appended calm_fate act core).core
appended_still act core s = transact_still core.unsure act (asked_clock core) s.unsure (asked_still core s)

looked_by_still : (b : Bool) (core : Core) → b ≡ false → IsStill core → IsStill (and_then (settle_with b calm_call calm_call core) (λ c. unless_short false c)).core
looked_by_still true core e s = absurd (true_is_false e)
  where
    true_is_false : true ≡ false → ⊥
    true_is_false e = cc
looked_by_still false core e s = s

looked_still : (core : Core) → IsStill core → IsStill (looked calm_fate core).core
looked_still core s = looked_by_still core.unsure core s.unsure s

file_still : (b : Bool) (before : ℕ) (key bytes : List ℕ) (core : Core) → IsStill core → IsStill (file_by false done_never b before key bytes core).core
file_still true before key bytes core s = s
file_still false before key bytes core s = record { late = s.late; standing = s.standing; unsure = s.unsure; below = s.below }

file_made_still : (key bytes : List ℕ) (core : Core) → IsStill core → IsStill (file_made calm_call key bytes core).core
file_made_still key bytes core s = file_still (is_some (file_at core.files key)) core.store_faults key bytes (begun calm_call core) (begun_still core s)

fetched_still : (grace : Grace) (core : Core) → IsStill core → IsStill (fetched grace calm_fate core).core
fetched_still grace core s = subst IsStill (sym (fetched_calm grace core s)) (asked_still core s)

-- ---- an indexer's step

-- the core that a call hands on
handed : (a b : Core) → b ≡ a → IsStill a → IsStill b
handed a b e s = subst IsStill (sym e) s

take_still : (log : Log) (indexer : Indexer) (core : Core) → IsStill core → IsStill (take_checkpoints calm_indexing log indexer core).core
take_still log indexer core s =
    let given = looked calm_fate core in
    handed given.core _ (checkpoints_same given.answer log indexer given.core) (looked_still core s)

module _ (log : Log) (indexer : Indexer) (core : Core) (s : IsStill core) where
  idle_still : (b : Bool) (names : Option (List (List ℕ))) → IsStill (idle_by b names calm_indexing log indexer core).core
  idle_still true None = s
  idle_still false None = take_still log (log_called calm_indexing.log indexer) core s
  idle_still true (Some names) = take_still log indexer core s
  idle_still false (Some names) = take_still log indexer core s

  read_still : (batch : Batch) (queue : List Checkpoint) → IsStill (step_read calm_indexing log batch queue indexer core).core
  read_still batch [] = s
  read_still batch (mark ∷ rest) =
      let given = asked calm_fate core in
      handed given.core _ (given_same calm_indexing log batch mark rest indexer given.answer given.core) (asked_still core s)

  stage_still : (batch : Batch) → IsStill (step_stage calm_indexing batch indexer core).core
  stage_still batch =
      let given = stage_call batch.parts (batch_facts batch) calm_fate core in
      handed given.core _ (stage_same given.answer batch indexer given.core) (appended_still (stage_act batch.parts (batch_facts batch)) core s)

  upload_still : (held : IndexerHeld) → IsStill (step_upload calm_indexing held indexer core).core
  upload_still held =
      let given = file_made calm_call (split_key held.number) (file_of held.config held.documents) core in
      handed given.core _ (upload_same given.answer held indexer given.core) (file_made_still (split_key held.number) (file_of held.config held.documents) core s)

  publish_still : (held : IndexerHeld) → IsStill (step_publish calm_indexing held indexer core).core
  publish_still held =
      let given = publish_call held.number calm_fate core in
      handed given.core _ (publish_same given.answer held indexer given.core) (appended_still (λ c. Publish held.number) core s)

  choice_still : (b : Bool) (x y : Stepped) → IsStill x.core → IsStill y.core → IsStill (if b then x else y).core
  choice_still true x y h k = h
  choice_still false x y h k = k

  batch_still : (batch : Batch) → IsStill (step_batch calm_indexing log batch indexer core).core
  batch_still batch =
      choice_still batch.closed (if batch.count == 0 then stepped (Some said.CaughtUp) idle indexer core else step_stage calm_indexing batch indexer core)
      (step_read calm_indexing log batch batch.queue indexer core)
      (choice_still (batch.count == 0) (stepped (Some said.CaughtUp) idle indexer core) (step_stage calm_indexing batch indexer core) s (stage_still batch))
      (read_still batch batch.queue)

  place_still : (place : IndexerPlace) → IsStill (step_place place calm_indexing log indexer core).core
  place_still idle = idle_still (log_may_fail calm_indexing.log indexer.log_faults) indexer.assignment
  place_still (reading batch) = batch_still batch
  place_still (staged held) = upload_still held
  place_still (uploaded held) = publish_still held

  indexer_still : IsStill (step_indexer calm_indexing log indexer core).core
  indexer_still = place_still indexer.place

-- ---- a client's step

module _ (log : Log) (client : Client) (core : Core) (s : IsStill core) where
  next_still : (plan : Plan) (unfetched : List ℕ) → IsStill (next_step calm_searching log plan unfetched client core).core
  next_still plan [] = s
  next_still plan (number ∷ more) =
      let given = fetched plan.grace calm_fate core in
      handed given.core _ (fetch_same given.answer plan number more client given.core) (fetched_still plan.grace core s)

  plan_still : (asked : Result Search Unanswered) → IsStill (plan_given asked client (asked_and_looked calm_fate core)).core
  plan_still asked =
      let given = asked_and_looked calm_fate core in
      handed given.core _ (plan_same given.answer asked client given.core) (looked_still (asked_clock core) (asked_still core s))

  opened_still : (asked : Result Asked Unanswered) → IsStill (opened_by asked calm_fate client core).core
  opened_still (Ok (IsSearch search)) = plan_still (Ok search)
  opened_still (Ok (IsDelete deletion)) =
      let given = task_call (ask_of deletion) calm_fate core in
      handed given.core _ (delete_core given.answer client given.core) (appended_still (task_act (ask_of deletion)) core s)
  opened_still (Err reason) = plan_still (Err reason)

  request_still : (request : Request) → IsStill (step_request request calm_searching log client core).core
  request_still no_request = s
  request_still (opened text) = opened_still (asked_of (config_in core) text)
  request_still (planned plan) = next_still plan plan.unfetched

  client_still : IsStill (step_client calm_searching log client core).core
  client_still = request_still client.request

-- ---- a worker's step

module _ (log : Log) (core : Core) (s : IsStill core) where
  planned_still : (aim : Aim) → IsStill (working.step_plan aim calm_working log core).core
  planned_still aim =
      let given = asked_and_looked calm_fate core in
      handed given.core _ (planned_same aim given.answer log given.core) (looked_still (asked_clock core) (asked_still core s))

  staged_still : (held : ℕ → workers.WorkerHeld) → IsStill (working.step_stage calm_working held core).core
  staged_still held =
      let given = stage_call [] (workers.held_facts (held 0)) calm_fate core in
      handed given.core _ (staged_same given.answer held given.core) (appended_still (stage_act [] (workers.held_facts (held 0))) core s)

  raised_still : (number upto : ℕ) → IsStill (working.step_raise calm_working number upto core).core
  raised_still number upto =
      let given = raise_call number upto calm_fate core in
      handed given.core _ (raised_same given.answer number given.core) (appended_still (λ c. Raise number upto) core s)

  either_still : (b : Bool) (x y : working.Stepped) → IsStill x.core → IsStill y.core → IsStill (if b then x else y).core
  either_still true x y h k = h
  either_still false x y h k = k

  closed_still : (aim : Aim) (work : workers.Work) → IsStill (working.step_close aim calm_working work core).core
  closed_still Merging work = staged_still (working.held_of Merging work core)
  closed_still Deleting work =
      let number = working.first_number work.rows in
      either_still (working.drops_none work core) (working.step_raise calm_working number work.upto core) (working.step_stage calm_working (working.held_of Deleting work core) core)
      (raised_still number work.upto) (staged_still (working.held_of Deleting work core))

  work_still : (aim : Aim) (work : workers.Work) (unfetched : List Row) → IsStill (working.step_work aim calm_working work unfetched core).core
  work_still aim work [] = closed_still aim work
  work_still aim work (row ∷ more) =
      let given = fetched (working.grace_in work) calm_fate core in
      handed given.core _ (fetched_same given.answer work row.number more given.core) (fetched_still (working.grace_in work) core s)

  pub worker_still : (aim : Aim) (place : workers.WorkerPlace) → IsStill (working.step_worker aim calm_working log place core).core
  worker_still aim workers.idle = planned_still aim
  worker_still aim (workers.fetching work) = work_still aim work work.unfetched
  worker_still aim (workers.staged held) =
      let given = file_made calm_call (split_key held.number) (workers.held_file held) core in
      handed given.core _ (uploaded_same given.answer held given.core) (file_made_still (split_key held.number) (workers.held_file held) core s)
  worker_still aim (workers.uploaded held) =
      let given = replace_call held.number held.old held.upto calm_fate core in
      handed given.core _ (replaced_same given.answer held.number given.core) (appended_still (λ c. Replace held.number held.old held.upto) core s)

-- ---- a line

-- an opening with a calm fate
pub opened_calm : (core : Core) → IsStill core → loaded calm_fate core ≡ unless_empty (length core.history == 0) (reborn core)
opened_calm core s = load_still calm_call calm_call core s (calm_risen core.store_faults s.below) (calm_risen core.store_faults s.below)

empty_still : (b : Bool) (core : Core) → IsStill core → IsStill (unless_empty b core).core
empty_still true core s = s
empty_still false core s = s

pub reborn_still : (core : Core) → IsStill core → IsStill (reborn core)
reborn_still core s = record { late = s.late; standing = s.standing; unsure = refl; below = s.below }

loaded_still : (core : Core) → IsStill core → IsStill (loaded calm_fate core).core
loaded_still core s =
    subst (λ g. IsStill g.core) (sym (opened_calm core s)) (empty_still (length core.history == 0) (reborn core) (reborn_still core s))

module _ (node : Node) (s : IsStill node.core) where
  indexer_turn_still : (down : Bool) (i : ℕ) → IsStill (indexer_turn_by down calm i node).node.core
  indexer_turn_still true i = s
  indexer_turn_still false i = indexer_still node.log (indexer_at node.indexers i) node.core s

  client_turn_still : (down : Bool) (name : List ℕ) → IsStill (client_turn_by down calm name node).node.core
  client_turn_still true name = s
  client_turn_still false name = client_still node.log (client_named name node.clients) node.core s

  worker_turn_still : (down : Bool) (aim : Aim) (worker : workers.WorkerPlace) (keep : workers.WorkerPlace → Node → Node) → IsStill (worker_turn_by down aim worker keep calm node).node.core
  worker_turn_still true aim worker keep = s
  worker_turn_still false aim worker keep = worker_still node.log node.core s aim worker

  collector_turn_still : (down : Bool) → IsStill (collector_turn_by down calm node).node.core
  collector_turn_still true = s
  collector_turn_still false = collector_still node.core s

  -- a line with a calm luck leaves the core still
  pub turn_still : (line : Line) → IsStill (turn node line).node.core
  turn_still (At moment) = record { late = s.late; standing = s.standing; unsure = s.unsure; below = s.below }
  turn_still (Assign i names) =
      handed node.core _ (assign_same (indexer_at node.indexers i).place i names (indexer_at node.indexers i) node) s
  turn_still (StepIndexer i) = indexer_turn_still node.down i
  turn_still (RestartIndexer i) = s
  turn_still (RestartClient name) = s
  turn_still StepMerger = worker_turn_still node.down Merging node.merger with_merger
  turn_still RestartMerger = s
  turn_still StepDeleter = worker_turn_still node.down Deleting node.deleter with_deleter
  turn_still RestartDeleter = s
  turn_still StepCollector = collector_turn_still node.down
  turn_still RestartCollector = s
  turn_still RestartNode =
      let given = loaded calm_fate node.core in
      handed given.core _ (restart_same given.answer given.core node) (loaded_still node.core s)
  turn_still (Open name text) =
      handed node.core _ (open_same (client_named name node.clients).request name text (client_named name node.clients) node) s
  turn_still (StepClient name) = client_turn_still node.down name
