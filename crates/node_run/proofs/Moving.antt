-- Whatever lands and fails, a step and a line move the core as calls of the world do.
use Rattle.std.proofs.Common.{◌≡◌, ℕ, List, [], ◌∷◌, ◌++◌, refl, ap, Bool, true, false, subst}
use Rattle.std.specs.Prelude.{Option, Some, None, Result, Ok, Err, ⊤, if◌then◌else◌, ◌==◌}
use Rattle.meta_journal.specs.declared.entry.Act.TheVariants.{Publish}
use Rattle.meta_journal.specs.Places.{split_key}
use Rattle.source_checkpoint.specs.declared.ledger.Checkpoint.{Checkpoint}
use Rattle.source_log.specs.Log.{Log}
use Rattle.index_world.specs.Calls.{Trouble, faulted, no_memory, Unmade, Unread, not_read, or_short, asked_and_looked, asked}
use Rattle.index_world.specs.Calls as calls
use Rattle.index_world.specs.Core.{Core}
use Rattle.index_world.specs.Gate.{stage_act, task_act, task_call}
use Rattle.index_world.specs.SplitFile.{file_of}
use Rattle.indexing_run.specs.Places.{Batch, IndexerHeld, IndexerPlace, idle, reading, staged, uploaded, Indexer}
use Rattle.indexing_run.specs.Steps.{Stepped, log_may_fail, log_called, checkpoints_by, take_checkpoints, idle_by, read_by, read_given, step_read, stage_by, step_stage, batch_facts, upload_by, step_upload, publish_by, step_publish, step_batch, step_place, step_indexer}
use Rattle.indexing_run.specs.Steps as indexing
use Rattle.root_search.specs.Requests.{ask_of, asked_of}
use Rattle.root_search.specs.Steps.{Request, no_request, opened, planned, Plan, Client, plan_by, plan_given, opened_by, fetch_by, config_in, next_step, step_request, step_client}
use Rattle.root_search.specs.Steps as searching
use Rattle.root_search.proofs.Steps.{delete_core}
use Rattle.search_api.specs.Resolved.{Asked, IsDelete, IsSearch, Search}
use Rattle.search_api.specs.declared.reply.Refusal.{Refusal}
use Rattle.search_api.specs.declared.unanswered.Unanswered.{Unanswered}
use Rattle.search_api.specs.declared.unanswered.Unanswered.TheVariants as reasons
use Rattle.upkeep_run.specs.Places.{WorkerPlace as Worker}
use Rattle.upkeep_run.specs.declared.work.Aim.{Aim}
use Rattle.upkeep_run.specs.declared.work.Aim.TheVariants.{Deleting, Merging}
use Rattle.node_run.specs.Node.{Node, Line, At, Assign, StepIndexer, RestartIndexer, RestartClient, StepMerger, RestartMerger, StepDeleter, RestartDeleter, StepCollector, RestartCollector, RestartNode, Open, StepClient, Outcome}
use Rattle.node_run.specs.Turns.{LineLuck, Turned, indexer_at, indexing_luck, searching_luck, assign_at, indexer_turn_by, client_turn_by, client_named, working_luck, worker_turn_by, with_deleter, with_merger, collecting_luck, collector_turn_by, open_by, restart_by, full_turn, quiet, or_quiet, turn_by, Turn, Turns}
use Rattle.call_laws.proofs.CallMoves.{Later, Moves, same, stays, later_same, later_on, moves_on, appended_moves, looked_moves, asked_and_looked_moves, asked_moves, file_made_moves, loaded_moves}
use Rattle.node_run.proofs.Fetches.{each_moves}
use Rattle.node_run.proofs.CollectorMoves.{collector_moves}
use Rattle.node_run.proofs.WorkerMoves.{worker_moves}

-- ---- an indexer's step

pub checkpoints_same : (r : Result ⊤ Trouble) (log : Log) (indexer : Indexer) (core : Core) → (checkpoints_by r log indexer core).core ≡ core
checkpoints_same (Ok done) log indexer core = refl
checkpoints_same (Err trouble) log indexer core = refl

pub stage_same : (r : Result ⊤ Unmade) (batch : Batch) (indexer : Indexer) (core : Core) → (stage_by r batch indexer core).core ≡ core
stage_same (Ok done) batch indexer core = refl
stage_same (Err trouble) batch indexer core = refl

pub upload_same : (r : Result ⊤ Trouble) (held : IndexerHeld) (indexer : Indexer) (core : Core) → (upload_by r held indexer core).core ≡ core
upload_same (Ok done) held indexer core = refl
upload_same (Err trouble) held indexer core = refl

pub publish_same : (r : Result ⊤ Unmade) (held : IndexerHeld) (indexer : Indexer) (core : Core) → (publish_by r held indexer core).core ≡ core
publish_same (Ok done) held indexer core = refl
publish_same (Err trouble) held indexer core = refl

take_moves : (luck : indexing.IndexerLuck) (log : Log) (indexer : Indexer) (core : Core) → Moves core (take_checkpoints luck log indexer core).core
take_moves luck log indexer core =
    moves_on (looked_moves luck.world core) (same (checkpoints_same _ log indexer _))

read_same : (b : Bool) (luck : indexing.IndexerLuck) (log : Log) (batch : Batch) (mark : Checkpoint) (rest : List Checkpoint) (indexer : Indexer) (core : Core) →
    (read_by b luck log batch mark rest indexer core).core ≡ core
read_same true luck log batch mark rest indexer core = refl
read_same false luck log batch mark rest indexer core = refl

pub given_same : (luck : indexing.IndexerLuck) (log : Log) (batch : Batch) (mark : Checkpoint) (rest : List Checkpoint) (indexer : Indexer) (r : Result ⊤ Trouble) (core : Core) →
    (read_given luck log batch mark rest indexer r core).core ≡ core
given_same luck log batch mark rest indexer (Err trouble) core = refl
given_same luck log batch mark rest indexer (Ok done) core = read_same (log_may_fail luck.log indexer.log_faults) luck log batch mark rest indexer core

choice_moves : {core : Core} (b : Bool) (x y : Stepped) → Moves core x.core → Moves core y.core → Moves core (if b then x else y).core
choice_moves true x y m n = m
choice_moves false x y m n = n

indexer_short_same : (b : Bool) (step : Stepped) → (indexing.or_short b step).core ≡ step.core
indexer_short_same true step = refl
indexer_short_same false step = refl

module _ (luck : indexing.IndexerLuck) (log : Log) (indexer : Indexer) (core : Core) where
  idle_moves : (b : Bool) (names : Option (List (List ℕ))) → Moves core (idle_by b names luck log indexer core).core
  idle_moves true None = stays refl
  idle_moves false None = take_moves luck log (log_called luck.log indexer) core
  idle_moves true (Some names) = take_moves luck log indexer core
  idle_moves false (Some names) = take_moves luck log indexer core

  unless_moves : (b : Bool) → Moves core (indexing.idle_unless b luck log indexer core).core
  unless_moves true = stays refl
  unless_moves false = idle_moves (log_may_fail luck.log indexer.log_faults) indexer.assignment

  read_moves : (batch : Batch) (queue : List Checkpoint) → Moves core (step_read luck log batch queue indexer core).core
  read_moves batch [] = stays refl
  read_moves batch (mark ∷ rest) =
      moves_on (asked_moves luck.world core) (same (given_same luck log batch mark rest indexer _ _))

  stage_moves : (batch : Batch) → Moves core (step_stage luck batch indexer core).core
  stage_moves batch =
      moves_on (appended_moves luck.world (stage_act batch.parts (batch_facts batch)) core) (same (stage_same _ batch indexer _))

  upload_moves : (held : IndexerHeld) → Moves core (step_upload luck held indexer core).core
  upload_moves held =
      moves_on (file_made_moves luck.world.first (split_key held.number) (file_of held.config held.documents) core) (same (upload_same _ held indexer _))

  publish_moves : (held : IndexerHeld) → Moves core (step_publish luck held indexer core).core
  publish_moves held =
      moves_on (appended_moves luck.world (λ c. Publish held.number) core) (same (publish_same _ held indexer _))

  batch_moves : (batch : Batch) → Moves core (step_batch luck log batch indexer core).core
  batch_moves batch =
      choice_moves batch.closed _ _ (choice_moves (batch.count == 0) _ _ (stays refl) (stage_moves batch)) (read_moves batch batch.queue)

  place_moves : (place : IndexerPlace) → Moves core (step_place place luck log indexer core).core
  place_moves idle = unless_moves luck.log.short
  place_moves (reading batch) = batch_moves batch
  place_moves (staged held) = upload_moves held
  place_moves (uploaded held) = publish_moves held

  pub indexer_moves : Moves core (step_indexer luck log indexer core).core
  indexer_moves = moves_on (place_moves indexer.place) (same (indexer_short_same luck.short _))

-- ---- a client's step

replied_same : (revision : ℕ) (t : Trouble) (client : Client) (core : Core) → (searching.trouble_replied revision t client core).core ≡ core
replied_same revision (faulted fault) client core = refl
replied_same revision no_memory client core = refl

refused_same : (revision : ℕ) (refusal : Refusal) (t : Trouble) (client : Client) (core : Core) → (searching.refused_over revision refusal t client core).core ≡ core
refused_same revision refusal (faulted fault) client core = refl
refused_same revision refusal no_memory client core = refl

pub plan_same : (r : Result ⊤ Trouble) (asked : Result Search Unanswered) (client : Client) (core : Core) → (plan_by r asked client core).core ≡ core
plan_same (Ok done) (Ok search) client core = refl
plan_same (Ok done) (Err (reasons.Refused refusal)) client core = refl
plan_same (Ok done) (Err (reasons.Memory e)) client core = refl
plan_same (Err trouble) (Ok search) client core = replied_same client.front trouble client core
plan_same (Err trouble) (Err (reasons.Refused refusal)) client core = refused_same client.front refusal trouble client core
plan_same (Err trouble) (Err (reasons.Memory e)) client core = refl

pub fetch_same : (r : Result ⊤ Trouble) (plan : Plan) (number : ℕ) (more : List ℕ) (client : Client) (core : Core) → (fetch_by r plan number more client core).core ≡ core
fetch_same (Ok done) plan number more client core = refl
fetch_same (Err trouble) plan number more client core = replied_same plan.revision trouble client core

client_short_same : (b : Bool) (client : Client) (step : searching.Searched) → (searching.or_short b client step).core ≡ step.core
client_short_same true client step = refl
client_short_same false client step = refl

module _ (luck : searching.ClientLuck) (log : Log) (client : Client) (core : Core) where
  next_moves : (plan : Plan) (unfetched : List ℕ) → Moves core (next_step luck log plan unfetched client core).core
  next_moves plan [] = stays refl
  next_moves plan (number ∷ more) =
      moves_on (each_moves plan.grace luck.more luck.world core) (same (fetch_same _ plan number more client _))

  plan_moves : (asked : Result Search Unanswered) → Moves core (plan_given asked client (asked_and_looked luck.world core)).core
  plan_moves asked =
      let given = asked_and_looked luck.world core in
      moves_on (asked_and_looked_moves luck.world core) (same (plan_same given.answer asked client given.core))

  opened_moves : (asked : Result Asked Unanswered) → Moves core (opened_by asked luck.world client core).core
  opened_moves (Ok (IsSearch search)) = plan_moves (Ok search)
  opened_moves (Ok (IsDelete deletion)) =
      let given = task_call (ask_of deletion) luck.world core in
      moves_on (appended_moves luck.world (task_act (ask_of deletion)) core) (same (delete_core given.answer client given.core))
  opened_moves (Err reason) = plan_moves (Err reason)

  request_moves : (request : Request) → Moves core (step_request request luck log client core).core
  request_moves no_request = stays refl
  request_moves (opened text) = opened_moves (asked_of (config_in core) text)
  request_moves (planned plan) = next_moves plan plan.unfetched

  pub client_moves : Moves core (step_client luck log client core).core
  client_moves = moves_on (request_moves client.request) (same (client_short_same luck.short client _))

-- ---- a line

pub assign_same : (place : IndexerPlace) (i : ℕ) (names : List (List ℕ)) (indexer : Indexer) (node : Node) → (assign_at place i names indexer node).node.core ≡ node.core
assign_same idle i names indexer node = refl
assign_same (reading batch) i names indexer node = refl
assign_same (staged held) i names indexer node = refl
assign_same (uploaded held) i names indexer node = refl

pub open_same : (request : Request) (name text : List ℕ) (client : Client) (node : Node) → (open_by request name text client node).node.core ≡ node.core
open_same no_request name text client node = refl
open_same (opened other) name text client node = refl
open_same (planned plan) name text client node = refl

pub restart_same : (r : Result ⊤ Unread) (core : Core) (node : Node) → (restart_by r core node).node.core ≡ core
restart_same (Ok done) core node = refl
restart_same (Err (not_read (faulted fault))) core node = refl
restart_same (Err (not_read no_memory)) core node = refl
restart_same (Err calls.no_index) core node = refl

pub indexer_turn_moves : (down : Bool) (luck : LineLuck) (i : ℕ) (node : Node) → Moves node.core (indexer_turn_by down luck i node).node.core
indexer_turn_moves true luck i node = stays refl
indexer_turn_moves false luck i node = indexer_moves (indexing_luck luck) node.log (indexer_at node.indexers i) node.core

pub client_turn_moves : (down : Bool) (luck : LineLuck) (name : List ℕ) (node : Node) → Moves node.core (client_turn_by down luck name node).node.core
client_turn_moves true luck name node = stays refl
client_turn_moves false luck name node = client_moves (searching_luck luck) node.log (client_named name node.clients) node.core

pub worker_turn_moves : (down : Bool) (aim : Aim) (worker : Worker) (keep : Worker → Node → Node) (luck : LineLuck) (node : Node) →
    Moves node.core (worker_turn_by down aim worker keep luck node).node.core
worker_turn_moves true aim worker keep luck node = stays refl
worker_turn_moves false aim worker keep luck node = worker_moves (working_luck luck) node.log node.core aim worker

pub collector_turn_moves : (down : Bool) (luck : LineLuck) (node : Node) → Moves node.core (collector_turn_by down luck node).node.core
collector_turn_moves true luck node = stays refl
collector_turn_moves false luck node = collector_moves (collecting_luck luck) node.core

full_later : (luck : LineLuck) (node : Node) (line : Line) → Later node.core (full_turn luck node line).node.core
full_later luck node (At moment) = later_same refl refl
full_later luck node (Assign i names) =
    (same (assign_same (indexer_at node.indexers i).place i names (indexer_at node.indexers i) node)).later
full_later luck node (StepIndexer i) = (indexer_turn_moves node.down luck i node).later
full_later luck node (RestartIndexer i) = later_same refl refl
full_later luck node (RestartClient name) = later_same refl refl
full_later luck node StepMerger = (worker_turn_moves node.down Merging node.merger with_merger luck node).later
full_later luck node RestartMerger = later_same refl refl
full_later luck node StepDeleter = (worker_turn_moves node.down Deleting node.deleter with_deleter luck node).later
full_later luck node RestartDeleter = later_same refl refl
full_later luck node StepCollector = (collector_turn_moves node.down luck node).later
full_later luck node RestartCollector = later_same refl refl
full_later luck node RestartNode =
    (moves_on (loaded_moves luck.world node.core) (same (restart_same _ _ node))).later
full_later luck node (Open name text) =
    (same (open_same (client_named name node.clients).request name text (client_named name node.clients) node)).later
full_later luck node (StepClient name) = (client_turn_moves node.down luck name node).later

quiet_same : (line : Line) (node : Node) → (quiet line node).core ≡ node.core
quiet_same (At moment) node = refl
quiet_same (Assign i names) node = refl
quiet_same (StepIndexer i) node = refl
quiet_same (RestartIndexer i) node = refl
quiet_same (RestartClient name) node = refl
quiet_same StepMerger node = refl
quiet_same RestartMerger node = refl
quiet_same StepDeleter node = refl
quiet_same RestartDeleter node = refl
quiet_same StepCollector node = refl
quiet_same RestartCollector node = refl
quiet_same RestartNode node = refl
quiet_same (Open name text) node = refl
quiet_same (StepClient name) node = refl

or_quiet_same : (b : Bool) (line : Line) (turn : Turned) → (or_quiet b line turn).node.core ≡ turn.node.core
or_quiet_same true line turn = quiet_same line turn.node
or_quiet_same false line turn = refl

turn_by_later : (b : Bool) (luck : LineLuck) (node : Node) (line : Line) → Later node.core (turn_by b luck node line).node.core
turn_by_later true luck node line = (same (quiet_same line node)).later
turn_by_later false luck node line =
    later_on (full_later luck node line) (same (or_quiet_same luck.short line (full_turn luck node line))).later

pub turn_later : (node : Node) (line : Line) (said : Option Outcome) (last : Node) → Turn node line said last → Later node.core last.core
turn_later node line said last turn = subst (λ t. Later node.core t.node.core) turn.is (turn_by_later turn.luck.early turn.luck node line)

-- ---- lines

pub turns_later : (node last : Node) (lines : List Line) (outcomes : List Outcome) → Turns node lines outcomes last → Later node.core last.core
turns_later node last [] [] run = (same (ap (λ n. n.core) run)).later
turns_later node last [] (o ∷ os) run = absurd run
turns_later node last (line ∷ lines) [] run = absurd run
turns_later node last (line ∷ lines) (o ∷ os) run =
    later_on (turn_later node line (Some o) run.0 run.1) (turns_later run.0 last lines os run.2)

-- the lines go on by one more
pub turns_go_on : (node mid last : Node) (lines : List Line) (line : Line) (outcomes : List Outcome) (outcome : Outcome) →
    Turns node lines outcomes mid → Turn mid line (Some outcome) last → Turns node (lines ++ line ∷ []) (outcomes ++ outcome ∷ []) last
turns_go_on node mid last [] line [] outcome ran turn = (last, subst (λ n. Turn n line (Some outcome) last) ran turn, refl)
turns_go_on node mid last [] line (o ∷ os) outcome ran turn = absurd ran
turns_go_on node mid last (l ∷ lines) line [] outcome ran turn = absurd ran
turns_go_on node mid last (l ∷ lines) line (o ∷ os) outcome ran turn =
    (ran.0, ran.1, turns_go_on ran.0 mid last lines line os outcome ran.2 turn)
