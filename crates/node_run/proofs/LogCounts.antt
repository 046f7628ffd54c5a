-- Whatever lands and fails, the counts of the readers never fall.
use Rattle.std.proofs.Common.{◌≡◌, ℕ, zero, suc, ◌<◌, ◌≤◌, min, List, [], ◌∷◌, refl, sym, ap, ◌∙◌, Bool, true, false, subst, arith}
use Rattle.std.proofs.lemmas.List.Elements.{All-head, All-tail}
use Rattle.std.specs.Prelude.{Option, Some, None, Result, Ok, Err, ⊤, if◌then◌else◌, ◌==◌, map, All, slice_set}
use Rattle.std.specs.List.{AllZip}
use Rattle.source_checkpoint.specs.declared.ledger.Checkpoint.{Checkpoint}
use Rattle.source_log.specs.Log.{Log}
use Rattle.index_world.specs.Calls.{Trouble, faulted, no_memory, Unmade, Unread, not_read, loaded, looked, asked}
use Rattle.index_world.specs.Calls as calls
use Rattle.index_world.specs.Core.{Core, last_count}
use Rattle.index_world.specs.Gate.{stage_call, publish_call}
use Rattle.index_world.specs.SplitFile.{file_of}
use Rattle.indexing_run.specs.Outcomes as said
use Rattle.indexing_run.specs.Places.{Batch, IndexerHeld, IndexerPlace, idle, reading, staged, uploaded, Indexer}
use Rattle.indexing_run.specs.Steps.{Stepped, stepped, log_may_fail, log_called, take_checkpoints, idle_by, read_by, read_given, step_read, stage_by, step_stage, batch_facts, upload_by, publish_by, step_batch, step_place, step_indexer}
use Rattle.indexing_run.specs.Steps as indexing
use Rattle.root_search.specs.Steps.{Request, no_request, opened, planned, Client}
use Rattle.upkeep_run.specs.Places.{WorkerPlace as Worker}
use Rattle.upkeep_run.specs.Steps.{step_worker}
use Rattle.upkeep_run.specs.declared.work.Aim.{Aim}
use Rattle.upkeep_run.specs.declared.work.Aim.TheVariants.{Deleting, Merging}
use Rattle.node_run.specs.Calm.{log_counts}
use Rattle.node_run.specs.Node.{Node, Line, At, Assign, StepIndexer, RestartIndexer, RestartClient, StepMerger, RestartMerger, StepDeleter, RestartDeleter, StepCollector, RestartCollector, RestartNode, Open, StepClient, Outcome}
use Rattle.node_run.specs.Turns.{LineLuck, Turned, made_idle, indexer_at, indexing_luck, assign_at, indexer_turn_by, client_turn_by, client_named, working_luck, worker_turn_by, with_deleter, with_merger, collector_turn_by, open_by, restart_by, full_turn, quiet, or_quiet, turn_by, Turn, Turns}
use Rattle.node_run.proofs.CalmSteps.{checkpoints_log}

-- ---- one count

-- a count stands still at its type's end
abbrev pub NotBelow : ℕ → ℕ → Type 0
NotBelow a b = min a last_count ≤ b

same_count : (a b : ℕ) → b ≡ a → NotBelow a b
same_count a b e = omega (arith, e)

take_count : (luck : indexing.IndexerLuck) (log : Log) (indexer : Indexer) (core : Core) → (take_checkpoints luck log indexer core).indexer.log_faults ≡ indexer.log_faults
take_count luck log indexer core = let given = looked luck.world core in checkpoints_log given.answer log indexer given.core

stage_count : (r : Result ⊤ Unmade) (batch : Batch) (indexer : Indexer) (core : Core) → (stage_by r batch indexer core).indexer.log_faults ≡ indexer.log_faults
stage_count (Ok done) batch indexer core = refl
stage_count (Err e) batch indexer core = refl

upload_count : (r : Result ⊤ Trouble) (held : IndexerHeld) (indexer : Indexer) (core : Core) → (upload_by r held indexer core).indexer.log_faults ≡ indexer.log_faults
upload_count (Ok done) held indexer core = refl
upload_count (Err e) held indexer core = refl

publish_count : (r : Result ⊤ Unmade) (held : IndexerHeld) (indexer : Indexer) (core : Core) → (publish_by r held indexer core).indexer.log_faults ≡ indexer.log_faults
publish_count (Ok done) held indexer core = refl
publish_count (Err e) held indexer core = refl

module _ (luck : indexing.IndexerLuck) (log : Log) (indexer : Indexer) where
  abbrev Counts : Stepped → Type 0
  Counts step = NotBelow indexer.log_faults step.indexer.log_faults

  called_counts : NotBelow indexer.log_faults (log_called luck.log indexer).log_faults
  called_counts = omega arith

  idle_counts : (b : Bool) (names : Option (List (List ℕ))) (core : Core) → Counts (idle_by b names luck log indexer core)
  idle_counts true None core = called_counts
  idle_counts false None core = subst (λ n. NotBelow indexer.log_faults n) (sym (take_count luck log (log_called luck.log indexer) core)) called_counts
  idle_counts true (Some names) core = same_count indexer.log_faults _ (take_count luck log indexer core)
  idle_counts false (Some names) core = same_count indexer.log_faults _ (take_count luck log indexer core)

  read_by_counts : (b : Bool) (batch : Batch) (mark : Checkpoint) (rest : List Checkpoint) (core : Core) → Counts (read_by b luck log batch mark rest indexer core)
  read_by_counts true batch mark rest core = called_counts
  read_by_counts false batch mark rest core = called_counts

  given_counts : (r : Result ⊤ Trouble) (batch : Batch) (mark : Checkpoint) (rest : List Checkpoint) (core : Core) → Counts (read_given luck log batch mark rest indexer r core)
  given_counts (Err e) batch mark rest core = same_count indexer.log_faults indexer.log_faults refl
  given_counts (Ok done) batch mark rest core = read_by_counts (log_may_fail luck.log indexer.log_faults) batch mark rest core

  read_counts : (batch : Batch) (queue : List Checkpoint) (core : Core) → Counts (step_read luck log batch queue indexer core)
  read_counts batch [] core = same_count indexer.log_faults indexer.log_faults refl
  read_counts batch (mark ∷ rest) core = let given = asked luck.world core in given_counts given.answer batch mark rest given.core

  choice_counts : (b : Bool) (x y : Stepped) → Counts x → Counts y → Counts (if b then x else y)
  choice_counts true x y h k = h
  choice_counts false x y h k = k

  batch_counts : (batch : Batch) (core : Core) → Counts (step_batch luck log batch indexer core)
  batch_counts batch core =
      choice_counts batch.closed (if batch.count == 0 then stepped (Some said.CaughtUp) idle indexer core else step_stage luck batch indexer core)
      (step_read luck log batch batch.queue indexer core)
      (choice_counts (batch.count == 0) (stepped (Some said.CaughtUp) idle indexer core) (step_stage luck batch indexer core)
      (same_count indexer.log_faults indexer.log_faults refl)
      (let given = stage_call batch.parts (batch_facts batch) luck.world core in same_count indexer.log_faults _ (stage_count given.answer batch indexer given.core)))
      (read_counts batch batch.queue core)

  unless_counts : (b : Bool) (core : Core) → Counts (indexing.idle_unless b luck log indexer core)
  unless_counts true core = called_counts
  unless_counts false core = idle_counts (log_may_fail luck.log indexer.log_faults) indexer.assignment core

  place_counts : (place : IndexerPlace) (core : Core) → Counts (step_place place luck log indexer core)
  place_counts idle core = unless_counts luck.log.short core
  place_counts (reading batch) core = batch_counts batch core
  place_counts (staged held) core =
      let given = calls.upload_made luck.world held.number (file_of held.config held.documents) core in same_count indexer.log_faults _ (upload_count given.answer held indexer given.core)
  place_counts (uploaded held) core =
      let given = publish_call held.number luck.world core in same_count indexer.log_faults _ (publish_count given.answer held indexer given.core)

  short_counts : (b : Bool) (step : Stepped) → Counts step → Counts (indexing.or_short b step)
  short_counts true step h = h
  short_counts false step h = h

  indexer_counts : (core : Core) → Counts (step_indexer luck log indexer core)
  indexer_counts core = short_counts luck.short (step_place indexer.place luck log indexer core) (place_counts indexer.place core)

-- ---- the counts of all readers

abbrev pub NoneFell : List ℕ → List ℕ → Type 0
NoneFell xs ys = AllZip NotBelow xs ys

pub same_counts : (xs : List ℕ) → NoneFell xs xs
same_counts [] = tt
same_counts (x ∷ xs) = (same_count x x refl, same_counts xs)

pub none_fell_on : (xs ys zs : List ℕ) → NoneFell xs ys → NoneFell ys zs → NoneFell xs zs
none_fell_on [] [] [] g h = tt
none_fell_on [] [] (z ∷ zs) g h = absurd h
none_fell_on [] (y ∷ ys) zs g h = absurd g
none_fell_on (x ∷ xs) [] zs g h = absurd g
none_fell_on (x ∷ xs) (y ∷ ys) [] g h = absurd h
none_fell_on (x ∷ xs) (y ∷ ys) (z ∷ zs) g h = (omega (arith, g.0, h.0), none_fell_on xs ys zs g.1 h.1)

-- counts that neither fell nor rose are the same
pub none_rose : (xs ys : List ℕ) → All (λ n. n < last_count) xs → NoneFell xs ys → NoneFell ys xs → ys ≡ xs
none_rose [] [] b g h = refl
none_rose [] (y ∷ ys) b g h = absurd g
none_rose (x ∷ xs) [] b g h = absurd g
none_rose (x ∷ xs) (y ∷ ys) b g h =
    let below = All-head (λ n. n < last_count) x xs b in
    let e : y ≡ x = omega (arith, below, g.0, h.0) in
    ap (λ n. n ∷ ys) e ∙ ap (λ ns. x ∷ ns) (none_rose xs ys (All-tail (λ n. n < last_count) x xs b) g.1 h.1)

set_counts : (indexers : List Indexer) (i : ℕ) (indexer : Indexer) → NotBelow (indexer_at indexers i).log_faults indexer.log_faults →
    NoneFell (log_counts indexers) (log_counts (slice_set indexers i indexer))
set_counts [] i indexer h = tt
set_counts (first ∷ more) zero indexer h = (h, same_counts (log_counts more))
set_counts (first ∷ more) (suc i) indexer h = (same_count first.log_faults first.log_faults refl, set_counts more i indexer h)

idle_same : (indexers : List Indexer) → log_counts (map made_idle indexers) ≡ log_counts indexers
idle_same [] = refl
idle_same (indexer ∷ more) = ap (λ ns. indexer.log_faults ∷ ns) (idle_same more)

module _ (node : Node) where
  abbrev Counted : Node → Type 0
  Counted last = NoneFell (log_counts node.indexers) (log_counts last.indexers)

  unchanged : (indexers : List Indexer) → log_counts indexers ≡ log_counts node.indexers → NoneFell (log_counts node.indexers) (log_counts indexers)
  unchanged indexers e = subst (λ ns. NoneFell (log_counts node.indexers) ns) (sym e) (same_counts (log_counts node.indexers))

  set_idle : (i : ℕ) → NoneFell (log_counts node.indexers) (log_counts (slice_set node.indexers i (made_idle (indexer_at node.indexers i))))
  set_idle i = set_counts node.indexers i (made_idle (indexer_at node.indexers i)) (same_count (indexer_at node.indexers i).log_faults _ refl)

  assign_counted : (place : IndexerPlace) (i : ℕ) (names : List (List ℕ)) → Counted (assign_at place i names (indexer_at node.indexers i) node).node
  assign_counted idle i names =
      set_counts node.indexers i (record (indexer_at node.indexers i) { assignment = Some names }) (same_count (indexer_at node.indexers i).log_faults _ refl)
  assign_counted (reading batch) i names = unchanged node.indexers refl
  assign_counted (staged held) i names = unchanged node.indexers refl
  assign_counted (uploaded held) i names = unchanged node.indexers refl

  indexer_counted : (down : Bool) (luck : LineLuck) (i : ℕ) → Counted (indexer_turn_by down luck i node).node
  indexer_counted true luck i = unchanged node.indexers refl
  indexer_counted false luck i =
      let step = step_indexer (indexing_luck luck) node.log (indexer_at node.indexers i) node.core in
      set_counts node.indexers i step.indexer (indexer_counts (indexing_luck luck) node.log (indexer_at node.indexers i) node.core)

  client_counted : (down : Bool) (luck : LineLuck) (name : List ℕ) → Counted (client_turn_by down luck name node).node
  client_counted true luck name = unchanged node.indexers refl
  client_counted false luck name = unchanged node.indexers refl

  -- what is kept of a worker leaves the indexers as they are
  worker_counted : (down : Bool) (aim : Aim) (worker : Worker) (keep : Worker → Node → Node) (luck : LineLuck) → ((place : Worker) → (keep place node).indexers ≡ node.indexers) →
      Counted (worker_turn_by down aim worker keep luck node).node
  worker_counted true aim worker keep luck same = unchanged node.indexers refl
  worker_counted false aim worker keep luck same =
      let step = step_worker aim (working_luck luck) node.log worker node.core in unchanged (keep step.place node).indexers (ap log_counts (same step.place))

  collector_counted : (down : Bool) (luck : LineLuck) → Counted (collector_turn_by down luck node).node
  collector_counted true luck = unchanged node.indexers refl
  collector_counted false luck = unchanged node.indexers refl

  open_counted : (request : Request) (name text : List ℕ) (client : Client) → Counted (open_by request name text client node).node
  open_counted no_request name text client = unchanged node.indexers refl
  open_counted (opened other) name text client = unchanged node.indexers refl
  open_counted (planned plan) name text client = unchanged node.indexers refl

  restart_counted : (r : Result ⊤ Unread) (core : Core) → Counted (restart_by r core node).node
  restart_counted (Ok done) core = unchanged (map made_idle node.indexers) (idle_same node.indexers)
  restart_counted (Err (not_read (faulted fault))) core = unchanged (map made_idle node.indexers) (idle_same node.indexers)
  restart_counted (Err (not_read no_memory)) core = unchanged (map made_idle node.indexers) (idle_same node.indexers)
  restart_counted (Err calls.no_index) core = unchanged (map made_idle node.indexers) (idle_same node.indexers)

  full_counted : (luck : LineLuck) (line : Line) → Counted (full_turn luck node line).node
  full_counted luck (At moment) = unchanged node.indexers refl
  full_counted luck (Assign i names) = assign_counted (indexer_at node.indexers i).place i names
  full_counted luck (StepIndexer i) = indexer_counted node.down luck i
  full_counted luck (RestartIndexer i) = set_idle i
  full_counted luck (RestartClient name) = unchanged node.indexers refl
  full_counted luck StepMerger = worker_counted node.down Merging node.merger with_merger luck (λ place. refl)
  full_counted luck RestartMerger = unchanged node.indexers refl
  full_counted luck StepDeleter = worker_counted node.down Deleting node.deleter with_deleter luck (λ place. refl)
  full_counted luck RestartDeleter = unchanged node.indexers refl
  full_counted luck StepCollector = collector_counted node.down luck
  full_counted luck RestartCollector = unchanged node.indexers refl
  full_counted luck RestartNode = let given = loaded luck.world node.core in restart_counted given.answer given.core
  full_counted luck (Open name text) = open_counted (client_named name node.clients).request name text (client_named name node.clients)
  full_counted luck (StepClient name) = client_counted node.down luck name

  quiet_counted : (line : Line) → Counted (quiet line node)
  quiet_counted (At moment) = unchanged node.indexers refl
  quiet_counted (Assign i names) = set_idle i
  quiet_counted (StepIndexer i) = set_idle i
  quiet_counted (RestartIndexer i) = set_idle i
  quiet_counted (RestartClient name) = unchanged node.indexers refl
  quiet_counted StepMerger = unchanged node.indexers refl
  quiet_counted RestartMerger = unchanged node.indexers refl
  quiet_counted StepDeleter = unchanged node.indexers refl
  quiet_counted RestartDeleter = unchanged node.indexers refl
  quiet_counted StepCollector = unchanged node.indexers refl
  quiet_counted RestartCollector = unchanged node.indexers refl
  quiet_counted RestartNode = unchanged (map made_idle node.indexers) (idle_same node.indexers)
  quiet_counted (Open name text) = unchanged node.indexers refl
  quiet_counted (StepClient name) = unchanged node.indexers refl

abbrev pub NodeCounted : Node → Node → Type 0
NodeCounted node last = NoneFell (log_counts node.indexers) (log_counts last.indexers)

or_quiet_counted : (b : Bool) (node : Node) (line : Line) (turn : Turned) → NodeCounted node turn.node → NodeCounted node (or_quiet b line turn).node
or_quiet_counted true node line turn h =
    none_fell_on (log_counts node.indexers) (log_counts turn.node.indexers) (log_counts (quiet line turn.node).indexers) h (quiet_counted turn.node line)
or_quiet_counted false node line turn h = h

turn_by_counted : (b : Bool) (luck : LineLuck) (node : Node) (line : Line) → NodeCounted node (turn_by b luck node line).node
turn_by_counted true luck node line = quiet_counted node line
turn_by_counted false luck node line = or_quiet_counted luck.short node line (full_turn luck node line) (full_counted node luck line)

-- a line lowers no count of a reader
pub turn_counted : (node : Node) (line : Line) (said : Option Outcome) (last : Node) → Turn node line said last → NodeCounted node last
turn_counted node line said last t = subst (λ r. NodeCounted node r.node) t.is (turn_by_counted t.luck.early t.luck node line)

pub turns_counted : (node last : Node) (lines : List Line) (outcomes : List Outcome) → Turns node lines outcomes last → NodeCounted node last
turns_counted node last [] [] run = subst (λ n. NodeCounted node n) (sym run) (same_counts (log_counts node.indexers))
turns_counted node last [] (o ∷ os) run = absurd run
turns_counted node last (line ∷ lines) [] run = absurd run
turns_counted node last (line ∷ lines) (o ∷ os) run =
    none_fell_on (log_counts node.indexers) (log_counts run.0.indexers) (log_counts last.indexers) (turn_counted node line (Some o) run.0 run.1)
    (turns_counted run.0 last lines os run.2)
