-- Whatever lands and fails, what a line leaves: a file goes only where its number was freed, and at most an entry that stood there and one of one's own
-- are taken in. And what an outcome of the collector comes from.
use Rattle.std.proofs.Common.{◌≡◌, ℕ, ◌<◌, Bool, true, false, List, [], length, refl, sym, subst, inl}
use Rattle.std.proofs.lemmas.List.{append-nil}
use Rattle.std.specs.Prelude.{Option, Some, None, Result, Ok, Err, ⊤}
use Rattle.meta_store.specs.History.{history}
use Rattle.meta_store.specs.State.{Legal}
use Rattle.index_world.specs.Calls.{faulted, no_memory, Unread, not_read, loaded}
use Rattle.index_world.specs.Calls as calls
use Rattle.index_world.specs.Config.{reads}
use Rattle.index_world.specs.Core.{Core}
use Rattle.indexing_run.specs.Outcomes.{IndexerOutcome}
use Rattle.indexing_run.specs.Places.{IndexerPlace, idle, reading, staged, uploaded, Indexer}
use Rattle.root_search.specs.Steps.{Request, no_request, opened, planned, Client}
use Rattle.root_search.specs.declared.outcome.SearchStep.{SearchStep}
use Rattle.split_collector.specs.Outcomes.{Outcome as CollectorOutcome}
use Rattle.upkeep_run.specs.Outcomes.{UpkeepOutcome}
use Rattle.upkeep_run.specs.declared.work.Aim.{Aim}
use Rattle.upkeep_run.specs.declared.work.Aim.TheVariants.{Deleting, Merging}
use Rattle.node_run.specs.Node.{Node, Line, At, Assign, StepIndexer, RestartIndexer, RestartClient, StepMerger, RestartMerger, StepDeleter, RestartDeleter, StepCollector, RestartCollector, RestartNode, Open, StepClient, Outcome}
use Rattle.node_run.specs.Turns.{LineLuck, Turned, indexer_at, indexing_luck, searching_luck, collecting_luck, said_by_indexer, said_by_client, said_by_collector, said_by_worker, working_luck, with_deleter, with_merger, worker_turn_by, assign_at, indexer_turn_by, client_turn_by, collector_turn_by, client_named, open_by, restart_by, full_turn, quiet, or_quiet, turn_by, Turn}
use Rattle.call_laws.proofs.CallTells.{AreLow}
use Rattle.node_run.proofs.Moving.{assign_same, open_same, restart_same}
use Rattle.quick_node.specs.Collects.{LineCollects}
use Rattle.quick_node.proofs.Collected.{Did, collector_steps}
use Rattle.quick_node.proofs.Files.{Few, Leaves, Takes, client_few, indexer_few, leaves_of, loaded_few, none, same, same_journal, still}
use Rattle.quick_node.proofs.Working.{worker_works}

-- what the collector said is what it did
abbrev DidSay : Core → Core → Option Outcome → Type 0
DidSay start after said = LineCollects start.history after.history said

pub record LineLeaves (start : Core) (turn : Turned) : Type 0 where
  pub leaves : Leaves start turn.node.core
  pub did : LineCollects start.history turn.node.core.history turn.said

stays : {start : Core} {turn : Turned} → Takes Few start turn.node.core → DidSay start turn.node.core turn.said → LineLeaves start turn
stays t d = record { leaves = leaves_of t; did = d }

-- ---- lines of which the collector says nothing

module _ (start after : Core) where
  indexer_says : (i : ℕ) (outcome : Option IndexerOutcome) → DidSay start after (said_by_indexer i outcome)
  indexer_says i None = tt
  indexer_says i (Some outcome) = tt

  client_says : (name : List ℕ) (outcome : Option SearchStep) → DidSay start after (said_by_client name outcome)
  client_says name None = tt
  client_says name (Some outcome) = tt

  worker_says : (aim : Aim) (outcome : Option UpkeepOutcome) → DidSay start after (said_by_worker aim outcome)
  worker_says aim None = tt
  worker_says aim (Some outcome) = tt

  collector_says : (outcome : Option CollectorOutcome) → Did start after outcome → DidSay start after (said_by_collector outcome)
  collector_says None d = tt
  collector_says (Some outcome) d = d

  assign_says : (place : IndexerPlace) (i : ℕ) (names : List (List ℕ)) (indexer : Indexer) (node : Node) → DidSay start after (assign_at place i names indexer node).said
  assign_says idle i names indexer node = tt
  assign_says (reading batch) i names indexer node = tt
  assign_says (staged held) i names indexer node = tt
  assign_says (uploaded held) i names indexer node = tt

  open_says : (request : Request) (name text : List ℕ) (client : Client) (node : Node) → DidSay start after (open_by request name text client node).said
  open_says no_request name text client node = tt
  open_says (opened other) name text client node = tt
  open_says (planned plan) name text client node = tt

  restart_says : (r : Result ⊤ Unread) (core : Core) (node : Node) → DidSay start after (restart_by r core node).said
  restart_says (Ok done) core node = tt
  restart_says (Err (not_read (faulted fault))) core node = tt
  restart_says (Err (not_read no_memory)) core node = tt
  restart_says (Err calls.no_index) core node = tt

-- ---- a line

-- the clock goes on
at_leaves : (core : Core) (moment : ℕ) → Leaves core (record core { clock = moment })
at_leaves core moment =
    record { files = λ key bytes e. inl e; more = []; grown = sym (append-nil core.history); few = inl tt; journal = same_journal core (record core { clock = moment }) refl }

module _ (luck : LineLuck) (node : Node) where
  indexer_leaves : (down : Bool) (i : ℕ) → LineLeaves node.core (indexer_turn_by down luck i node)
  indexer_leaves true i = stays (none Few tt (still node.core)) tt
  indexer_leaves false i =
      let turn = indexer_turn_by false luck i node in
      stays (indexer_few (indexing_luck luck) node.log node.core (indexer_at node.indexers i)) (indexer_says node.core turn.node.core i _)

  client_leaves : (down : Bool) (name : List ℕ) → LineLeaves node.core (client_turn_by down luck name node)
  client_leaves true name = stays (none Few tt (still node.core)) tt
  client_leaves false name =
      let turn = client_turn_by false luck name node in
      stays (client_few (searching_luck luck) node.log (client_named name node.clients) node.core) (client_says node.core turn.node.core name _)

  merger_leaves : (down : Bool) → LineLeaves node.core (worker_turn_by down Merging node.merger with_merger luck node)
  merger_leaves true = stays (none Few tt (still node.core)) tt
  merger_leaves false =
      let turn = worker_turn_by false Merging node.merger with_merger luck node in
      record { leaves = (worker_works (working_luck luck) node.log node.core Merging node.merger).leaves; did = worker_says node.core turn.node.core Merging _ }

  deleter_leaves : (down : Bool) → LineLeaves node.core (worker_turn_by down Deleting node.deleter with_deleter luck node)
  deleter_leaves true = stays (none Few tt (still node.core)) tt
  deleter_leaves false =
      let turn = worker_turn_by false Deleting node.deleter with_deleter luck node in
      record { leaves = (worker_works (working_luck luck) node.log node.core Deleting node.deleter).leaves; did = worker_says node.core turn.node.core Deleting _ }

  module _ (some : 0 < length node.core.history) (low : AreLow (length node.core.history) node.core) where
    collector_leaves : (down : Bool) → Legal reads (history (collector_turn_by down luck node).node.core.history) → LineLeaves node.core (collector_turn_by down luck node)
    collector_leaves true legal = stays (none Few tt (still node.core)) tt
    collector_leaves false legal =
        let turn = collector_turn_by false luck node in
        let s = collector_steps node.core low some (collecting_luck luck) legal in
        record { leaves = s.leaves; did = collector_says node.core turn.node.core _ s.did }

    full_leaves : (line : Line) → Legal reads (history (full_turn luck node line).node.core.history) → LineLeaves node.core (full_turn luck node line)
    full_leaves (At moment) legal = record { leaves = at_leaves node.core moment; did = tt }
    full_leaves (Assign i names) legal =
        let indexer = indexer_at node.indexers i in
        stays (same (none Few tt (still node.core)) (assign_same indexer.place i names indexer node)) (assign_says node.core (full_turn luck node (Assign i names)).node.core indexer.place i names indexer node)
    full_leaves (StepIndexer i) legal = indexer_leaves node.down i
    full_leaves (RestartIndexer i) legal = stays (none Few tt (still node.core)) tt
    full_leaves (RestartClient name) legal = stays (none Few tt (still node.core)) tt
    full_leaves StepMerger legal = merger_leaves node.down
    full_leaves RestartMerger legal = stays (none Few tt (still node.core)) tt
    full_leaves StepDeleter legal = deleter_leaves node.down
    full_leaves RestartDeleter legal = stays (none Few tt (still node.core)) tt
    full_leaves StepCollector legal = collector_leaves node.down legal
    full_leaves RestartCollector legal = stays (none Few tt (still node.core)) tt
    full_leaves RestartNode legal =
        let given = loaded luck.world node.core in
        stays (same (loaded_few luck.world node.core) (restart_same given.answer given.core node)) (restart_says node.core (full_turn luck node RestartNode).node.core given.answer given.core node)
    full_leaves (Open name text) legal =
        let client = client_named name node.clients in
        stays (same (none Few tt (still node.core)) (open_same client.request name text client node)) (open_says node.core (full_turn luck node (Open name text)).node.core client.request name text client node)
    full_leaves (StepClient name) legal = client_leaves node.down name

quiet_same : (line : Line) (node : Node) → (quiet line node).core ≡ node.core
quiet_same (At moment) node = refl
quiet_same (Assign i names) node = refl
quiet_same (StepIndexer i) node = refl
quiet_same (RestartIndexer i) node = refl
quiet_same (RestartClient name) node = refl
quiet_same StepMerger node = refl
quiet_same RestartMerger node = refl
quiet_same StepDeleter node = refl
quiet_same RestartDeleter node = refl
quiet_same StepCollector node = refl
quiet_same RestartCollector node = refl
quiet_same RestartNode node = refl
quiet_same (Open name text) node = refl
quiet_same (StepClient name) node = refl

quiet_leaves : (start : Core) (line : Line) (node : Node) → Leaves start node.core → LineLeaves start (record { said = None; node = quiet line node })
quiet_leaves start line node l = record { leaves = subst (Leaves start) (sym (quiet_same line node)) l; did = tt }

module _ (luck : LineLuck) (node : Node) (line : Line) (some : 0 < length node.core.history) (low : AreLow (length node.core.history) node.core) where
  or_quiet_leaves : (b : Bool) → Legal reads (history (or_quiet b line (full_turn luck node line)).node.core.history) → LineLeaves node.core (or_quiet b line (full_turn luck node line))
  or_quiet_leaves true legal =
      let turn = full_turn luck node line in
      quiet_leaves node.core line turn.node (full_leaves luck node some low line (subst (λ (c : Core). Legal reads (history c.history)) (quiet_same line turn.node) legal)).leaves
  or_quiet_leaves false legal = full_leaves luck node some low line legal

  by_leaves : (b : Bool) → Legal reads (history (turn_by b luck node line).node.core.history) → LineLeaves node.core (turn_by b luck node line)
  by_leaves true legal = quiet_leaves node.core line node (leaves_of (none Few tt (still node.core)))
  by_leaves false legal = or_quiet_leaves luck.short legal

-- WHAT A LINE LEAVES, over a journal that is one
pub turn_leaves : (node : Node) (line : Line) (said : Option Outcome) (last : Node) → 0 < length node.core.history → AreLow (length node.core.history) node.core → Legal reads (history last.core.history) →
    Turn node line said last → LineLeaves node.core (record { said = said; node = last })
turn_leaves node line said last some low legal turn =
    subst (LineLeaves node.core) turn.is (by_leaves turn.luck node line some low turn.luck.early (subst (λ (t : Turned). Legal reads (history t.node.core.history)) (sym turn.is) legal))
