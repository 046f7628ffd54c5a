-- Where nothing is late and no count rises, a schedule is that of the plain node.
use Rattle.std.proofs.Common.{◌≡◌, ◌⊎◌, ℕ, zero, suc, ◌^◌, ◌<◌, ◌≤◌, min, List, [], ◌∷◌, length, map, refl, sym, ap, ◌∙◌, Bool, true, false, subst, inl, inr, arith}
use Rattle.std.proofs.lemmas.List.{length-map}
use Rattle.std.proofs.lemmas.List.Elements.{All-head, All-tail}
use Rattle.std.specs.Prelude.{Some, None, ⊤, ◌==◌, All, slice_set}
use Rattle.meta_journal.specs.declared.entry.Entry.{Entry}
use Rattle.meta_store.specs.History.{history, last_number}
use Rattle.index_world.specs.Calls.{Unread, not_read, no_memory, Gives, reborn, unless_empty, loaded}
use Rattle.index_world.specs.Core.{Core, last_count}
use Rattle.indexing_run.specs.Places.{Indexer}
use Rattle.indexing_run.specs.Steps.{Stepped, step_indexer}
use Rattle.root_search.specs.Steps.{Searched, step_client}
use Rattle.split_collector.specs.Steps.{step_collector}
use Rattle.split_collector.specs.Steps as collecting
use Rattle.upkeep_run.specs.Places.{WorkerPlace as Worker}
use Rattle.upkeep_run.specs.Steps.{step_worker}
use Rattle.upkeep_run.specs.Steps as working
use Rattle.upkeep_run.specs.declared.work.Aim.{Aim}
use Rattle.upkeep_run.specs.declared.work.Aim.TheVariants.{Deleting, Merging}
use Rattle.node_run.specs.Calm.{IsStill, log_counts, IsOfThese}
use Rattle.node_run.specs.Node.{Node, Line, At, Assign, StepIndexer, RestartIndexer, RestartClient, StepMerger, RestartMerger, StepDeleter, RestartDeleter, StepCollector, RestartCollector, RestartNode, Open, StepClient, Outcome}
use Rattle.node_run.specs.Turns.{LineLuck, calm, Turned, indexer_at, client_named, indexing_luck, searching_luck, said_by_indexer, said_by_client, indexer_stepped, indexer_turn_by, client_stepped, client_turn_by, working_luck, said_by_worker, worker_stepped, worker_turn_by, with_deleter, with_merger, collecting_luck, said_by_collector, collector_stepped, collector_turn_by, restart_by, restart_given, full_turn, or_quiet, turn_by, turn, Turns, run_turned, turns, turns_with, with_calm}
use Rattle.node_run.proofs.Calming.{Same, Calms}
use Rattle.node_run.proofs.CalmSteps.{StepCalms, SearchCalms, calm_indexing, calm_searching, loaded_calms, indexer_calms, client_calms}
use Rattle.node_run.proofs.CollectorCalms.{CollectCalms, calm_collecting, collector_calms}
use Rattle.node_run.proofs.WorkerCalms.{WorkCalms, calm_working, worker_calms}
use Rattle.node_run.proofs.StagedNumbers.{numbers_grow}
use Rattle.node_run.proofs.StillCalls.{opened_calm, turn_still}
use Rattle.node_run.proofs.Moving.{restart_same, turn_later, turns_later}
use Rattle.node_run.proofs.LogCounts.{NoneFell, none_rose, turn_counted, turns_counted}

abbrev Below : List Indexer → Type 0
Below indexers = All (λ n. n < last_count) (log_counts indexers)

below_at : (indexers : List Indexer) (i : ℕ) → i < length indexers → Below indexers → (indexer_at indexers i).log_faults < last_count
below_at [] i h b = absurd (omega (arith, h))
below_at (first ∷ more) zero h b = All-head (λ n. n < last_count) first.log_faults (log_counts more) b
below_at (first ∷ more) (suc i) h b = below_at more i (omega (arith, h)) (All-tail (λ n. n < last_count) first.log_faults (log_counts more) b)

-- an indexer that was put back with the same counts has the same count
set_same : (indexers : List Indexer) (i : ℕ) (indexer : Indexer) → i < length indexers → log_counts (slice_set indexers i indexer) ≡ log_counts indexers →
    indexer.log_faults ≡ (indexer_at indexers i).log_faults
set_same [] i indexer h e = absurd (omega (arith, h))
set_same (first ∷ more) zero indexer h e = cc
set_same (first ∷ more) (suc i) indexer h e = set_same more i indexer (omega (arith, h)) (rest)
  where
    rest : log_counts (slice_set more i indexer) ≡ log_counts more
    rest = cc

-- every number that the core staged can be spelled
abbrev pub IsSpelled : Core → Type 0
IsSpelled core = last_number (history core.history) < 2 ^ 64

-- ---- one line

-- a line says nothing, or is that of a calm luck
abbrev TurnCalms : Turned → Turned → Type 0
TurnCalms t calm_t = (t.said ≡ None) ⊎ (t ≡ calm_t)

module _ (luck : LineLuck) (node : Node) (s : IsStill node.core) (below : Below node.indexers) where
  indexer_calm : (i : ℕ) (step calm_step : Stepped) → StepCalms step calm_step → TurnCalms (indexer_stepped i node step) (indexer_stepped i node calm_step)
  indexer_calm i step calm_step (inl e) = inl (ap (said_by_indexer i) e)
  indexer_calm i step calm_step (inr e) = inr (ap (indexer_stepped i node) e)

  client_calm : (name : List ℕ) (step calm_step : Searched) → SearchCalms step calm_step → TurnCalms (client_stepped name node step) (client_stepped name node calm_step)
  client_calm name step calm_step (inl e) = inl (ap (said_by_client name) e)
  client_calm name step calm_step (inr e) = inr (ap (client_stepped name node) e)

  worker_calm : (aim : Aim) (keep : Worker → Node → Node) (step calm_step : working.Stepped) → WorkCalms step calm_step →
      TurnCalms (worker_stepped aim keep node step) (worker_stepped aim keep node calm_step)
  worker_calm aim keep step calm_step (inl e) = inl (ap (said_by_worker aim) e)
  worker_calm aim keep step calm_step (inr e) = inr (ap (worker_stepped aim keep node) e)

  collector_calm : (step calm_step : collecting.Stepped) → CollectCalms step calm_step → TurnCalms (collector_stepped node step) (collector_stepped node calm_step)
  collector_calm step calm_step (inl e) = inl (ap said_by_collector e)
  collector_calm step calm_step (inr e) = inr (ap (collector_stepped node) e)

  indexer_line_calm : (down : Bool) (i : ℕ) → i < length node.indexers → Same node.core (indexer_turn_by down luck i node).node.core →
      log_counts (indexer_turn_by down luck i node).node.indexers ≡ log_counts node.indexers →
      TurnCalms (indexer_turn_by down luck i node) (indexer_turn_by down calm i node)
  indexer_line_calm true i h same counts = inr refl
  indexer_line_calm false i h same counts =
      let indexer = indexer_at node.indexers i in
      let step = step_indexer (indexing_luck luck) node.log indexer node.core in
      indexer_calm i step (step_indexer calm_indexing node.log indexer node.core)
      (indexer_calms (indexing_luck luck) node.log indexer node.core s (below_at node.indexers i h below) same (set_same node.indexers i step.indexer h counts))

  client_line_calm : (down : Bool) (name : List ℕ) → Same node.core (client_turn_by down luck name node).node.core →
      TurnCalms (client_turn_by down luck name node) (client_turn_by down calm name node)
  client_line_calm true name same = inr refl
  client_line_calm false name same =
      let client = client_named name node.clients in
      client_calm name (step_client (searching_luck luck) node.log client node.core) (step_client calm_searching node.log client node.core)
      (client_calms (searching_luck luck) node.log client node.core s same)

  worker_line_calm : (down : Bool) (aim : Aim) (worker : Worker) (keep : Worker → Node → Node) → Same node.core (worker_turn_by down aim worker keep luck node).node.core →
      TurnCalms (worker_turn_by down aim worker keep luck node) (worker_turn_by down aim worker keep calm node)
  worker_line_calm true aim worker keep same = inr refl
  worker_line_calm false aim worker keep same =
      worker_calm aim keep (step_worker aim (working_luck luck) node.log worker node.core) (step_worker aim calm_working node.log worker node.core)
      (worker_calms (working_luck luck) node.log node.core s aim worker same)

  collector_line_calm : (down : Bool) → IsSpelled (collector_turn_by down luck node).node.core → Same node.core (collector_turn_by down luck node).node.core →
      TurnCalms (collector_turn_by down luck node) (collector_turn_by down calm node)
  collector_line_calm true small same = inr refl
  collector_line_calm false small same =
      collector_calm (step_collector (collecting_luck luck) node.core) (step_collector calm_collecting node.core) (collector_calms (collecting_luck luck) node.core s small same)

  restart_calm : (g g' : Gives Unread ⊤) → Calms (not_read no_memory) g g' → TurnCalms (restart_given node g) (restart_given node g')
  restart_calm g g' (inl e) = inl (ap (λ r. (restart_by r g.core node).said) e)
  restart_calm g g' (inr e) = inr (ap (restart_given node) e)

  restart_line_calm : Same node.core (restart_given node (loaded luck.world node.core)).node.core →
      TurnCalms (restart_given node (loaded luck.world node.core)) (restart_given node (loaded calm.world node.core))
  restart_line_calm same =
      let given = loaded luck.world node.core in
      subst (λ g. TurnCalms (restart_given node given) (restart_given node g)) (sym (opened_calm node.core s))
      (restart_calm given (unless_empty (length node.core.history == 0) (reborn node.core))
      (loaded_calms luck.world node.core s (sym (ap (λ c. c.store_faults) (restart_same given.answer given.core node)) ∙ same)))

  full_calms : (line : Line) → IsOfThese (length node.indexers) line → IsSpelled (full_turn luck node line).node.core → Same node.core (full_turn luck node line).node.core →
      log_counts (full_turn luck node line).node.indexers ≡ log_counts node.indexers → TurnCalms (full_turn luck node line) (full_turn calm node line)
  full_calms (At moment) of small same counts = inr refl
  full_calms (Assign i names) of small same counts = inr refl
  full_calms (StepIndexer i) of small same counts = indexer_line_calm node.down i of same counts
  full_calms (RestartIndexer i) of small same counts = inr refl
  full_calms (RestartClient name) of small same counts = inr refl
  full_calms StepMerger of small same counts = worker_line_calm node.down Merging node.merger with_merger same
  full_calms RestartMerger of small same counts = inr refl
  full_calms StepDeleter of small same counts = worker_line_calm node.down Deleting node.deleter with_deleter same
  full_calms RestartDeleter of small same counts = inr refl
  full_calms StepCollector of small same counts = collector_line_calm node.down small same
  full_calms RestartCollector of small same counts = inr refl
  full_calms RestartNode of small same counts = restart_line_calm same
  full_calms (Open name text) of small same counts = inr refl
  full_calms (StepClient name) of small same counts = client_line_calm node.down name same

  -- a line that was answered
  abbrev Answered : Turned → Outcome → Node → Type 0
  Answered t outcome last = t ≡ record { said = Some outcome; node = last }

  none_is_some : (outcome : Outcome) → None ≡ Some outcome → ⊥
  none_is_some outcome e = cc

  answered_calm : (t calm_t : Turned) (outcome : Outcome) (last : Node) → TurnCalms t calm_t → Answered t outcome last → Answered calm_t outcome last
  answered_calm t calm_t outcome last (inl none) e = absurd (none_is_some outcome (sym none ∙ ap (λ r. r.said) e))
  answered_calm t calm_t outcome last (inr same) e = sym same ∙ e

  module _ (line : Line) (outcome : Outcome) (last : Node) (of : IsOfThese (length node.indexers) line) (small : IsSpelled last.core)
      (same : last.core.store_faults ≡ node.core.store_faults)
      (counts : log_counts last.indexers ≡ log_counts node.indexers) where
    quiet_calm : (b : Bool) → Answered (or_quiet b line (full_turn luck node line)) outcome last → Answered (turn node line) outcome last
    quiet_calm true e = absurd (none_is_some outcome (ap (λ r. r.said) e))
    quiet_calm false e =
        answered_calm (full_turn luck node line) (full_turn calm node line) outcome last
        (full_calms line of (subst (λ (t : Turned). IsSpelled t.node.core) (sym e) small) (ap (λ r. r.node.core.store_faults) e ∙ same) (ap (λ r. log_counts r.node.indexers) e ∙ counts)) e

    early_calm : (b : Bool) → Answered (turn_by b luck node line) outcome last → Answered (turn node line) outcome last
    early_calm true e = absurd (none_is_some outcome (ap (λ r. r.said) e))
    early_calm false e = quiet_calm luck.short e

-- ---- lines

-- the counts in the middle are those at both ends
pub count_between : (a b c : ℕ) → c ≡ a → a < last_count → min a last_count ≤ b → min b last_count ≤ c → b ≡ a
count_between a b c e below g h = omega (arith, e, below, g, h)

pub calm_turns : (node last : Node) (lines : List Line) (outcomes : List Outcome) → IsStill node.core → Below node.indexers → All (IsOfThese (length node.indexers)) lines →
    Turns node lines outcomes last → IsSpelled last.core → last.core.store_faults ≡ node.core.store_faults → log_counts last.indexers ≡ log_counts node.indexers →
    outcomes ≡ (turns node lines).outcomes
calm_turns node last [] [] s below of run small same counts = refl
calm_turns node last [] (o ∷ os) s below of run small same counts = absurd run
calm_turns node last (line ∷ lines) [] s below of run small same counts = absurd run
calm_turns node last (line ∷ lines) (o ∷ os) s below of run small same counts =
    ap (λ rest. o ∷ rest) (calm_turns mid last lines os still below' of' run.2 small (same ∙ sym mid_same) (counts ∙ sym mid_counts))
    ∙ sym (ap (λ t. (run_turned t (λ next. turns_with next (map with_calm lines))).outcomes) calm_turn)
  where
    mid : Node
    mid = run.0

    mid_small : IsSpelled mid.core
    mid_small =
        let grown = (turns_later mid last lines os run.2).grows in
        let grow : last_number (history mid.core.history) ≤ last_number (history last.core.history) =
        subst (λ (es : List Entry). last_number (history mid.core.history) ≤ last_number (history es)) (sym grown.1) (numbers_grow mid.core.history grown.0) in
        omega (arith, grow, small)

    mid_same : mid.core.store_faults ≡ node.core.store_faults
    mid_same =
        count_between node.core.store_faults mid.core.store_faults last.core.store_faults same s.below (turn_later node line (Some o) mid run.1).rises
        (turns_later mid last lines os run.2).rises

    mid_counts : log_counts mid.indexers ≡ log_counts node.indexers
    mid_counts =
        none_rose (log_counts node.indexers) (log_counts mid.indexers) below (turn_counted node line (Some o) mid run.1)
        (subst (λ ns. NoneFell (log_counts mid.indexers) ns) counts (turns_counted mid last lines os run.2))

    long : length mid.indexers ≡ length node.indexers
    long = sym (length-map mid.indexers (λ i. i.log_faults)) ∙ ap length mid_counts ∙ length-map node.indexers (λ i. i.log_faults)

    calm_turn : turn node line ≡ record { said = Some o; node = mid }
    calm_turn =
        early_calm run.1.luck node s below line o mid (All-head (IsOfThese (length node.indexers)) line lines of) mid_small mid_same mid_counts run.1.luck.early run.1.is

    still : IsStill mid.core
    still = subst (λ t. IsStill t.node.core) calm_turn (turn_still node s line)

    below' : Below mid.indexers
    below' = subst (λ ns. All (λ n. n < last_count) ns) (sym mid_counts) below

    of' : All (IsOfThese (length mid.indexers)) lines
    of' = subst (λ n. All (IsOfThese n) lines) (sym long) (All-tail (IsOfThese (length node.indexers)) line lines of)
