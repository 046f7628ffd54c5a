-- Behind lines that were answered the node's clock and its clients are those that the lines name.
use Rattle.std.proofs.Common.{◌≡◌, ℕ, suc, Bool, true, false, List, [], ◌∷◌, ◌++◌, length, map, refl, sym, ap, ◌∙◌, subst}
use Rattle.std.proofs.lemmas.List.{length-map}
use Rattle.std.specs.List.{list_any}
use Rattle.std.specs.Prelude.{Some, None, Result, Ok, Err, ⊤, ◌||◌, if◌then◌else◌, bytes_eq}
use Rattle.index_world.specs.Calls.{faulted, no_memory, Unread, not_read, loaded}
use Rattle.index_world.specs.Calls as calls
use Rattle.index_world.specs.Core.{Core}
use Rattle.indexing_run.specs.Places.{IndexerPlace, idle, reading, staged, uploaded}
use Rattle.root_search.specs.Steps.{Request, no_request, opened, planned, Plan, Client, step_client, without_request}
use Rattle.upkeep_run.specs.declared.work.Aim.TheVariants.{Deleting, Merging}
use Rattle.node_run.specs.Node.{Node, Line, At, Assign, StepIndexer, RestartIndexer, RestartClient, StepMerger, RestartMerger, StepDeleter, RestartDeleter, StepCollector, RestartCollector, RestartNode, Open, StepClient, Outcome}
use Rattle.node_run.specs.Turns as turning
use Rattle.node_run.specs.Turns.{Turn, client_named, with_client, assign_at, indexer_at, indexer_turn_by, client_turn_by, collector_turn_by, searching_luck, open_by, restart_by, full_turn, or_quiet, turn_by, worker_turn_by, with_deleter, with_merger}
use Rattle.node_run.specs.Standing.{is_known}
use Rattle.node_run.proofs.Names.{named_name, kept_by_request}
use Rattle.node_run.proofs.Parts.{searched_name}
use Rattle.quick_node.specs.Running.{AreNamed}
use Rattle.input_lines.specs.Reading.{with_client_name}
use Rattle.input_lines.proofs.Names.{same-true, named_with, length_named}
use Rattle.quick_node.specs.Reading.{names_in, last_moment}

-- ---- names

or_same : (a b : Bool) → (a || (a || b)) ≡ (a || b)
or_same true b = refl
or_same false b = refl

or_swap : (a b c : Bool) → (a || (b || c)) ≡ (b || (a || c))
or_swap true true c = refl
or_swap true false c = refl
or_swap false true c = refl
or_swap false false c = refl

known_with : (name : List ℕ) (client : Client) (clients : List Client) → is_known name (with_client client clients) ≡ (bytes_eq client.name name || is_known name clients)
known_with name client [] = refl
known_with name client (other ∷ clients) = by (bytes_eq other.name client.name) refl (known_with name client clients)
  where
    by : (b : Bool) → bytes_eq other.name client.name ≡ b → is_known name (with_client client clients) ≡ (bytes_eq client.name name || is_known name clients) →
        is_known name (with_client client (other ∷ clients)) ≡ (bytes_eq client.name name || is_known name (other ∷ clients))
    by true e ih =
        ap (λ c. is_known name (if c then client ∷ clients else other ∷ with_client client clients)) e
        ∙ sym (ap (λ n. bytes_eq client.name name || (bytes_eq n name || is_known name clients)) (same-true other.name client.name e)
        ∙ or_same (bytes_eq client.name name) (is_known name clients))
    by false e ih =
        ap (λ c. is_known name (if c then client ∷ clients else other ∷ with_client client clients)) e
        ∙ ap (λ k. bytes_eq other.name name || k) ih ∙ or_swap (bytes_eq other.name name) (bytes_eq client.name name) (is_known name clients)

length_with : (client : Client) (clients : List Client) → length (with_client client clients) ≡ (if is_known client.name clients then length clients else suc (length clients))
length_with client [] = refl
length_with client (other ∷ clients) = by (bytes_eq other.name client.name) refl (is_known client.name clients) refl (length_with client clients)
  where
    by : (b : Bool) → bytes_eq other.name client.name ≡ b → (k : Bool) → is_known client.name clients ≡ k →
        length (with_client client clients) ≡ (if is_known client.name clients then length clients else suc (length clients)) →
        length (with_client client (other ∷ clients)) ≡ (if is_known client.name (other ∷ clients) then length (other ∷ clients) else suc (length (other ∷ clients)))
    by true e k f ih = rw e refl
    by false e true f ih = rw (e, f) (ap suc (ih ∙ ap (λ c. if c then length clients else suc (length clients)) f))
    by false e false f ih = rw (e, f) (ap suc (ih ∙ ap (λ c. if c then length clients else suc (length clients)) f))

module _ (names : List (List ℕ)) (clients : List Client) (are : AreNamed names clients) (name : List ℕ) where
  -- a client of this name was kept
  kept_named : (client : Client) → client.name ≡ name → AreNamed (with_client_name name names) (with_client client clients)
  kept_named client e =
      record {
        same = λ q. named_with q name names ∙ ap (λ b. bytes_eq name q || b) (are.same q) ∙ ap (λ n. bytes_eq n q || is_known q clients) (sym e)
            ∙ sym (known_with q client clients);
        long = length_named name names ∙ ap (λ k. if k then length names else suc (length names)) (are.same name)
            ∙ ap (λ n. if is_known name clients then n else suc n) are.long ∙ ap (λ n. if is_known n clients then length clients else suc (length clients)) (sym e)
            ∙ sym (length_with client clients);
      }

-- ---- a line

known_without : (name : List ℕ) (clients : List Client) → is_known name (map without_request clients) ≡ is_known name clients
known_without name [] = refl
known_without name (client ∷ clients) = ap (λ k. bytes_eq client.name name || k) (known_without name clients)

module _ (names : List (List ℕ)) (node : Node) (are : AreNamed names node.clients) where
  without_named : AreNamed names (map without_request node.clients)
  without_named = record { same = λ q. are.same q ∙ sym (known_without q node.clients); long = are.long ∙ sym (length-map node.clients without_request) }

  assign_named : (place : IndexerPlace) (i : ℕ) (parts : List (List ℕ)) → AreNamed names (assign_at place i parts (indexer_at node.indexers i) node).node.clients
  assign_named idle i parts = are
  assign_named (reading batch) i parts = are
  assign_named (staged held) i parts = are
  assign_named (uploaded held) i parts = are

  indexer_named : (down : Bool) (luck : turning.LineLuck) (i : ℕ) → AreNamed names (indexer_turn_by down luck i node).node.clients
  indexer_named true luck i = are
  indexer_named false luck i = are

  merger_named : (down : Bool) (luck : turning.LineLuck) → AreNamed names (worker_turn_by down Merging node.merger with_merger luck node).node.clients
  merger_named true luck = are
  merger_named false luck = are

  deleter_named : (down : Bool) (luck : turning.LineLuck) → AreNamed names (worker_turn_by down Deleting node.deleter with_deleter luck node).node.clients
  deleter_named true luck = are
  deleter_named false luck = are

  collector_named : (down : Bool) (luck : turning.LineLuck) → AreNamed names (collector_turn_by down luck node).node.clients
  collector_named true luck = are
  collector_named false luck = are

  client_turn_named : (down : Bool) (luck : turning.LineLuck) (name : List ℕ) → AreNamed (with_client_name name names) (client_turn_by down luck name node).node.clients
  client_turn_named true luck name = kept_named names node.clients are name (client_named name node.clients) (named_name name node.clients)
  client_turn_named false luck name =
      let client = client_named name node.clients in
      let step = step_client (searching_luck luck) node.log client node.core in
      kept_named names node.clients are name step.client (searched_name (searching_luck luck) node.log client node.core ∙ named_name name node.clients)

  -- a client that has a request was known
  busy_named : (name : List ℕ) → ((client_named name node.clients).request ≡ no_request → ⊥) → AreNamed (with_client_name name names) node.clients
  busy_named name busy =
      subst (λ cs. AreNamed (with_client_name name names) cs) (kept_by_request name node.clients busy)
      (kept_named names node.clients are name (client_named name node.clients) (named_name name node.clients))

  not_opened : (text : List ℕ) → opened text ≡ no_request → ⊥
  not_opened text e = cc

  not_planned : (plan : Plan) → planned plan ≡ no_request → ⊥
  not_planned plan e = cc

  open_named : (request : Request) (name text : List ℕ) → request ≡ (client_named name node.clients).request →
      AreNamed (with_client_name name names) (open_by request name text (client_named name node.clients) node).node.clients
  open_named no_request name text e =
      kept_named names node.clients are name (record (client_named name node.clients) { request = opened text }) (named_name name node.clients)
  open_named (opened other) name text e = busy_named name (λ f. not_opened other (e ∙ f))
  open_named (planned plan) name text e = busy_named name (λ f. not_planned plan (e ∙ f))

  restart_named : (r : Result ⊤ Unread) (core : Core) → AreNamed names (restart_by r core node).node.clients
  restart_named (Ok done) core = without_named
  restart_named (Err (not_read (faulted fault))) core = without_named
  restart_named (Err (not_read no_memory)) core = without_named
  restart_named (Err calls.no_index) core = without_named

  full_named : (luck : turning.LineLuck) (line : Line) → AreNamed (names_in names (line ∷ [])) (full_turn luck node line).node.clients
  full_named luck (At moment) = are
  full_named luck (Assign i parts) = assign_named (indexer_at node.indexers i).place i parts
  full_named luck (StepIndexer i) = indexer_named node.down luck i
  full_named luck (RestartIndexer i) = are
  full_named luck (RestartClient name) =
      kept_named names node.clients are name (without_request (client_named name node.clients)) (named_name name node.clients)
  full_named luck StepMerger = merger_named node.down luck
  full_named luck RestartMerger = are
  full_named luck StepDeleter = deleter_named node.down luck
  full_named luck RestartDeleter = are
  full_named luck StepCollector = collector_named node.down luck
  full_named luck RestartCollector = are
  full_named luck RestartNode = let given = loaded luck.world node.core in restart_named given.answer given.core
  full_named luck (Open name text) = open_named (client_named name node.clients).request name text refl
  full_named luck (StepClient name) = client_turn_named node.down luck name

none_is_some : (outcome : Outcome) → None ≡ Some outcome → ⊥
none_is_some outcome e = cc

-- an answered line names its client
pub turn_named : (names : List (List ℕ)) (node : Node) (line : Line) (outcome : Outcome) (last : Node) → AreNamed names node.clients →
    Turn node line (Some outcome) last → AreNamed (names_in names (line ∷ [])) last.clients
turn_named names node line outcome last are t = early t.luck.early t.is
  where
    quiet_by : (b : Bool) → or_quiet b line (full_turn t.luck node line) ≡ record { said = Some outcome; node = last } →
        AreNamed (names_in names (line ∷ [])) last.clients
    quiet_by true e = absurd (none_is_some outcome (ap (λ r. r.said) e))
    quiet_by false e = subst (λ r. AreNamed (names_in names (line ∷ [])) r.node.clients) e (full_named names node are t.luck line)

    early : (b : Bool) → turn_by b t.luck node line ≡ record { said = Some outcome; node = last } → AreNamed (names_in names (line ∷ [])) last.clients
    early true e = absurd (none_is_some outcome (ap (λ r. r.said) e))
    early false e = quiet_by t.luck.short e

-- ---- lines one after another

pub names_go_on : (names : List (List ℕ)) (lines : List Line) (line : Line) → names_in names (lines ++ line ∷ []) ≡ names_in (names_in names lines) (line ∷ [])
names_go_on names [] line = refl
names_go_on names (At m ∷ lines) line = names_go_on names lines line
names_go_on names (Assign i parts ∷ lines) line = names_go_on names lines line
names_go_on names (StepIndexer i ∷ lines) line = names_go_on names lines line
names_go_on names (RestartIndexer i ∷ lines) line = names_go_on names lines line
names_go_on names (RestartClient name ∷ lines) line = names_go_on (with_client_name name names) lines line
names_go_on names (StepMerger ∷ lines) line = names_go_on names lines line
names_go_on names (RestartMerger ∷ lines) line = names_go_on names lines line
names_go_on names (StepDeleter ∷ lines) line = names_go_on names lines line
names_go_on names (RestartDeleter ∷ lines) line = names_go_on names lines line
names_go_on names (StepCollector ∷ lines) line = names_go_on names lines line
names_go_on names (RestartCollector ∷ lines) line = names_go_on names lines line
names_go_on names (RestartNode ∷ lines) line = names_go_on names lines line
names_go_on names (Open name text ∷ lines) line = names_go_on (with_client_name name names) lines line
names_go_on names (StepClient name ∷ lines) line = names_go_on (with_client_name name names) lines line

pub moments_go_on : (moment : ℕ) (lines : List Line) (line : Line) → last_moment moment (lines ++ line ∷ []) ≡ last_moment (last_moment moment lines) (line ∷ [])
moments_go_on moment [] line = refl
moments_go_on moment (At m ∷ lines) line = moments_go_on m lines line
moments_go_on moment (Assign i parts ∷ lines) line = moments_go_on moment lines line
moments_go_on moment (StepIndexer i ∷ lines) line = moments_go_on moment lines line
moments_go_on moment (RestartIndexer i ∷ lines) line = moments_go_on moment lines line
moments_go_on moment (RestartClient name ∷ lines) line = moments_go_on moment lines line
moments_go_on moment (StepMerger ∷ lines) line = moments_go_on moment lines line
moments_go_on moment (RestartMerger ∷ lines) line = moments_go_on moment lines line
moments_go_on moment (StepDeleter ∷ lines) line = moments_go_on moment lines line
moments_go_on moment (RestartDeleter ∷ lines) line = moments_go_on moment lines line
moments_go_on moment (StepCollector ∷ lines) line = moments_go_on moment lines line
moments_go_on moment (RestartCollector ∷ lines) line = moments_go_on moment lines line
moments_go_on moment (RestartNode ∷ lines) line = moments_go_on moment lines line
moments_go_on moment (Open name text ∷ lines) line = moments_go_on moment lines line
moments_go_on moment (StepClient name ∷ lines) line = moments_go_on moment lines line
