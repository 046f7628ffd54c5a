-- The parts of a node behind each of its lines.
use Rattle.std.proofs.Common.{◌≡◌, ℕ, zero, suc, ◌<◌, List, [], ◌∷◌, ◌++◌, length, get_or, refl, sym, ap, ◌∙◌, subst, arith, Bool, true, false, map, inl, inr, take, drop, ◌≤◌}
use Rattle.std.proofs.lemmas.List.{take_at}
use Rattle.std.proofs.lemmas.Bool.{lt-ltb, le-ltb}
use Rattle.std.specs.List.{AllZip}
use Rattle.std.specs.Prelude.{◌||◌, if◌then◌else◌, nat_lt, slice_set, Option, Some, None, Result, Ok, Err, IfOk, IsErr, ⊤}
use Rattle.std.specs.Result.{IsErrAnd}
use Rattle.std.specs.declared.alloc.AllocError.{AllocError}
use Rattle.source_log.specs.Log.{Log}
use Rattle.index_world.specs.Loading.{IsUnread, IsLoaded}
use Rattle.index_world.specs.Gate.{Says, task_call}
use Rattle.index_world.specs.declared.world_error.WorldError.{WorldError}
use Rattle.index_world.specs.Calls as calls
use Rattle.index_world.specs.Calls.{Fate, Fault, Trouble, faulted, no_memory, not_read, Unmade, Unread, gives, loaded, asked_and_looked}
use Rattle.root_search.specs.Requests.{ask_of, asked_of}
use Rattle.index_world.specs.Core.{Core, IsOther, journal_of, KeepsBut}
use Rattle.index_world.proofs.InCore.{shown_keeps, moment_goes}
use Rattle.index_world.specs.Index.{has_staged}
use Rattle.index_world.specs.World.{Keeping, WorldStands, GoesOn}
use Rattle.indexing_run.proofs.Holding.{indexer_stays}
use Rattle.indexing_run.specs.Outcomes.{IndexerOutcome}
use Rattle.indexing_run.specs.Making.{IsAssigned}
use Rattle.indexing_run.specs.Places.{Indexer, IndexerPlace, reading, staged, uploaded, idle, is_idle, number_held}
use Rattle.node_run.specs.Alone.{CollectsAlone, SearchesAlone, StepsAlone}
use Rattle.node_run.specs.Lines.{AreNames}
use Rattle.node_run.specs.Seen.{seen}
use Rattle.node_run.specs.declared.line.Line.{Line as CodeLine}
use Rattle.node_run.specs.declared.drive.Accepts.TheVariants as accepts
use Rattle.indexing_run.specs.Standing.{IndexerStands, PlaceStands, Answers, IsSaid as IsIndexerSaid}
use Rattle.indexing_run.specs.declared.indexer.Indexer.{Indexer as Reader}
use Rattle.indexing_run.specs.declared.indexer.IndexerPlace.{IndexerPlace as HeldPlace}
use Rattle.indexing_run.specs.declared.indexer.IndexerPlace.TheVariants as places
use Rattle.indexing_run.specs.declared.outcome.IndexerOutcome.{IndexerOutcome as Said}
use Rattle.root_search.proofs.Stands.{searcher_goes_on}
use Rattle.root_search.specs.Searching.{SearcherStands, IsRequest}
use Rattle.root_search.specs.declared.searcher.Request.{Request as KeptRequest}
use Rattle.root_search.specs.declared.searcher.Request.TheVariants as requests
use Rattle.root_search.specs.Steps.{Client, without_request}
use Rattle.root_search.specs.Steps as searching
use Rattle.search_api.specs.Resolved.{Asked, IsDelete, IsSearch, Search}
use Rattle.search_api.specs.declared.reply.Refusal.{Refusal}
use Rattle.search_api.specs.declared.unanswered.Unanswered.{Unanswered}
use Rattle.search_api.specs.declared.unanswered.Unanswered.TheVariants as reasons
use Rattle.root_search.specs.declared.outcome.SearchStep.{SearchStep}
use Rattle.root_search.specs.declared.searcher.Searcher.{Searcher}
use Rattle.split_collector.specs.Outcomes.{Outcome as CollectorOutcome}
use Rattle.split_collector.specs.Standing as collects
use Rattle.split_collector.specs.declared.outcome.CollectorOutcome.{CollectorOutcome as Collected}
use Rattle.upkeep_run.specs.Places as workers
use Rattle.upkeep_run.specs.Standing as works
use Rattle.upkeep_run.specs.declared.work.Aim.TheVariants.{Deleting, Merging}
use Rattle.upkeep_run.specs.declared.work.WorkerPlace.{WorkerPlace as WorkerPlace}
use Rattle.node_run.specs.declared.drive.DriveNode.{DriveNode}
use Rattle.node_run.specs.declared.out_line.OutLine.{OutLine}
use Rattle.node_run.specs.Lines.{outcome_text}
use Rattle.node_run.specs.Named.{NamedAt, names_of, HasPlaces}
use Rattle.node_run.specs.Node.{Node, Line, At, Assign, StepIndexer, RestartIndexer, RestartClient, StepMerger, RestartMerger, StepDeleter, RestartDeleter, StepCollector, RestartCollector, RestartNode, Open, StepClient, Outcome, request_busy, assigned, indexer_busy, node_failed, world_fault, no_index}
use Rattle.node_run.specs.Standing.{PartsStand, NodeStands, DoesMost, DoesLine, HoldApart}
use Rattle.node_run.specs.Turns.{restart_by, LineLuck, calm, Turn, Turned, turned, full_turn, quiet, assign_at, with_indexer, indexer_at, made_idle, client_named, with_client, keep_client, stopped, restarted, indexer_stepped, client_stepped, indexer_turn_by, client_turn_by, said_by_indexer, said_by_client, with_deleter, with_merger, worker_turn_by, collector_stepped, collector_turn_by, said_by_collector, open_by}
use Rattle.node_run.proofs.Telling.{stands_own}
use Rattle.node_run.proofs.Names.{with_with, named_set}
use Rattle.node_run.proofs.Places.{names_with, names_without}
use Rattle.call_laws.proofs.CallMoves.{loaded_moves}
use Rattle.node_run.proofs.CollectorMoves.{collector_moves}
use Rattle.node_run.proofs.Moving.{indexer_moves, client_moves}
use Rattle.node_run.proofs.Workers.{all_idle_other, idle_work_apart, idle_other, idle_worker_over, other_at, other_of_indexer, set_other, worker_goes_on, worker_staged}
use Rattle.node_run.proofs.Zips.{zip_length, zip_weaker, zip_set, zip_at, zip_right, map_set, map_at, others_apart, zip_step, new_apart, idle_apart, idle_all_apart, same_apart, other_of}

-- ---- what is answered

module _ {S L : Type 0} (told : L → Option Log) (count : L → ℕ) (since : L → L → Type 0) (firsts : List L) (node : Node) (line : Line) (new : DriveNode S L) where
  pub most_done : (r : Result OutLine AllocError) (luck : LineLuck) (outcome : Outcome) (last : Node) → full_turn luck node line ≡ turned outcome last →
      IfOk r (λ out. out.bytes ≡ outcome_text outcome) → NodeStands told count since firsts new last → DoesMost told count since firsts node line r new
  most_done (Ok out) luck outcome last e text stands = (luck, outcome, last, e, text, stands)
  most_done (Err refused) luck outcome last e text stands = inr (luck, turned outcome last, e, stands)

  pub most_short : (Q : AllocError → Type 0) (r : Result OutLine AllocError) → IsErrAnd r Q → (luck : LineLuck) (turn : Turned) → full_turn luck node line ≡ turn →
      NodeStands told count since firsts new turn.node → DoesMost told count since firsts node line r new
  most_short Q (Ok out) err luck turn e stands = absurd err
  most_short Q (Err refused) err luck turn e stands = inr (luck, turn, e, stands)

  pub most_none : (Q : AllocError → Type 0) (r : Result OutLine AllocError) → IsErrAnd r Q → NodeStands told count since firsts new node →
      DoesMost told count since firsts node line r new
  most_none Q (Ok out) err stands = absurd err
  most_none Q (Err refused) err stands = inl stands

-- ---- an indexer changes

pub clock_on : (core : Core) (clock : ℕ) → GoesOn None core (record core { clock = clock })
clock_on core clock = moment_goes (IsOther None) core core.moment clock (omega arith)

pub staged_of : {L : Type 0} (told : L → Option Log) (count : L → ℕ) (reader : Reader L) (indexer : Indexer) (core : Core) (log : Log) (n : ℕ) →
    IndexerStands told count reader indexer core log → number_held indexer.place ≡ Some n → has_staged (journal_of core) n ≡ true
staged_of {L} told count reader indexer core log n s held = by reader.place s.place where
  some_same : (a b : ℕ) → Some a ≡ Some b → a ≡ b
  some_same a b e = cc

  none_some : None ≡ Some n → ⊥
  none_some e = cc

  by : (kept : HeldPlace) → PlaceStands log core kept indexer.place → has_staged (journal_of core) n ≡ true
  by places.Idle p = absurd (none_some (sym (ap number_held p) ∙ held))
  by (places.Reading batch) p = absurd (none_some (sym (ap number_held p.1) ∙ held))
  by (places.Staged token bytes) p =
      subst (λ m. has_staged (journal_of core) m ≡ true) (some_same p.0.number n (sym (ap number_held p.1) ∙ held)) p.4.unused.staged
  by (places.Uploaded token) p =
      subst (λ m. has_staged (journal_of core) m ≡ true) (some_same p.0.number n (sym (ap number_held p.1) ∙ held)) p.3.staged.staged

module _ {L : Type 0} (told : L → Option Log) (count : L → ℕ) (since : L → L → Type 0) (on_then : (a b c : L) → since a b → since b c → since a c) (firsts : List L)
    (world : Keeping) (readers : List (Reader L)) (merger deleter : WorkerPlace) (searchers : List Searcher) (places : List (List ℕ × ℕ)) (clock : ℕ) (down : Bool) (node : Node)
    (p : PartsStand told count since firsts world readers merger deleter searchers places clock down node) where
  abbrev R : Reader L → Indexer → Type 0
  R reader indexer = IndexerStands told count reader indexer node.core node.log

  abbrev C : Searcher → Client → Type 0
  C searcher client = SearcherStands searcher client node.core node.log

  pub later_set : (i : ℕ) (old new : Reader L) → old ≡ get_or readers i old → since old.log new.log → AllZip since firsts (map (λ reader. reader.log) (slice_set readers i new))
  later_set i old new e on =
      subst (λ (l : List L). AllZip since firsts l) (sym (map_set (λ reader. reader.log) readers i new))
      (zip_right since firsts (map (λ reader. reader.log) readers) i old.log new.log p.later (map_at (λ reader. reader.log) readers i old e)
      (λ first before. on_then first old.log new.log before on))

  -- it is made idle
  pub idle_parts : (i : ℕ) (old new : Reader L) → i < length readers → old ≡ get_or readers i old → since old.log new.log →
      ((indexer : Indexer) (core after : Core) (read : Log) → IndexerStands told count old indexer core read → IndexerStands told count new (made_idle indexer) after read) →
      PartsStand told count since firsts world (slice_set readers i new) merger deleter searchers places clock down (with_indexer i (made_idle (indexer_at node.indexers i)) node)
  idle_parts i old new h e on again =
      record {
        world_stands = p.world_stands;
        is_log = p.is_log;
        moment = p.moment;
        down = p.down;
        indexers = zip_set R readers node.indexers i new (made_idle (indexer_at node.indexers i)) p.indexers
            (again (indexer_at node.indexers i) node.core node.core node.log
            (zip_at R readers node.indexers i old p.indexers h e));
        apart = idle_apart node.indexers i (indexer_at node.indexers i) p.apart;
        merging = p.merging;
        merger_apart = all_idle_other node.merger node.indexers p.merger_apart i;
        deleting = p.deleting;
        deleter_apart = all_idle_other node.deleter node.indexers p.deleter_apart i;
        workers_apart = p.workers_apart;
        clients = p.clients;
        placed = p.placed;
        later = later_set i old new e on;
      }

  -- it stands for another one with the same place
  pub placed_parts : (i : ℕ) (old new : Reader L) (after : Indexer) → i < length readers → old ≡ get_or readers i old → since old.log new.log →
      after.place ≡ (indexer_at node.indexers i).place → IndexerStands told count new after node.core node.log →
      PartsStand told count since firsts world (slice_set readers i new) merger deleter searchers places clock down (with_indexer i after node)
  placed_parts i old new after h e on same stands =
      record {
        world_stands = p.world_stands;
        is_log = p.is_log;
        moment = p.moment;
        down = p.down;
        indexers = zip_set R readers node.indexers i new after p.indexers stands;
        apart = same_apart node.indexers i after
            (subst (λ n. i < n) (zip_length R readers node.indexers p.indexers) h) same p.apart;
        merging = p.merging;
        merger_apart = set_other node.merger node.indexers i after p.merger_apart
            (λ n at_merger at_after.
            other_at node.merger node.indexers i p.merger_apart (subst (λ n. i < n) (zip_length R readers node.indexers p.indexers) h) n at_merger (sym (ap number_held same) ∙ at_after));
        deleting = p.deleting;
        deleter_apart = set_other node.deleter node.indexers i after p.deleter_apart
            (λ n at_deleter at_after.
            other_at node.deleter node.indexers i p.deleter_apart (subst (λ n. i < n) (zip_length R readers node.indexers p.indexers) h) n at_deleter (sym (ap number_held same) ∙ at_after));
        workers_apart = p.workers_apart;
        clients = p.clients;
        placed = p.placed;
        later = later_set i old new e on;
      }

  -- it took a step
  pub stepped_parts : (i : ℕ) (old new : Reader L) (world' : Keeping) (result : Result Said AllocError) → i < length readers → old ≡ get_or readers i old →
      since old.log new.log → (s : StepsAlone told count result (indexer_at node.indexers i) node.core node.log new world') →
      PartsStand told count since firsts world' (slice_set readers i new) merger deleter searchers places clock down (record (with_indexer i s.after node) { core = s.behind })
  stepped_parts i old new world' result h e on s =
      let apart = others_apart node.indexers i p.apart (subst (λ n. i < n) (zip_length R readers node.indexers p.indexers) h) in
      let from_merger = other_at node.merger node.indexers i p.merger_apart (subst (λ n. i < n) (zip_length R readers node.indexers p.indexers) h) in
      let from_deleter = other_at node.deleter node.indexers i p.deleter_apart (subst (λ n. i < n) (zip_length R readers node.indexers p.indexers) h) in
      record {
        world_stands = s.world_stands;
        is_log = p.is_log;
        moment = p.moment ∙ sym (indexer_moves s.luck node.log (indexer_at node.indexers i) node.core).ticks ∙ ap (λ step. step.core.clock) s.did;
        down = p.down;
        indexers = zip_step R (λ reader indexer. IndexerStands told count reader indexer s.behind node.log) (HoldApart (indexer_at node.indexers i)) readers node.indexers i new s.after p.indexers apart
            (λ reader indexer stands off. indexer_stays told count reader indexer node.core s.behind node.log (number_held (indexer_at node.indexers i).place) s.goes_on (other_of (indexer_at node.indexers i) indexer off) stands)
            s.stands;
        apart = new_apart R (HoldApart (indexer_at node.indexers i)) readers node.indexers i s.after p.indexers apart p.apart
            (λ reader indexer stands off n at_after at_other.
            off n (s.apart n (staged_of told count reader indexer node.core node.log n stands at_other) at_after) at_other);
        merging = worker_goes_on Merging node.core s.behind node.log (number_held (indexer_at node.indexers i).place) world' merger node.merger s.world_stands s.goes_on
            (other_of_indexer node.merger (indexer_at node.indexers i) from_merger) p.merging;
        merger_apart = set_other node.merger node.indexers i s.after p.merger_apart
            (λ n at_merger at_after. from_merger n at_merger (s.apart n (worker_staged Merging node.log node.core merger node.merger n p.merging at_merger) at_after));
        deleting = worker_goes_on Deleting node.core s.behind node.log (number_held (indexer_at node.indexers i).place) world' deleter node.deleter s.world_stands s.goes_on
            (other_of_indexer node.deleter (indexer_at node.indexers i) from_deleter) p.deleting;
        deleter_apart = set_other node.deleter node.indexers i s.after p.deleter_apart
            (λ n at_deleter at_after. from_deleter n at_deleter (s.apart n (worker_staged Deleting node.log node.core deleter node.deleter n p.deleting at_deleter) at_after));
        workers_apart = p.workers_apart;
        clients = zip_weaker C (λ searcher client. SearcherStands searcher client s.behind node.log)
            searchers node.clients (λ searcher client stands. searcher_goes_on (IsOther (number_held (indexer_at node.indexers i).place)) searcher client node.core s.behind node.log s.goes_on stands) p.clients;
        placed = p.placed;
        later = later_set i old new e on;
      }

  -- ---- a client changes

  -- of a list of searchers in which it is known, one is changed
  pub client_parts : (name : List ℕ) (known : List Searcher) (found : List (List ℕ × ℕ)) (m c : Client) (place : ℕ) (searcher : Searcher) → m.name ≡ name → c.name ≡ name →
      AllZip C known (with_client m node.clients) → HasPlaces found (names_of (with_client m node.clients)) → NamedAt name known place → SearcherStands searcher c node.core node.log →
      PartsStand told count since firsts world readers merger deleter (slice_set known place searcher) found clock down (keep_client c node)
  client_parts name known found m c place searcher em ec zip has at stands =
      record {
        world_stands = p.world_stands;
        is_log = p.is_log;
        moment = p.moment;
        down = p.down;
        indexers = p.indexers;
        apart = p.apart;
        merging = p.merging;
        merger_apart = p.merger_apart;
        deleting = p.deleting;
        deleter_apart = p.deleter_apart;
        workers_apart = p.workers_apart;
        clients = subst (λ (l : List Client). AllZip C (slice_set known place searcher) l) (with_with c m node.clients (ec ∙ sym em))
            (named_set node.core node.core node.log name known (with_client m node.clients) place searcher c (λ t n w. w) ec at zip stands);
        placed = subst (HasPlaces found) (names_with m c node.clients (em ∙ sym ec)) has;
        later = p.later;
      }

  -- none is changed
  pub known_parts : (known : List Searcher) (found : List (List ℕ × ℕ)) (ms : List Client) → AllZip C known ms → HasPlaces found (names_of ms) →
      PartsStand told count since firsts world readers merger deleter known found clock down (record node { clients = ms })
  known_parts known found ms zip has =
      record {
        world_stands = p.world_stands;
        is_log = p.is_log;
        moment = p.moment;
        down = p.down;
        indexers = p.indexers;
        apart = p.apart;
        merging = p.merging;
        merger_apart = p.merger_apart;
        deleting = p.deleting;
        deleter_apart = p.deleter_apart;
        workers_apart = p.workers_apart;
        clients = zip;
        placed = has;
        later = p.later;
      }

  -- a client that was known stays as it was
  pub same_parts : (searchers' : List Searcher) (places' : List (List ℕ × ℕ)) (ms : List Client) → ms ≡ node.clients →
      PartsStand told count since firsts world readers merger deleter searchers' places' clock down (record node { clients = ms }) →
      PartsStand told count since firsts world readers merger deleter searchers' places' clock down node
  same_parts searchers' places' ms e q =
      subst (λ (ns : List Client). PartsStand told count since firsts world readers merger deleter searchers' places' clock down (record node { clients = ns })) e q

  -- it took a step
  pub searched_parts : (name : List ℕ) (known : List Searcher) (found : List (List ℕ × ℕ)) (m : Client) (place : ℕ) (new : Searcher) (world' : Keeping) (result : Result SearchStep AllocError) →
      m.name ≡ name → AllZip C known (with_client m node.clients) → HasPlaces found (names_of (with_client m node.clients)) → NamedAt name known place →
      (s : SearchesAlone result new world' m node.core node.log) → s.later.name ≡ name →
      PartsStand told count since firsts world' readers merger deleter (slice_set known place new) found clock down (record (keep_client s.later node) { core = s.after })
  searched_parts name known found m place new world' result em zip has at s el =
      record {
        world_stands = s.world_stands;
        is_log = p.is_log;
        moment = p.moment ∙ sym (client_moves s.luck node.log m node.core).ticks ∙ ap (λ step. step.core.clock) s.did;
        down = p.down;
        indexers = zip_weaker R (λ reader indexer. IndexerStands told count reader indexer s.after node.log) readers node.indexers
            (λ reader indexer stands. indexer_stays told count reader indexer node.core s.after node.log None s.goes_on (λ n held. tt) stands) p.indexers;
        apart = p.apart;
        merging = worker_goes_on Merging node.core s.after node.log None world' merger node.merger s.world_stands s.goes_on (λ n held. tt) p.merging;
        merger_apart = p.merger_apart;
        deleting = worker_goes_on Deleting node.core s.after node.log None world' deleter node.deleter s.world_stands s.goes_on (λ n held. tt) p.deleting;
        deleter_apart = p.deleter_apart;
        workers_apart = p.workers_apart;
        clients = subst (λ (l : List Client). AllZip (λ searcher client. SearcherStands searcher client s.after node.log) (slice_set known place new) l)
            (with_with s.later m node.clients (el ∙ sym em))
            (named_set node.core s.after node.log name known (with_client m node.clients) place new s.later
            (λ t n w. searcher_goes_on (IsOther None) t n node.core s.after node.log s.goes_on w) el at zip s.searcher);
        placed = subst (HasPlaces found) (names_with m s.later node.clients (em ∙ sym el)) has;
        later = p.later;
      }

  -- ---- the collector took a step

  pub collected_parts : (world' : Keeping) (result : Result Collected AllocError) → (s : CollectsAlone result world' node.core node.log) →
      PartsStand told count since firsts world' readers merger deleter searchers places clock down (record node { core = s.after })
  collected_parts world' result s =
      record {
        world_stands = s.world_stands;
        is_log = p.is_log;
        moment = p.moment ∙ sym (collector_moves s.luck node.core).ticks ∙ ap (λ step. step.core.clock) s.did;
        down = p.down;
        indexers = zip_weaker R (λ reader indexer. IndexerStands told count reader indexer s.after node.log) readers node.indexers
            (λ reader indexer stands. indexer_stays told count reader indexer node.core s.after node.log None s.goes_on (λ n held. tt) stands) p.indexers;
        apart = p.apart;
        merging = worker_goes_on Merging node.core s.after node.log None world' merger node.merger s.world_stands s.goes_on (λ n held. tt) p.merging;
        merger_apart = p.merger_apart;
        deleting = worker_goes_on Deleting node.core s.after node.log None world' deleter node.deleter s.world_stands s.goes_on (λ n held. tt) p.deleting;
        deleter_apart = p.deleter_apart;
        workers_apart = p.workers_apart;
        clients = zip_weaker C (λ searcher client. SearcherStands searcher client s.after node.log) searchers node.clients
            (λ searcher client w. searcher_goes_on (IsOther None) searcher client node.core s.after node.log s.goes_on w) p.clients;
        placed = p.placed;
        later = p.later;
      }

  -- ---- the clock is set

  pub clock_parts : (moment : ℕ) (world' : Keeping) → WorldStands world' (record (node.core) { clock = moment }) node.log →
      PartsStand told count since firsts world' readers merger deleter searchers places moment down (record node { core = record (node.core) { clock = moment } })
  clock_parts moment world' stands =
      record {
        world_stands = stands;
        is_log = p.is_log;
        moment = refl;
        down = p.down;
        indexers = zip_weaker R (λ reader indexer. IndexerStands told count reader indexer (record (node.core) { clock = moment }) node.log) readers node.indexers
            (λ reader indexer stands. indexer_stays told count reader indexer node.core (record (node.core) { clock = moment }) node.log None
            (clock_on node.core moment) (λ n held. tt) stands) p.indexers;
        apart = p.apart;
        merging = worker_goes_on Merging node.core (record (node.core) { clock = moment }) node.log None world' merger node.merger stands (clock_on node.core moment) (λ n held. tt) p.merging;
        merger_apart = p.merger_apart;
        deleting = worker_goes_on Deleting node.core (record (node.core) { clock = moment }) node.log None world' deleter node.deleter stands (clock_on node.core moment) (λ n held. tt) p.deleting;
        deleter_apart = p.deleter_apart;
        workers_apart = p.workers_apart;
        clients = zip_weaker C (λ searcher client. SearcherStands searcher client (record (node.core) { clock = moment }) node.log) searchers node.clients
            (λ searcher client w. searcher_goes_on (IsOther None) searcher client node.core (record (node.core) { clock = moment }) node.log (clock_on node.core moment) w) p.clients;
        placed = p.placed;
        later = p.later;
      }

  -- ---- all stop

  pub stopped_parts : (readers' : List (Reader L)) (merger' deleter' : WorkerPlace) (searchers' : List Searcher) (world' : Keeping) (down' : Bool) (core : Core) → core.clock ≡ node.core.clock →
      WorldStands world' core node.log → map (λ reader. reader.log) readers' ≡ map (λ reader. reader.log) readers →
      AllZip (λ reader indexer. IndexerStands told count reader indexer core node.log) readers' (map made_idle node.indexers) →
      works.PlaceStands Merging node.log core merger' workers.idle → works.PlaceStands Deleting node.log core deleter' workers.idle →
      AllZip (λ searcher client. SearcherStands searcher client core node.log) searchers' (map without_request node.clients) →
      PartsStand told count since firsts world' readers' merger' deleter' searchers' places clock down' (record (restarted node) { core = core; down = down' })
  stopped_parts readers' merger' deleter' searchers' world' down' core same stands logs indexers merging deleting clients =
      record {
        world_stands = stands;
        is_log = p.is_log;
        moment = p.moment ∙ sym same;
        down = refl;
        indexers = indexers;
        apart = idle_all_apart node.indexers;
        merging = merging;
        merger_apart = idle_other (map made_idle node.indexers);
        deleting = deleting;
        deleter_apart = idle_other (map made_idle node.indexers);
        workers_apart = idle_work_apart workers.idle;
        clients = clients;
        placed = subst (HasPlaces places) (sym (names_without node.clients)) p.placed;
        later = subst (λ (l : List L). AllZip since firsts l) (sym logs) p.later;
      }

-- ---- a step's names

pub searched_name : (luck : searching.ClientLuck) (log : Log) (client : Client) (core : Core) → (searching.step_client luck log client core).client.name ≡ client.name
searched_name luck log client core = short luck.short where
  troubled : (revision : ℕ) (t : Trouble) (c : Core) → (searching.trouble_replied revision t client c).client.name ≡ client.name
  troubled revision (faulted fault) c = refl
  troubled revision no_memory c = refl

  refused : (revision : ℕ) (refusal : Refusal) (t : Trouble) (c : Core) → (searching.refused_over revision refusal t client c).client.name ≡ client.name
  refused revision refusal (faulted fault) c = refl
  refused revision refusal no_memory c = refl

  plan : (r : Result ⊤ Trouble) (asked : Result Search Unanswered) (c : Core) → (searching.plan_by r asked client c).client.name ≡ client.name
  plan (Ok done) (Ok search) c = refl
  plan (Ok done) (Err (reasons.Refused refusal)) c = refl
  plan (Ok done) (Err (reasons.Memory e)) c = refl
  plan (Err t) (Ok search) c = troubled client.front t c
  plan (Err t) (Err (reasons.Refused refusal)) c = refused client.front refusal t c
  plan (Err t) (Err (reasons.Memory e)) c = refl

  delete : (r : Result ⊤ Unmade) (c : Core) → (searching.delete_by r client c).client.name ≡ client.name
  delete (Ok done) c = refl
  delete (Err (calls.refused refusal)) c = refl
  delete (Err (calls.troubled t)) c = troubled client.front t c

  fetch : (r : Result ⊤ Trouble) (plan : searching.Plan) (number : ℕ) (more : List ℕ) (c : Core) → (searching.fetch_by r plan number more client c).client.name ≡ client.name
  fetch (Ok done) plan number more c = refl
  fetch (Err t) plan number more c = troubled plan.revision t c

  next : (p : searching.Plan) (unfetched : List ℕ) → (searching.next_step luck log p unfetched client core).client.name ≡ client.name
  next p [] = refl
  next p (number ∷ more) = let given = searching.fetched_each p.grace luck.world luck.more core in fetch given.answer p number more given.core

  opened : (asked : Result Asked Unanswered) → (searching.opened_by asked luck.world client core).client.name ≡ client.name
  opened (Ok (IsSearch search)) = let given = asked_and_looked luck.world core in plan given.answer (Ok search) given.core
  opened (Ok (IsDelete deletion)) = let given = task_call (ask_of deletion) luck.world core in delete given.answer given.core
  opened (Err reason) = let given = asked_and_looked luck.world core in plan given.answer (Err reason) given.core

  request : (r : searching.Request) → (searching.step_request r luck log client core).client.name ≡ client.name
  request searching.no_request = refl
  request (searching.opened text) = opened (asked_of (searching.config_in core) text)
  request (searching.planned p) = next p p.unfetched

  short : (b : Bool) → (searching.or_short b client (searching.step_request client.request luck log client core)).client.name ≡ client.name
  short true = refl
  short false = request client.request

-- ---- turns

pub indexer_turns : {L : Type 0} (told : L → Option Log) (count : L → ℕ) (node : Node) (i : ℕ) (new : Reader L) (world' : Keeping) (result : Result Said AllocError) →
    node.down ≡ false → (s : StepsAlone told count result (indexer_at node.indexers i) node.core node.log new world') →
    full_turn (record { log = s.luck.log; world = s.luck.world; more = []; ends = []; inner = s.luck.short; early = false; short = false }) node (StepIndexer i)
    ≡ record { said = said_by_indexer i s.outcome; node = record (with_indexer i s.after node) { core = s.behind } }
indexer_turns told count node i new world' result up s =
    let luck : LineLuck = record { log = s.luck.log; world = s.luck.world; more = []; ends = []; inner = s.luck.short; early = false; short = false } in
    ap (λ b. indexer_turn_by b luck i node) up
    ∙ ap (indexer_stepped i node) s.did

pub client_turns : (node : Node) (name : List ℕ) (new : Searcher) (world' : Keeping) (result : Result SearchStep AllocError) → node.down ≡ false →
    (s : SearchesAlone result new world' (client_named name node.clients) node.core node.log) →
    full_turn (record { log = calm.log; world = s.luck.world; more = s.luck.more; ends = []; inner = s.luck.short; early = false; short = false }) node (StepClient name)
    ≡ record { said = said_by_client name s.outcome; node = record (keep_client s.later node) { core = s.after } }
client_turns node name new world' result up s =
    let luck : LineLuck = record { log = calm.log; world = s.luck.world; more = s.luck.more; ends = []; inner = s.luck.short; early = false; short = false } in
    ap (λ b. client_turn_by b luck name node) up
    ∙ ap (client_stepped name node) s.did

abbrev pub collecting_alone : {result : Result Collected AllocError} {world : Keeping} {core : Core} {log : Log} → CollectsAlone result world core log → LineLuck
collecting_alone s = record { log = calm.log; world = s.luck.world; more = s.luck.more; ends = s.luck.ends; inner = s.luck.short; early = false; short = false }

pub collector_turns : (node : Node) (world' : Keeping) (result : Result Collected AllocError) → node.down ≡ false → (s : CollectsAlone result world' node.core node.log) →
    full_turn (collecting_alone s) node StepCollector ≡ record { said = said_by_collector s.outcome; node = record node { core = s.after } }
collector_turns node world' result up s = ap (λ b. collector_turn_by b (collecting_alone s) node) up ∙ ap (collector_stepped node) s.did

pub collected_some : (given : Collected) (o : Option CollectorOutcome) → collects.Answers (Ok given) o → (x : CollectorOutcome) × (o ≡ Some x) × collects.IsSaid given x
collected_some given None a = absurd a
collected_some given (Some x) a = (x, refl, a)

pub said_some : (given : Said) (o : Option IndexerOutcome) → Answers (Ok given) o → (x : IndexerOutcome) × (o ≡ Some x) × IsIndexerSaid given x
said_some given None a = absurd a
said_some given (Some x) a = (x, refl, a)

pub busy_turn : (r : searching.Request) (name text : List ℕ) (client : Client) (node : Node) → (r ≡ searching.no_request → ⊥) →
    open_by r name text client node ≡ turned (request_busy name) node
busy_turn searching.no_request name text client node busy = absurd (busy refl)
busy_turn (searching.opened other) name text client node busy = refl
busy_turn (searching.planned plan) name text client node busy = refl

-- ---- a whole line

full_same : (luck : LineLuck) (early short : Bool) (node : Node) (line : Line) → full_turn (record luck { early = early; short = short }) node line ≡ full_turn luck node line
full_same luck early short node (At moment) = refl
full_same luck early short node (Assign i names) = refl
full_same luck early short node (StepIndexer i) = by node.down where
  by : (b : Bool) → indexer_turn_by b (record luck { early = early; short = short }) i node ≡ indexer_turn_by b luck i node
  by true = refl
  by false = refl
full_same luck early short node (RestartIndexer i) = refl
full_same luck early short node (RestartClient name) = refl
full_same luck early short node StepMerger = by node.down where
  by : (b : Bool) → worker_turn_by b Merging node.merger with_merger (record luck { early = early; short = short }) node ≡ worker_turn_by b Merging node.merger with_merger luck node
  by true = refl
  by false = refl
full_same luck early short node RestartMerger = refl
full_same luck early short node StepDeleter = by node.down where
  by : (b : Bool) → worker_turn_by b Deleting node.deleter with_deleter (record luck { early = early; short = short }) node ≡ worker_turn_by b Deleting node.deleter with_deleter luck node
  by true = refl
  by false = refl
full_same luck early short node RestartDeleter = refl
full_same luck early short node StepCollector = by node.down where
  by : (b : Bool) → collector_turn_by b (record luck { early = early; short = short }) node ≡ collector_turn_by b luck node
  by true = refl
  by false = refl
full_same luck early short node RestartCollector = refl
full_same luck early short node RestartNode = refl
full_same luck early short node (Open name text) = refl
full_same luck early short node (StepClient name) = by node.down where
  by : (b : Bool) → client_turn_by b (record luck { early = early; short = short }) name node ≡ client_turn_by b luck name node
  by true = refl
  by false = refl

module _ {S L : Type 0} (told : L → Option Log) (count : L → ℕ) (since : L → L → Type 0) (firsts : List L) (node : Node) (line : Line) where
  pub does_ok : (out : OutLine) (old new : DriveNode S L) → NodeStands told count since firsts old node → DoesMost told count since firsts node line (Ok out) new →
      DoesLine told count since firsts node line (Ok out) new
  does_ok out old new p d =
      record {
        outcome = Some d.1;
        last = d.2;
        turn = turn;
        says = d.4;
        tells = stands_own told count node old.gate.world old.indexers.items old.merger.place old.deleter.place p.world_stands p.indexers p.merging p.deleting line (Some d.1) d.2 turn;
        stands = d.5;
      }
    where
      turn : Turn node line (Some d.1) d.2
      turn = record { luck = record (d.0) { early = false; short = false }; is = full_same d.0 false false node line ∙ d.3 }

  pub does_err : (refused : AllocError) (mid new : DriveNode S L) → DoesMost told count since firsts node line (Err refused) mid →
      ((n : Node) → NodeStands told count since firsts mid n → NodeStands told count since firsts new (quiet line n)) →
      DoesLine told count since firsts node line (Err refused) new
  does_err refused mid new (inl stands) quieted =
      record {
        outcome = None;
        last = quiet line node;
        turn = record { luck = record calm { early = true }; is = refl };
        says = tt;
        tells = tt;
        stands = quieted node stands;
      }
  does_err refused mid new (inr d) quieted =
      record {
        outcome = None;
        last = quiet line d.1.node;
        turn = record {
          luck = record (d.0) { early = false; short = true };
          is = ap (λ turn. record { said = None; node = quiet line turn.node }) (full_same d.0 false true node line ∙ d.2);
        };
        says = tt;
        tells = tt;
        stands = quieted d.1.node d.3;
      }

pub quiet_along : {S L : Type 0} (told : L → Option Log) (count : L → ℕ) (since : L → L → Type 0) (firsts : List L) (node : Node) (a b : CodeLine) (new : DriveNode S L) →
    a ≡ b → NodeStands told count since firsts new (quiet (seen b) node) → NodeStands told count since firsts new (quiet (seen a) node)
quiet_along {S} {L} told count since firsts node a b new e stands =
    subst (λ (l : CodeLine). NodeStands told count since firsts new (quiet (seen l) node)) (sym e) stands

-- a slice of all is written back whole
pub whole_back : {X : Type 0} (new old : List X) (len : ℕ) → length new ≡ length old → len ≡ length old → take len (new ++ drop (length new) old) ≡ new
whole_back new old len e l = take_at new (drop (length new) old) len (e ∙ sym l)

pub assign_idle : (place : IndexerPlace) (i : ℕ) (names : List (List ℕ)) (indexer : Indexer) (node : Node) → is_idle place ≡ true →
    assign_at place i names indexer node ≡ turned (assigned i (length names)) (with_indexer i (record indexer { assignment = Some names }) node)
assign_idle idle i names indexer node e = refl
assign_idle (reading batch) i names indexer node e = cc
assign_idle (staged held) i names indexer node e = cc
assign_idle (uploaded held) i names indexer node e = cc

pub assign_busy : (place : IndexerPlace) (i : ℕ) (names : List (List ℕ)) (indexer : Indexer) (node : Node) → is_idle place ≡ false →
    assign_at place i names indexer node ≡ turned (indexer_busy i) node
assign_busy idle i names indexer node e = cc
assign_busy (reading batch) i names indexer node e = refl
assign_busy (staged held) i names indexer node e = refl
assign_busy (uploaded held) i names indexer node e = refl

pub assigned_names : (names copy : List (List ℕ)) → copy ≡ names → AreNames names → IsAssigned (Some copy)
assigned_names names copy e are = subst (λ (ns : List (List ℕ)). IsAssigned (Some ns)) (sym e) (are.each, are.apart)

pub yes_below : (i n : ℕ) → i < n → accepts.Yes ≡ (if nat_lt i n then accepts.Yes else accepts.BadLine)
yes_below i n h = rw (lt-ltb i n h) refl

pub bad_above : (i n : ℕ) → n ≤ i → accepts.BadLine ≡ (if nat_lt i n then accepts.Yes else accepts.BadLine)
bad_above i n h = rw (le-ltb i n h) refl

pub set_self : (ys : List Indexer) (i : ℕ) → slice_set ys i (indexer_at ys i) ≡ ys
set_self [] i = refl
set_self (y ∷ ys) zero = refl
set_self (y ∷ ys) (suc i) = ap (λ l. y ∷ l) (set_self ys i)

pub map_twice : {A B C : Type 0} (f : B → C) (h : A → B) (xs : List A) → map (λ x. f (h x)) xs ≡ map f (map h xs)
map_twice f h [] = refl
map_twice f h (x ∷ xs) = ap (λ l. f (h x) ∷ l) (map_twice f h xs)

pub stands_along : {S L : Type 0} (told : L → Option Log) (count : L → ℕ) (since : L → L → Type 0) (firsts : List L) (a b : DriveNode S L) (node : Node) → a ≡ b →
    NodeStands told count since firsts b node → NodeStands told count since firsts a node
stands_along {S} {L} told count since firsts a b node e stands =
    subst (λ (d : DriveNode S L). NodeStands told count since firsts d node) (sym e) stands

-- ---- an idle indexer and a client without a request stand over every core

idle_over : {L : Type 0} (told : L → Option Log) (count : L → ℕ) (reader : Reader L) (indexer : Indexer) (core after : Core) (log : Log) →
    IndexerStands told count reader (made_idle indexer) core log → IndexerStands told count reader (made_idle indexer) after log
idle_over told count reader indexer core after log s =
    record { told = s.told; log_faults = s.log_faults; assignment = s.assignment; assigned = s.assigned; place = by reader.place s.place }
  where
    by : (kept : HeldPlace) → PlaceStands log core kept idle → PlaceStands log after kept idle
    by places.Idle p = p
    by (places.Reading batch) p = absurd (cc p.1)
    by (places.Staged token bytes) p = absurd (cc p.1)
    by (places.Uploaded token) p = absurd (cc p.1)

pub all_idle_over : {L : Type 0} (told : L → Option Log) (count : L → ℕ) (readers : List (Reader L)) (indexers : List Indexer) (core after : Core) (log : Log) →
    AllZip (λ reader indexer. IndexerStands told count reader indexer core log) readers (map made_idle indexers) →
    AllZip (λ reader indexer. IndexerStands told count reader indexer after log) readers (map made_idle indexers)
all_idle_over told count [] [] core after log z = z
all_idle_over told count [] (i ∷ indexers) core after log z = absurd z
all_idle_over told count (r ∷ readers) [] core after log z = absurd z
all_idle_over told count (r ∷ readers) (i ∷ indexers) core after log z =
    (idle_over told count r i core after log z.0, all_idle_over told count readers indexers core after log z.1)

without_over : (searcher : Searcher) (client : Client) (core after : Core) (log : Log) → KeepsBut None core after →
    SearcherStands searcher (without_request client) core log → SearcherStands searcher (without_request client) after log
without_over searcher client core after log keeps s =
    record {
      name = s.name;
      front = s.front;
      footers = λ number footer among. let k = s.footers number footer among in record { bytes = k.bytes; shown = shown_keeps (IsOther None) core after number k.bytes keeps k.shown; footer_is = k.footer_is };
      request = by searcher.request s.request;
    }
  where
    by : (kept : KeptRequest) → IsRequest searcher.footers kept searching.no_request core log → IsRequest searcher.footers kept searching.no_request after log
    by requests.Vacant p = p
    by (requests.Opened text) p = p
    by (requests.Planned search) p = absurd (cc p.1)

pub all_without_over : (searchers : List Searcher) (clients : List Client) (core after : Core) (log : Log) → KeepsBut None core after →
    AllZip (λ searcher client. SearcherStands searcher client core log) searchers (map without_request clients) →
    AllZip (λ searcher client. SearcherStands searcher client after log) searchers (map without_request clients)
all_without_over [] [] core after log keeps z = z
all_without_over [] (c ∷ clients) core after log keeps z = absurd z
all_without_over (s ∷ searchers) [] core after log keeps z = absurd z
all_without_over (s ∷ searchers) (c ∷ clients) core after log keeps z =
    (without_over s c core after log keeps z.0, all_without_over searchers clients core after log keeps z.1)

-- a stopped node whose world was loaded, or stayed
pub loaded_parts : {L : Type 0} (told : L → Option Log) (count : L → ℕ) (since : L → L → Type 0) (firsts : List L) (world world' : Keeping) (readers : List (Reader L))
    (merger deleter : WorkerPlace) (searchers : List Searcher) (places : List (List ℕ × ℕ)) (clock : ℕ) (down kept_down down' : Bool) (node : Node) (after : Core) (fate : Fate) (answer : Result ⊤ Unread) →
    PartsStand told count since firsts world readers merger deleter searchers places clock down (stopped node.core node) → loaded fate node.core ≡ gives answer after → KeepsBut None node.core after →
    WorldStands world' after node.log → kept_down ≡ down' → PartsStand told count since firsts world' readers merger deleter searchers places clock kept_down (record (restarted node) { core = after; down = down' })
loaded_parts told count since firsts world world' readers merger deleter searchers places clock down kept_down down' node after fate answer p did keeps stands same =
    record {
      world_stands = stands;
      is_log = p.is_log;
      moment = p.moment ∙ sym (loaded_moves fate node.core).ticks ∙ ap (λ given. given.core.clock) did;
      down = same;
      indexers = all_idle_over told count readers node.indexers node.core after node.log p.indexers;
      apart = p.apart;
      merging = idle_worker_over Merging node.log node.core after merger p.merging;
      merger_apart = p.merger_apart;
      deleting = idle_worker_over Deleting node.log node.core after deleter p.deleting;
      deleter_apart = p.deleter_apart;
      workers_apart = p.workers_apart;
      clients = all_without_over searchers node.clients node.core after node.log keeps p.clients;
      placed = p.placed;
      later = p.later;
    }

pub was_loaded : (answer : Result ⊤ Unread) (after : Core) → Says {A = Unit {0}} IsUnread IsLoaded (Ok tt) answer after → answer ≡ Ok tt
was_loaded (Ok done) after says = refl
was_loaded (Err unread) after says = absurd says

pub failed_restart : {S L : Type 0} (told : L → Option Log) (count : L → ℕ) (since : L → L → Type 0) (firsts : List L) (node : Node) (new : DriveNode S L) (luck : LineLuck) (after : Core)
    (error : WorldError) (r : Result OutLine AllocError) (answer : Result ⊤ Unread) → full_turn luck node RestartNode ≡ restart_by answer after node →
    Says {A = Unit {0}} IsUnread IsLoaded (Err error) answer after → NodeStands told count since firsts new (stopped after node) →
    (IsUnread error (not_read no_memory) → IsErr r) → ((fault : Fault) → IsUnread error (not_read (faulted fault)) → IfOk r (λ out. out.bytes ≡ outcome_text (node_failed (world_fault fault)))) →
    (IsUnread error calls.no_index → IfOk r (λ out. out.bytes ≡ outcome_text (node_failed no_index))) → DoesMost told count since firsts node RestartNode r new
failed_restart told count since firsts node new luck after error r (Ok done) e says stands memory fault none = absurd says
failed_restart told count since firsts node new luck after error r (Err (not_read (faulted f))) e says stands memory fault none =
    most_done told count since firsts node RestartNode new r luck (node_failed (world_fault f)) (stopped after node) e (fault f says) stands
failed_restart told count since firsts node new luck after error (Ok out) (Err (not_read no_memory)) e says stands memory fault none = absurd (cc (memory says))
failed_restart told count since firsts node new luck after error (Err refused) (Err (not_read no_memory)) e says stands memory fault none =
    inr (luck, record { said = None; node = stopped after node }, e, stands)
failed_restart told count since firsts node new luck after error r (Err calls.no_index) e says stands memory fault none =
    most_done told count since firsts node RestartNode new r luck (node_failed no_index) (stopped after node) e (none says) stands

pub too_many_known : (n : ℕ) (k : Bool) → 10000 ≤ n → k ≡ false → accepts.TooManyClients ≡ (if nat_lt n 10000 || k then accepts.Yes else accepts.TooManyClients)
too_many_known n k h e = rw (le-ltb n 10000 h, e) refl

pub few_known : (n : ℕ) (k : Bool) → n < 10000 → accepts.Yes ≡ (if nat_lt n 10000 || k then accepts.Yes else accepts.TooManyClients)
few_known n k h = rw (lt-ltb n 10000 h) refl

pub is_known_yes : (b k : Bool) → k ≡ true → accepts.Yes ≡ (if b || k then accepts.Yes else accepts.TooManyClients)
is_known_yes true k e = refl
is_known_yes false k e = ap (λ x. if x then accepts.Yes else accepts.TooManyClients) (sym e)
