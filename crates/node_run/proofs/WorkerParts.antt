-- The parts of a node behind the lines of its workers.
use Rattle.std.proofs.Common.{◌≡◌, ℕ, List, sym, ap, ◌∙◌, Bool, false}
use Rattle.std.specs.Prelude.{[], Option, Result}
use Rattle.std.specs.declared.alloc.AllocError.{AllocError}
use Rattle.source_log.specs.Log.{Log}
use Rattle.index_world.specs.Core.{Core, IsOther}
use Rattle.index_world.specs.World.{Keeping}
use Rattle.indexing_run.proofs.Holding.{indexer_stays}
use Rattle.indexing_run.specs.Places.{Indexer}
use Rattle.indexing_run.specs.Standing.{IndexerStands}
use Rattle.indexing_run.specs.declared.indexer.Indexer.{Indexer as Reader}
use Rattle.root_search.proofs.Stands.{searcher_goes_on}
use Rattle.root_search.specs.Searching.{SearcherStands}
use Rattle.root_search.specs.Steps.{Client}
use Rattle.root_search.specs.declared.searcher.Searcher.{Searcher}
use Rattle.upkeep_run.specs.Places.{WorkerPlace as Worker}
use Rattle.upkeep_run.specs.Places as workers
use Rattle.upkeep_run.specs.Standing as works
use Rattle.upkeep_run.specs.declared.work.Aim.{Aim}
use Rattle.upkeep_run.specs.declared.work.Aim.TheVariants.{Deleting, Merging}
use Rattle.upkeep_run.specs.declared.outcome.UpkeepOutcome.{UpkeepOutcome as Worked}
use Rattle.upkeep_run.specs.declared.work.WorkerPlace.{WorkerPlace}
use Rattle.node_run.specs.Alone.{WorksAlone}
use Rattle.node_run.specs.Node.{Node, StepDeleter, StepMerger}
use Rattle.node_run.specs.Standing.{HoldsOther, PartsStand}
use Rattle.node_run.specs.Turns.{LineLuck, calm, full_turn, said_by_worker, with_deleter, with_merger, worker_stepped, worker_turn_by}
use Rattle.node_run.proofs.Parts.{staged_of}
use Rattle.node_run.proofs.WorkerMoves.{worker_moves}
use Rattle.node_run.proofs.Workers.{idle_other, idle_work_apart, other_of_work, other_of_worker, work_apart_back, worker_goes_on, worker_staged}
use Rattle.node_run.proofs.Zips.{all_both, zip_both, zip_weaker}

module _ {L : Type 0} (told : L → Option Log) (count : L → ℕ) (since : L → L → Type 0) (firsts : List L)
    (world : Keeping) (readers : List (Reader L)) (merger deleter : WorkerPlace) (searchers : List Searcher) (places : List (List ℕ × ℕ)) (clock : ℕ) (down : Bool) (node : Node)
    (p : PartsStand told count since firsts world readers merger deleter searchers places clock down node) where
  abbrev R : Reader L → Indexer → Type 0
  R reader indexer = IndexerStands told count reader indexer node.core node.log

  abbrev C : Searcher → Client → Type 0
  C searcher client = SearcherStands searcher client node.core node.log

  -- ---- the merger changes

  -- it is made idle
  pub unmerged_parts : (merger' : WorkerPlace) → works.PlaceStands Merging node.log node.core merger' workers.idle →
      PartsStand told count since firsts world readers merger' deleter searchers places clock down (with_merger workers.idle node)
  unmerged_parts merger' stands =
      record {
        world_stands = p.world_stands;
        is_log = p.is_log;
        moment = p.moment;
        down = p.down;
        indexers = p.indexers;
        apart = p.apart;
        merging = stands;
        merger_apart = idle_other node.indexers;
        deleting = p.deleting;
        deleter_apart = p.deleter_apart;
        workers_apart = idle_work_apart node.deleter;
        clients = p.clients;
        placed = p.placed;
        later = p.later;
      }

  -- it took a step
  pub merged_parts : (merger' : WorkerPlace) (world' : Keeping) (result : Result Worked AllocError) → (s : WorksAlone Merging result node.merger node.core node.log merger' world') →
      PartsStand told count since firsts world' readers merger' deleter searchers places clock down (record (with_merger s.after node) { core = s.behind })
  merged_parts merger' world' result s =
      record {
        world_stands = s.world_stands;
        is_log = p.is_log;
        moment = p.moment ∙ sym (worker_moves s.luck node.log node.core Merging node.merger).ticks ∙ ap (λ step. step.core.clock) s.did;
        down = p.down;
        indexers = zip_both R (λ reader indexer. IndexerStands told count reader indexer s.behind node.log) (HoldsOther node.merger) readers node.indexers p.indexers p.merger_apart
            (λ reader indexer stands off. indexer_stays told count reader indexer node.core s.behind node.log (workers.number_held node.merger) s.goes_on (other_of_worker node.merger indexer off) stands);
        apart = p.apart;
        merging = s.stands;
        merger_apart = all_both R (HoldsOther node.merger) (HoldsOther s.after) readers node.indexers p.indexers p.merger_apart
            (λ reader indexer stands off n at_after at_indexer. off n (s.apart n (staged_of told count reader indexer node.core node.log n stands at_indexer) at_after) at_indexer);
        deleting = worker_goes_on Deleting node.core s.behind node.log (workers.number_held node.merger) world' deleter node.deleter s.world_stands s.goes_on (other_of_work node.merger node.deleter p.workers_apart) p.deleting;
        deleter_apart = p.deleter_apart;
        workers_apart = λ n at_after at_deleter. p.workers_apart n (s.apart n (worker_staged Deleting node.log node.core deleter node.deleter n p.deleting at_deleter) at_after) at_deleter;
        clients = zip_weaker C (λ searcher client. SearcherStands searcher client s.behind node.log) searchers node.clients
            (λ searcher client w. searcher_goes_on (IsOther (workers.number_held node.merger)) searcher client node.core s.behind node.log s.goes_on w) p.clients;
        placed = p.placed;
        later = p.later;
      }

  -- ---- the delete worker changes

  -- it is made idle
  pub undeleted_parts : (deleter' : WorkerPlace) → works.PlaceStands Deleting node.log node.core deleter' workers.idle →
      PartsStand told count since firsts world readers merger deleter' searchers places clock down (with_deleter workers.idle node)
  undeleted_parts deleter' stands =
      record {
        world_stands = p.world_stands;
        is_log = p.is_log;
        moment = p.moment;
        down = p.down;
        indexers = p.indexers;
        apart = p.apart;
        merging = p.merging;
        merger_apart = p.merger_apart;
        deleting = stands;
        deleter_apart = idle_other node.indexers;
        workers_apart = work_apart_back workers.idle node.merger (idle_work_apart node.merger);
        clients = p.clients;
        placed = p.placed;
        later = p.later;
      }

  -- it took a step
  pub deleted_parts : (deleter' : WorkerPlace) (world' : Keeping) (result : Result Worked AllocError) → (s : WorksAlone Deleting result node.deleter node.core node.log deleter' world') →
      PartsStand told count since firsts world' readers merger deleter' searchers places clock down (record (with_deleter s.after node) { core = s.behind })
  deleted_parts deleter' world' result s =
      record {
        world_stands = s.world_stands;
        is_log = p.is_log;
        moment = p.moment ∙ sym (worker_moves s.luck node.log node.core Deleting node.deleter).ticks ∙ ap (λ step. step.core.clock) s.did;
        down = p.down;
        indexers = zip_both R (λ reader indexer. IndexerStands told count reader indexer s.behind node.log) (HoldsOther node.deleter) readers node.indexers p.indexers p.deleter_apart
            (λ reader indexer stands off. indexer_stays told count reader indexer node.core s.behind node.log (workers.number_held node.deleter) s.goes_on (other_of_worker node.deleter indexer off) stands);
        apart = p.apart;
        merging = worker_goes_on Merging node.core s.behind node.log (workers.number_held node.deleter) world' merger node.merger s.world_stands s.goes_on
            (other_of_work node.deleter node.merger (work_apart_back node.merger node.deleter p.workers_apart)) p.merging;
        merger_apart = p.merger_apart;
        deleting = s.stands;
        deleter_apart = all_both R (HoldsOther node.deleter) (HoldsOther s.after) readers node.indexers p.indexers p.deleter_apart
            (λ reader indexer stands off n at_after at_indexer. off n (s.apart n (staged_of told count reader indexer node.core node.log n stands at_indexer) at_after) at_indexer);
        workers_apart = λ n at_merger at_after. p.workers_apart n at_merger (s.apart n (worker_staged Merging node.log node.core merger node.merger n p.merging at_merger) at_after);
        clients = zip_weaker C (λ searcher client. SearcherStands searcher client s.behind node.log) searchers node.clients
            (λ searcher client w. searcher_goes_on (IsOther (workers.number_held node.deleter)) searcher client node.core s.behind node.log s.goes_on w) p.clients;
        placed = p.placed;
        later = p.later;
      }

-- ---- turns

abbrev pub working_alone : {aim : Aim} {result : Result Worked AllocError} {worker : Worker} {core : Core} {log : Log} {kept : WorkerPlace} {world : Keeping} →
    WorksAlone aim result worker core log kept world → LineLuck
working_alone s = record { log = calm.log; world = s.luck.world; more = []; ends = []; inner = s.luck.short; early = false; short = false }

pub merger_turns : (node : Node) (kept : WorkerPlace) (world' : Keeping) (result : Result Worked AllocError) → node.down ≡ false →
    (s : WorksAlone Merging result node.merger node.core node.log kept world') →
    full_turn (working_alone s) node StepMerger ≡ record { said = said_by_worker Merging s.outcome; node = record (with_merger s.after node) { core = s.behind } }
merger_turns node kept world' result up s =
    ap (λ b. worker_turn_by b Merging node.merger with_merger (working_alone s) node) up ∙ ap (worker_stepped Merging with_merger node) s.did

pub deleter_turns : (node : Node) (kept : WorkerPlace) (world' : Keeping) (result : Result Worked AllocError) → node.down ≡ false →
    (s : WorksAlone Deleting result node.deleter node.core node.log kept world') →
    full_turn (working_alone s) node StepDeleter ≡ record { said = said_by_worker Deleting s.outcome; node = record (with_deleter s.after node) { core = s.behind } }
deleter_turns node kept world' result up s =
    ap (λ b. worker_turn_by b Deleting node.deleter with_deleter (working_alone s) node) up ∙ ap (worker_stepped Deleting with_deleter node) s.did
