-- How a run went.
use Rattle.std.specs.Prelude.{◌≡◌, ℕ, true, false, None, List, ◌++◌, drop, length, map, take, Option}
use Rattle.source_log.specs.Log.{Log}
use Rattle.index_world.specs.World.{Keeping}
use Rattle.shared_gate.specs.declared.recorded.Recorded.{Recorded}
use Rattle.run_plan.specs.declared.clients.Request.{Request}
use Rattle.thread_run.specs.Sources.{common}
use Rattle.thread_run.specs.declared.sources.Sources.{Sources}
use Rattle.thread_run.specs.declared.job.Done.{Done}
use Rattle.thread_run.specs.Run.{IsRun}
use Rattle.thread_run.specs.Beginning.{AreBegun}
use Rattle.thread_run.specs.Closing.{IsWhole}
use Rattle.thread_run.specs.Ending.{ends_from, logs_behind}
use Rattle.thread_run.specs.Outcome.{IsOutcome}
use Rattle.thread_run.specs.Planning.{IsPlanned}
use Rattle.thread_run.specs.Replying.{by_client, replies_by}
use Rattle.thread_run.specs.Staffing.{jobs_of, post_of}
use Rattle.thread_run.specs.declared.beginning.Begun.{Begun}
use Rattle.thread_run.specs.declared.outcome.Outcome.{Outcome}
use Rattle.thread_run.specs.declared.planning.Plan.{Plan}
use Rattle.thread_run.specs.declared.run_end.RunEnd.{RunEnd}
use Rattle.thread_run.specs.declared.run_end.RunOptions.{RunOptions}

module _ {S K M L : Type 0} (tells : M → Option Log) (told : L → Option Log) (count : L → ℕ) (since : L → L → Type 0) where
  -- The jobs of these indexers and by this plan ran together, and what comes back is what came of them, with the logs that weren't read behind the
  -- others.
  pub record RunWorked (searchers turns : ℕ) (begun : List (Begun L)) (unused : List L) (plan : Plan) (first : Recorded S K M) (end : RunEnd S L) : Type 0 where
    pub last : Recorded S K M
    pub done : List (Done L)
    pub ran : IsRun tells told count since turns first (jobs_of begun plan.shares.items) last done
    pub outcome : Outcome L
    pub outcome_is : IsOutcome done outcome
    pub world : end.world ≡ last.world
    pub logs_are : end.logs.items ≡ logs_behind (map post_of begun) outcome.indexed.items ++ unused
    pub ends_are : end.ends.items ≡ ends_from 0 (map post_of begun) outcome.indexed.items ++ outcome.ends.items
    pub replies_are : end.memory ≡ false → end.replies.items ≡ replies_by plan.by.items (by_client searchers plan.clients outcome.served.items)
    pub whole : end.memory ≡ false → IsWhole end.ends.items outcome.served.items (by_client searchers plan.clients outcome.served.items)
    pub settled : end.settled ≡ None

  -- HOW A RUN WENT that was begun: each of these logs is read by an indexer of its own, and the requests are shared out by their clients.
  pub record RunMade (searchers turns : ℕ) (logs unused : List L) (requests : List Request) (first : Recorded S K M) (end : RunEnd S L) : Type 0 where
    pub begun : List (Begun L)
    pub are_begun : AreBegun told count since (length logs) 0 logs begun
    pub plan : Plan
    pub planned : IsPlanned requests searchers plan
    pub worked : RunWorked searchers turns begun unused plan first end

-- A run over this world that was begun: of these logs so many are read, the first ones. The shelf of the run began with the world, and its source are
-- the logs that are read.
pub record HasRun (K : Type 0) {S L : Type 0} (told : L → Option Log) (count : L → ℕ) (since : L → L → Type 0) (options : RunOptions) (world : Keeping) (logs : List L) (requests : List Request)
    (end : RunEnd S L) : Type 0 where
  pub first : Recorded S K (Sources L)
  pub opened : first.opened.value ≡ world
  pub source : first.source.value.logs.items ≡ take options.indexers logs
  pub made : RunMade (λ (sources : Sources L). common told sources.logs.items) told count since options.searchers options.turns (take options.indexers logs) (drop options.indexers logs) requests first end

-- it wasn't begun: there was no memory
pub record NotBegun {S L : Type 0} (world : Keeping) (end : RunEnd S L) : Type 0 where
  pub memory : end.memory ≡ true
  pub same : end.world ≡ world
  pub settled : end.settled ≡ None
