-- What comes back of a run.
use Rattle.std.specs.Prelude.{◌≡◌, Bool, true, false, List, [], ◌∷◌}
use Rattle.std.specs.List.{AllByRecursion}
use Rattle.indexing_run.specs.declared.indexer.Indexer.{Indexer as Reader}
use Rattle.indexing_run.specs.declared.indexing.IndexerEnd.{IndexerEnd}
use Rattle.indexing_run.specs.declared.indexing.IndexerEnd.TheVariants as indexers
use Rattle.upkeep_run.specs.declared.working.WorkerEnd.{WorkerEnd}
use Rattle.upkeep_run.specs.declared.working.WorkerEnd.TheVariants as workers
use Rattle.split_collector.specs.declared.collecting.CollectorEnd.{CollectorEnd}
use Rattle.split_collector.specs.declared.collecting.CollectorEnd.TheVariants as collectors
use Rattle.thread_run.specs.declared.serving.Answered.{Answered}
use Rattle.thread_run.specs.declared.job.Job.{Job}
use Rattle.thread_run.specs.declared.job.Job.TheVariants as jobs
use Rattle.thread_run.specs.declared.end_lines.ActorEnd.{ActorEnd}
use Rattle.thread_run.specs.declared.end_lines.ActorEnd.TheVariants as ends
use Rattle.thread_run.specs.declared.outcome.Served.{Served}

-- the indexer of a job
abbrev pub readers_of : {L : Type 0} → Job L → List (Reader L)
readers_of (jobs.Index reader) = reader ∷ []
readers_of (jobs.Answer askings) = []
readers_of jobs.Merge = []
readers_of jobs.Delete = []
readers_of jobs.Collect = []

-- an actor that ended for want of memory
abbrev pub is_short_indexer : IndexerEnd → Bool
is_short_indexer indexers.CaughtUp = false
is_short_indexer (indexers.Refused refusal) = false
is_short_indexer (indexers.Fault error) = false
is_short_indexer (indexers.SourceFault before after) = false
is_short_indexer indexers.Turns = false
is_short_indexer indexers.Memory = true

abbrev pub is_short_worker : WorkerEnd → Bool
is_short_worker workers.Nothing = false
is_short_worker (workers.Refused refusal) = false
is_short_worker (workers.Fault error) = false
is_short_worker workers.Turns = false
is_short_worker workers.Memory = true

abbrev pub is_short_collector : CollectorEnd → Bool
is_short_collector collectors.Nothing = false
is_short_collector (collectors.Fault error) = false
is_short_collector collectors.Turns = false
is_short_collector collectors.Memory = true

abbrev pub is_short_end : ActorEnd → Bool
is_short_end (ends.Indexer number end) = is_short_indexer end
is_short_end (ends.Merger end) = is_short_worker end
is_short_end (ends.Deleter end) = is_short_worker end
is_short_end (ends.Collector end) = is_short_collector end

-- there was memory for each actor, and for all replies
pub record IsWhole (all : List ActorEnd) (served : List Served) (answered : List Answered) : Type 0 where
  pub all_ended : AllByRecursion (λ end. is_short_end end ≡ false) all
  pub all_served : AllByRecursion (λ (one : Served). one.short ≡ false) served
  pub all_answered : AllByRecursion (λ (one : Answered). one.short ≡ false) answered
