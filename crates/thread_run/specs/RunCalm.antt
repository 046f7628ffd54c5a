-- Where no count of faults rose: nothing says that the store or a log failed.
use Rattle.std.specs.Prelude.{◌≡◌, ◌<◌, ℕ, ⊤}
use Rattle.std.specs.List.{AllByRecursion}
use Rattle.byte_fields.specs.Causes.{last_count}
use Rattle.indexing_run.specs.declared.indexer.Indexer.{Indexer as Reader}
use Rattle.indexing_run.specs.declared.indexing.IndexerEnd.{IndexerEnd}
use Rattle.indexing_run.specs.declared.indexing.IndexerEnd.TheVariants as indexing
use Rattle.index_world.specs.declared.world_error.WorldError.{WorldError}
use Rattle.index_world.specs.declared.world_error.WorldError.TheVariants as errors
use Rattle.search_api.specs.declared.reply.Refusal.TheVariants as refusals
use Rattle.search_api.specs.declared.reply.Said.{Said}
use Rattle.search_api.specs.declared.reply.Said.TheVariants.{Found, Deleted, Refused}
use Rattle.split_collector.specs.declared.collecting.CollectorEnd.{CollectorEnd}
use Rattle.split_collector.specs.declared.collecting.CollectorEnd.TheVariants as collecting
use Rattle.upkeep_run.specs.declared.working.WorkerEnd.{WorkerEnd}
use Rattle.upkeep_run.specs.declared.working.WorkerEnd.TheVariants as working
use Rattle.thread_run.specs.declared.serving.Answered.{Answered}
use Rattle.thread_run.specs.declared.job.Done.{Done}
use Rattle.thread_run.specs.declared.job.Done.TheVariants as done
use Rattle.thread_run.specs.declared.job.Job.{Job}
use Rattle.thread_run.specs.declared.job.Job.TheVariants as jobs

-- a count that is below its type's end did not rise
abbrev pub StoodStill : ℕ → ℕ → Type 0
StoodStill before after = (before ≡ after) × (after < last_count)

-- an error is no fault of the store
abbrev pub IsCalmError : WorldError → Type 0
IsCalmError (errors.StoreFault before now) = ⊥
IsCalmError error = ⊤

-- Its end is no fault of the store or of its log: it caught up, there was no room for a row or an entry, or no memory.
abbrev pub IsCalmIndexer : IndexerEnd → Type 0
IsCalmIndexer indexing.CaughtUp = ⊤
IsCalmIndexer (indexing.Refused refusal) = ⊤
IsCalmIndexer (indexing.Fault error) = IsCalmError error
IsCalmIndexer (indexing.SourceFault before now) = ⊥
IsCalmIndexer indexing.Turns = ⊤
IsCalmIndexer indexing.Memory = ⊤

abbrev pub IsCalmWorker : WorkerEnd → Type 0
IsCalmWorker working.Nothing = ⊤
IsCalmWorker (working.Refused refusal) = ⊤
IsCalmWorker (working.Fault error) = IsCalmError error
IsCalmWorker working.Turns = ⊤
IsCalmWorker working.Memory = ⊤

abbrev pub IsCalmCollector : CollectorEnd → Type 0
IsCalmCollector collecting.Nothing = ⊤
IsCalmCollector (collecting.Fault error) = IsCalmError error
IsCalmCollector collecting.Turns = ⊤
IsCalmCollector collecting.Memory = ⊤

-- what is said is no fault of the store
abbrev pub IsCalmSaid : Said → Type 0
IsCalmSaid (Found count hits aggregations) = ⊤
IsCalmSaid (Deleted opstamp) = ⊤
IsCalmSaid (Refused (refusals.StoreFault before now)) = ⊥
IsCalmSaid (Refused refusal) = ⊤

abbrev pub AreCalm : Answered → Type 0
AreCalm answered = AllByRecursion (λ reply. IsCalmSaid reply.said) answered.replies.items

-- nothing of what came of a job tells a fault of the store or of a log
abbrev pub IsCalmDone : {L : Type 0} → Done L → Type 0
IsCalmDone (done.Indexed last end) = IsCalmIndexer end
IsCalmDone (done.Answered answered short) = AllByRecursion AreCalm answered.items
IsCalmDone (done.Merged end) = IsCalmWorker end
IsCalmDone (done.Deleted end) = IsCalmWorker end
IsCalmDone (done.Collected end) = IsCalmCollector end

-- the count of an indexer's log stood still
abbrev pub LogStoodStill : {L : Type 0} → (L → ℕ) → Reader L → Done L → Type 0
LogStoodStill count reader (done.Indexed last end) = StoodStill (count reader.log) (count last.log)
LogStoodStill count reader (done.Answered answered short) = ⊤
LogStoodStill count reader (done.Merged end) = ⊤
LogStoodStill count reader (done.Deleted end) = ⊤
LogStoodStill count reader (done.Collected end) = ⊤

abbrev pub LogsStoodStill : {L : Type 0} → (L → ℕ) → Job L → Done L → Type 0
LogsStoodStill count (jobs.Index reader) result = LogStoodStill count reader result
LogsStoodStill count (jobs.Answer askings) result = ⊤
LogsStoodStill count jobs.Merge result = ⊤
LogsStoodStill count jobs.Delete result = ⊤
LogsStoodStill count jobs.Collect result = ⊤
