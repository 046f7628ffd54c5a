-- What came of a job, by the journal at the exit.
use Rattle.std.specs.Prelude.{ℕ, ◌≤◌, List, ⊤}
use Rattle.index_config.specs.declared.config.IndexConfig.{IndexConfig}
use Rattle.meta_journal.specs.declared.entry.Entry.{Entry}
use Rattle.source_log.specs.Log.{Log}
use Rattle.byte_fields.specs.Causes.{last_count}
use Rattle.index_world.specs.Core.{Core}
use Rattle.indexing_run.specs.Steps.{partitions_for}
use Rattle.indexing_run.specs.declared.indexer.Indexer.{Indexer as Reader}
use Rattle.upkeep_run.specs.declared.work.Aim.TheVariants.{Deleting, Merging}
use Rattle.thread_run.specs.declared.job.Done.{Done}
use Rattle.thread_run.specs.declared.job.Done.TheVariants as done
use Rattle.thread_run.specs.declared.job.Job.{Job}
use Rattle.thread_run.specs.declared.job.Job.TheVariants as jobs
use Rattle.run_plan.specs.declared.clients.Asking.{Asking}
use Rattle.thread_run.specs.Ends.{CollectorEnded, IndexerEnded, WorkerEnded}
use Rattle.thread_run.specs.SearcherReplies.{SearcherAnswered}

-- the count of faults of an indexer's log is one
abbrev pub IsCounted : {L : Type 0} → (L → ℕ) → Job L → Type 0
IsCounted count (jobs.Index reader) = count reader.log ≤ last_count
IsCounted count (jobs.Answer askings) = ⊤
IsCounted count jobs.Merge = ⊤
IsCounted count jobs.Delete = ⊤
IsCounted count jobs.Collect = ⊤

-- Over these entries of the journal at exit, of which there were so many at entry. From the one core to the other all worked. A merger, a delete worker and a
-- collector took so many turns at most, and this one made so many calls.
module _ {L : Type 0} (count : L → ℕ) (config : IndexConfig) (log : Log) (entries : List Entry) (least : ℕ) (core exit : Core) (turns calls : ℕ) where
  abbrev pub IndexedSays : Reader L → Done L → Type 0
  IndexedSays reader (done.Indexed last end) = IndexerEnded config log entries least core exit (partitions_for reader.assignment log) (count reader.log) (count last.log) end
  IndexedSays reader (done.Answered answered short) = ⊥
  IndexedSays reader (done.Merged end) = ⊥
  IndexedSays reader (done.Deleted end) = ⊥
  IndexedSays reader (done.Collected end) = ⊥

  abbrev pub AnsweredSays : List Asking → Done L → Type 0
  AnsweredSays askings (done.Indexed last end) = ⊥
  AnsweredSays askings (done.Answered answered short) = SearcherAnswered config log entries least core exit askings answered.items short
  AnsweredSays askings (done.Merged end) = ⊥
  AnsweredSays askings (done.Deleted end) = ⊥
  AnsweredSays askings (done.Collected end) = ⊥

  abbrev pub MergedSays : Done L → Type 0
  MergedSays (done.Indexed last end) = ⊥
  MergedSays (done.Answered answered short) = ⊥
  MergedSays (done.Merged end) = WorkerEnded config log entries least core exit Merging turns calls end
  MergedSays (done.Deleted end) = ⊥
  MergedSays (done.Collected end) = ⊥

  abbrev pub DeletedSays : Done L → Type 0
  DeletedSays (done.Indexed last end) = ⊥
  DeletedSays (done.Answered answered short) = ⊥
  DeletedSays (done.Merged end) = ⊥
  DeletedSays (done.Deleted end) = WorkerEnded config log entries least core exit Deleting turns calls end
  DeletedSays (done.Collected end) = ⊥

  abbrev pub CollectedSays : Done L → Type 0
  CollectedSays (done.Indexed last end) = ⊥
  CollectedSays (done.Answered answered short) = ⊥
  CollectedSays (done.Merged end) = ⊥
  CollectedSays (done.Deleted end) = ⊥
  CollectedSays (done.Collected end) = CollectorEnded config log entries least core exit turns calls end

  -- WHAT CAME OF A JOB: how its actor ended, or what its clients were replied.
  abbrev pub JobSays : Job L → Done L → Type 0
  JobSays (jobs.Index reader) result = IndexedSays reader result
  JobSays (jobs.Answer askings) result = AnsweredSays askings.items result
  JobSays jobs.Merge result = MergedSays result
  JobSays jobs.Delete result = DeletedSays result
  JobSays jobs.Collect result = CollectedSays result
