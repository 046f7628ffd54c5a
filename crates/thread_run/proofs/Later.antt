-- What came of a job stays so as the index goes on.
use Rattle.std.proofs.Common.{◌≡◌, ◌-◌, ◌^◌, ℕ, List}
use Rattle.std.specs.Prelude.{Option}
use Rattle.source_log.specs.Log.{Log}
use Rattle.index_world.specs.CallsMade.{CallMade}
use Rattle.index_world.specs.Core.{Core, Nobody}
use Rattle.index_world.specs.World.{GoesFor}
use Rattle.index_world.proofs.Ran.{goes_then}
use Rattle.indexing_run.specs.declared.indexer.Indexer.{Indexer as Reader}
use Rattle.indexing_run.proofs.Indexes as indexes
use Rattle.split_collector.proofs.Collects as collects
use Rattle.upkeep_run.specs.Places as workers
use Rattle.upkeep_run.specs.declared.work.Aim.TheVariants.{Deleting, Merging}
use Rattle.upkeep_run.proofs.Works as works
use Rattle.thread_run.specs.Clients.{ClientsDid}
use Rattle.thread_run.specs.Jobs.{AnsweredDid, CollectedDid, DeletedDid, IndexedDid, JobDid, MergedDid, fresh_of}
use Rattle.run_plan.specs.declared.clients.Asking.{Asking}
use Rattle.thread_run.specs.declared.job.Done.{Done}
use Rattle.thread_run.specs.declared.job.Done.TheVariants as done
use Rattle.thread_run.specs.declared.job.Job.{Job}
use Rattle.thread_run.specs.declared.job.Job.TheVariants as jobs

module _ {L : Type 0} (told : L → Option Log) (count : L → ℕ) (Between : Core → Core → Type 0) (between_goes : (core mid : Core) → Between core mid → GoesFor Nobody core mid) (log : Log) (turns : ℕ)
    (core : Core) (made : List CallMade) (after later : Core) (on : GoesFor Nobody after later) where
  indexed_later : (reader : Reader L) (result : Done L) → IndexedDid told count Between log reader result core made after → IndexedDid told count Between log reader result core made later
  indexed_later reader (done.Indexed last end) d = indexes.did_later Between log between_goes told count (2 ^ 64 - 1) end last (fresh_of count reader) core made after later on d
  indexed_later reader (done.Answered answered short) d = d
  indexed_later reader (done.Merged end) d = d
  indexed_later reader (done.Deleted end) d = d
  indexed_later reader (done.Collected end) d = d

  answered_later : (askings : List Asking) (result : Done L) → AnsweredDid {L = L} Between log askings result core made after → AnsweredDid {L = L} Between log askings result core made later
  answered_later askings (done.Indexed last end) d = d
  answered_later askings (done.Answered answered short) d =
      let c = d.2 in (
        d.0,
        d.1,
        record { served = c.served; last = c.last; are = c.are; calls = c.calls; goes_on = goes_then c.last after later c.goes_on on; rest = c.rest; asked = c.asked; given = c.given; whole = c.whole },
      )
  answered_later askings (done.Merged end) d = d
  answered_later askings (done.Deleted end) d = d
  answered_later askings (done.Collected end) d = d

  merged_later : (result : Done L) → MergedDid {L = L} Between log turns result core made after → MergedDid {L = L} Between log turns result core made later
  merged_later (done.Indexed last end) d = d
  merged_later (done.Answered answered short) d = d
  merged_later (done.Merged end) d = (d.0, works.did_later Between Merging log between_goes turns end d.0 workers.idle core made after later on d.1)
  merged_later (done.Deleted end) d = d
  merged_later (done.Collected end) d = d

  deleted_later : (result : Done L) → DeletedDid {L = L} Between log turns result core made after → DeletedDid {L = L} Between log turns result core made later
  deleted_later (done.Indexed last end) d = d
  deleted_later (done.Answered answered short) d = d
  deleted_later (done.Merged end) d = d
  deleted_later (done.Deleted end) d = (d.0, works.did_later Between Deleting log between_goes turns end d.0 workers.idle core made after later on d.1)
  deleted_later (done.Collected end) d = d

  collected_later : (result : Done L) → CollectedDid {L = L} Between turns result core made after → CollectedDid {L = L} Between turns result core made later
  collected_later (done.Indexed last end) d = d
  collected_later (done.Answered answered short) d = d
  collected_later (done.Merged end) d = d
  collected_later (done.Deleted end) d = d
  collected_later (done.Collected end) d = collects.did_later Between turns end core made after later on d

  pub job_later : (job : Job L) (result : Done L) → JobDid told count Between log turns job result core made after → JobDid told count Between log turns job result core made later
  job_later (jobs.Index reader) result d = indexed_later reader result d
  job_later (jobs.Answer askings) result d = answered_later askings.items result d
  job_later jobs.Merge result d = merged_later result d
  job_later jobs.Delete result d = deleted_later result d
  job_later jobs.Collect result d = collected_later result d
