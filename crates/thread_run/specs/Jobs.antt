-- What came of a thread's job.
use Rattle.std.specs.Prelude.{◌≡◌, ◌-◌, ◌^◌, ℕ, List, Some, Option, Result, IsErr, IsOk, MatchBool, ⊤}
use Rattle.std.specs.declared.alloc.AllocError.{AllocError}
use Rattle.source_log.specs.Log.{Log}
use Rattle.index_world.specs.CallsMade.{CallMade}
use Rattle.index_world.specs.Core.{Core}
use Rattle.indexing_run.specs.IndexAll.{IndexerDid}
use Rattle.indexing_run.specs.Making.{IsAssigned}
use Rattle.indexing_run.specs.Places.{Indexer, idle}
use Rattle.indexing_run.specs.declared.indexer.Indexer.{Indexer as Reader}
use Rattle.indexing_run.specs.declared.indexer.IndexerPlace.TheVariants as places
use Rattle.split_collector.specs.CollectAll.{CollectorDid}
use Rattle.upkeep_run.specs.Places as workers
use Rattle.upkeep_run.specs.WorkAll.{WorkerDid}
use Rattle.upkeep_run.specs.declared.work.Aim.TheVariants.{Deleting, Merging}
use Rattle.upkeep_run.specs.declared.work.WorkerPlace.{WorkerPlace as HeldPlace}
use Rattle.thread_run.specs.Clients.{ClientsDid}
use Rattle.run_plan.specs.declared.clients.Asking.{Asking}
use Rattle.thread_run.specs.declared.job.Done.{Done}
use Rattle.thread_run.specs.declared.job.Done.TheVariants as done
use Rattle.thread_run.specs.declared.job.Job.{Job}
use Rattle.thread_run.specs.declared.job.Job.TheVariants as jobs

module _ {L : Type 0} where
  -- an indexer that is to work is idle
  abbrev pub IsFresh : Job L → Type 0
  IsFresh (jobs.Index reader) = reader.place ≡ places.Idle
  IsFresh (jobs.Answer askings) = ⊤
  IsFresh jobs.Merge = ⊤
  IsFresh jobs.Delete = ⊤
  IsFresh jobs.Collect = ⊤

  -- the log of an indexer tells this log, and it was assigned partitions that differ
  abbrev pub Tells : (L → Option Log) → Log → Job L → Type 0
  Tells told log (jobs.Index reader) = (told reader.log ≡ Some log) × IsAssigned reader.assignment
  Tells told log (jobs.Answer askings) = ⊤
  Tells told log jobs.Merge = ⊤
  Tells told log jobs.Delete = ⊤
  Tells told log jobs.Collect = ⊤

  -- the indexer came back, and its log is a later state of the one that it had, whatever it tells
  abbrev pub IsLaterLog : (L → L → Type 0) → Reader L → Done L → Type 0
  IsLaterLog since reader (done.Indexed last end) = since reader.log last.log
  IsLaterLog since reader (done.Answered answered short) = ⊥
  IsLaterLog since reader (done.Merged end) = ⊥
  IsLaterLog since reader (done.Deleted end) = ⊥
  IsLaterLog since reader (done.Collected end) = ⊥

  abbrev pub IsAnswered : Done L → Type 0
  IsAnswered (done.Indexed last end) = ⊥
  IsAnswered (done.Answered answered short) = ⊤
  IsAnswered (done.Merged end) = ⊥
  IsAnswered (done.Deleted end) = ⊥
  IsAnswered (done.Collected end) = ⊥

  abbrev pub IsMerged : Done L → Type 0
  IsMerged (done.Indexed last end) = ⊥
  IsMerged (done.Answered answered short) = ⊥
  IsMerged (done.Merged end) = ⊤
  IsMerged (done.Deleted end) = ⊥
  IsMerged (done.Collected end) = ⊥

  abbrev pub IsDeleted : Done L → Type 0
  IsDeleted (done.Indexed last end) = ⊥
  IsDeleted (done.Answered answered short) = ⊥
  IsDeleted (done.Merged end) = ⊥
  IsDeleted (done.Deleted end) = ⊤
  IsDeleted (done.Collected end) = ⊥

  abbrev pub IsCollected : Done L → Type 0
  IsCollected (done.Indexed last end) = ⊥
  IsCollected (done.Answered answered short) = ⊥
  IsCollected (done.Merged end) = ⊥
  IsCollected (done.Deleted end) = ⊥
  IsCollected (done.Collected end) = ⊤

  -- what came of a job is of its kind; of an indexer the log is a later state of the one that it had
  abbrev pub IsLater : (L → L → Type 0) → Job L → Done L → Type 0
  IsLater since (jobs.Index reader) result = IsLaterLog since reader result
  IsLater since (jobs.Answer askings) result = IsAnswered result
  IsLater since jobs.Merge result = IsMerged result
  IsLater since jobs.Delete result = IsDeleted result
  IsLater since jobs.Collect result = IsCollected result

  -- an indexer of the model that is idle
  abbrev pub fresh_of : (L → ℕ) → Reader L → Indexer
  fresh_of count reader = record { assignment = reader.assignment; place = idle; log_faults = count reader.log }

  module _ (told : L → Option Log) (count : L → ℕ) (Between : Core → Core → Type 0) (log : Log) where
    abbrev pub IndexedDid : Reader L → Done L → Core → List CallMade → Core → Type 0
    IndexedDid reader (done.Indexed last end) core made after = IndexerDid told count Between log (2 ^ 64 - 1) end last (fresh_of count reader) core made after
    IndexedDid reader (done.Answered answered short) core made after = ⊥
    IndexedDid reader (done.Merged end) core made after = ⊥
    IndexedDid reader (done.Deleted end) core made after = ⊥
    IndexedDid reader (done.Collected end) core made after = ⊥

  module _ (Between : Core → Core → Type 0) (log : Log) where
    abbrev pub AnsweredDid : List Asking → Done L → Core → List CallMade → Core → Type 0
    AnsweredDid askings (done.Indexed last end) core made after = ⊥
    AnsweredDid askings (done.Answered answered short) core made after =
        (result : Result (Unit {0}) AllocError) × MatchBool short (IsErr result) (IsOk result) × ClientsDid Between log askings answered.items result core made after
    AnsweredDid askings (done.Merged end) core made after = ⊥
    AnsweredDid askings (done.Deleted end) core made after = ⊥
    AnsweredDid askings (done.Collected end) core made after = ⊥

    abbrev pub MergedDid : (turns : ℕ) → Done L → Core → List CallMade → Core → Type 0
    MergedDid turns (done.Indexed last end) core made after = ⊥
    MergedDid turns (done.Answered answered short) core made after = ⊥
    MergedDid turns (done.Merged end) core made after = (held : HeldPlace) × WorkerDid Between Merging log turns end held workers.idle core made after
    MergedDid turns (done.Deleted end) core made after = ⊥
    MergedDid turns (done.Collected end) core made after = ⊥

    abbrev pub DeletedDid : (turns : ℕ) → Done L → Core → List CallMade → Core → Type 0
    DeletedDid turns (done.Indexed last end) core made after = ⊥
    DeletedDid turns (done.Answered answered short) core made after = ⊥
    DeletedDid turns (done.Merged end) core made after = ⊥
    DeletedDid turns (done.Deleted end) core made after = (held : HeldPlace) × WorkerDid Between Deleting log turns end held workers.idle core made after
    DeletedDid turns (done.Collected end) core made after = ⊥

  abbrev pub CollectedDid : (Between : Core → Core → Type 0) → (turns : ℕ) → Done L → Core → List CallMade → Core → Type 0
  CollectedDid Between turns (done.Indexed last end) core made after = ⊥
  CollectedDid Between turns (done.Answered answered short) core made after = ⊥
  CollectedDid Between turns (done.Merged end) core made after = ⊥
  CollectedDid Between turns (done.Deleted end) core made after = ⊥
  CollectedDid Between turns (done.Collected end) core made after = CollectorDid Between turns end core made after

  -- WHAT CAME OF A JOB that was begun at a core, in so many turns at most: what its actor did, whose calls these are.
  abbrev pub JobDid : (L → Option Log) → (L → ℕ) → (Between : Core → Core → Type 0) → Log → (turns : ℕ) → Job L → Done L → Core → List CallMade → Core → Type 0
  JobDid told count Between log turns (jobs.Index reader) result core made after = IndexedDid told count Between log reader result core made after
  JobDid told count Between log turns (jobs.Answer askings) result core made after = AnsweredDid Between log askings.items result core made after
  JobDid told count Between log turns jobs.Merge result core made after = MergedDid Between log turns result core made after
  JobDid told count Between log turns jobs.Delete result core made after = DeletedDid Between log turns result core made after
  JobDid told count Between log turns jobs.Collect result core made after = CollectedDid Between turns result core made after
