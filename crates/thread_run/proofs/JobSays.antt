-- What came of a job says this of the journal at the exit.
use Rattle.std.proofs.Common.{◌≡◌, ℕ, ◌≤◌, List, [], ◌∷◌, length}
use Rattle.std.specs.List.{AllByRecursion}
use Rattle.std.specs.Prelude.{Option, Some}
use Rattle.byte_fields.specs.Causes.{last_count}
use Rattle.index_config.specs.declared.config.IndexConfig.{IndexConfig}
use Rattle.source_log.specs.Log.{IsLog, Log}
use Rattle.index_world.specs.CallsMade.{CallMade}
use Rattle.index_world.specs.Configuration.{configuration}
use Rattle.index_world.specs.Core.{Core, IsConfigured, Nobody}
use Rattle.index_world.specs.DirectLaws.{stays_as_is}
use Rattle.index_world.specs.Gate.{IsSoundCore}
use Rattle.index_world.specs.World.{GoesFor}
use Rattle.indexing_run.proofs.Rising.{taken_legal}
use Rattle.indexing_run.specs.Asking.{IsIdle}
use Rattle.indexing_run.specs.declared.indexer.Indexer.{Indexer as Reader}
use Rattle.call_laws.proofs.CallTells.{IsLowCore}
use Rattle.root_search.proofs.NextReplies.{begins_on}
use Rattle.root_search.proofs.Stands.{configured_is}
use Rattle.root_search.specs.Replied.{AsksTexts, IsTimed}
use Rattle.thread_run.specs.Jobs.{AnsweredDid, CollectedDid, DeletedDid, IndexedDid, JobDid, MergedDid, Tells, fresh_of}
use Rattle.thread_run.specs.declared.job.Done.{Done}
use Rattle.thread_run.specs.declared.job.Done.TheVariants as done
use Rattle.thread_run.specs.declared.job.Job.{Job}
use Rattle.thread_run.specs.declared.job.Job.TheVariants as jobs
use Rattle.run_plan.specs.declared.clients.Asking.{Asking}
use Rattle.shared_gate.specs.Sharing.{Passes}
use Rattle.shared_gate.specs.SharedLaws.{passes_go}
use Rattle.upkeep_run.specs.declared.work.Aim.TheVariants.{Deleting, Merging}
use Rattle.thread_run.specs.JobSays.{AnsweredSays, CollectedSays, DeletedSays, IndexedSays, IsCounted, JobSays, MergedSays}
use Rattle.thread_run.specs.Meanwhile.{IsBefore, IsCalled}
use Rattle.thread_run.proofs.CollectorEnds.{collector_ended}
use Rattle.thread_run.proofs.IndexerEnds.{indexer_ended}
use Rattle.thread_run.proofs.Low.{passes_low, sound_low}
use Rattle.thread_run.proofs.Served.{searcher_answered}
use Rattle.thread_run.proofs.WorkerEnds.{worker_ended}

called_timed : (first exit : Core) (made : List CallMade) → AllByRecursion (IsCalled first exit) made → AllByRecursion IsTimed made
called_timed first exit [] called = tt
called_timed first exit (call ∷ made) called = (called.0.greatest, called_timed first exit made called.1)

-- From a sound core to another one, behind which the journal went on up to the exit.
module _ {L : Type 0} (tells : L → Option Log) (count : L → ℕ) (config : IndexConfig) (log : Log) (is_log : IsLog log) (first last exit : Core) (sound : IsSoundCore first log) (configured : IsConfigured config first)
    (at_last : IsSoundCore last log) (at_exit : IsSoundCore exit log) (on : IsBefore last exit) (counted : last.store_faults ≤ last_count) (texts : AsksTexts config) (turns : ℕ)
    (made : List CallMade) (called : AllByRecursion (IsCalled first exit) made) (going : GoesFor Nobody first last) where
  low : IsLowCore first
  low = sound_low first log sound

  config_is : configuration first.history ≡ Some config
  config_is = configured_is first log config sound configured

  indexed_says : (reader : Reader L) (result : Done L) → Tells tells log (jobs.Index reader) → IsCounted count (jobs.Index reader) → IsIdle (fresh_of count reader).place → IndexedDid tells count Passes log reader result first made last →
      IndexedSays count config log exit.history (length first.history) first exit turns (length made) reader result
  indexed_says reader (done.Indexed final end) tell within idled d =
      indexer_ended config log is_log Passes passes_go passes_low first last exit low sound.opened at_last at_exit on counted tells count final (fresh_of count reader) made called idled tell.1 end d within
  indexed_says reader (done.Answered answered short) tell within idled d = d
  indexed_says reader (done.Merged end) tell within idled d = d
  indexed_says reader (done.Deleted end) tell within idled d = d
  indexed_says reader (done.Collected end) tell within idled d = d

  answered_says : (askings : List Asking) (result : Done L) → AnsweredDid {L = L} Passes log askings result first made last → AnsweredSays count config log exit.history (length first.history) first exit turns (length made) askings result
  answered_says askings (done.Indexed final end) d = d
  answered_says askings (done.Answered answered short) d =
      searcher_answered config log Passes passes_go first last exit sound configured at_last counted texts on askings answered.items short d.0 first made last (stays_as_is Nobody first) (stays_as_is Nobody last)
      (called_timed first exit made called) d.1 d.2
  answered_says askings (done.Merged end) d = d
  answered_says askings (done.Deleted end) d = d
  answered_says askings (done.Collected end) d = d

  merged_says : (result : Done L) → MergedDid {L = L} Passes log turns result first made last → MergedSays count config log exit.history (length first.history) first exit turns (length made) result
  merged_says (done.Indexed final end) d = d
  merged_says (done.Answered answered short) d = d
  merged_says (done.Merged end) d = worker_ended config log Passes passes_go passes_low first last exit low sound.opened config_is (taken_legal last log at_last) on counted Merging turns d.0 made called end d.1
  merged_says (done.Deleted end) d = d
  merged_says (done.Collected end) d = d

  deleted_says : (result : Done L) → DeletedDid {L = L} Passes log turns result first made last → DeletedSays count config log exit.history (length first.history) first exit turns (length made) result
  deleted_says (done.Indexed final end) d = d
  deleted_says (done.Answered answered short) d = d
  deleted_says (done.Merged end) d = d
  deleted_says (done.Deleted end) d = worker_ended config log Passes passes_go passes_low first last exit low sound.opened config_is (taken_legal last log at_last) on counted Deleting turns d.0 made called end d.1
  deleted_says (done.Collected end) d = d

  collected_says : (result : Done L) → CollectedDid {L = L} Passes turns result first made last → CollectedSays count config log exit.history (length first.history) first exit turns (length made) result
  collected_says (done.Indexed final end) d = d
  collected_says (done.Answered answered short) d = d
  collected_says (done.Merged end) d = d
  collected_says (done.Deleted end) d = d
  collected_says (done.Collected end) d =
      collector_ended config log Passes passes_go passes_low first last exit low sound.opened config_is (taken_legal exit log at_exit) (begins_on first.history last.history exit.history going.grown on.grown) on counted turns made called end d

  -- WHAT CAME OF A JOB
  pub job_says : (job : Job L) (result : Done L) → Tells tells log job → IsCounted count job → JobDid tells count Passes log turns job result first made last →
      JobSays count config log exit.history (length first.history) first exit turns (length made) job result
  job_says (jobs.Index reader) result tell within d = indexed_says reader result tell within tt d
  job_says (jobs.Answer askings) result tell within d = answered_says askings.items result d
  job_says jobs.Merge result tell within d = merged_says result d
  job_says jobs.Delete result tell within d = deleted_says result d
  job_says jobs.Collect result tell within d = collected_says result d
