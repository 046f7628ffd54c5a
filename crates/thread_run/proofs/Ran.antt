-- What is known of jobs that ran together, whatever anything tells.
use Rattle.std.proofs.Common.{◌≡◌, ℕ, List, [], ◌∷◌, length, map, refl, sym, ap, ◌∙◌, subst}
use Rattle.std.specs.List.{AllByRecursion, AllZip}
use Rattle.std.specs.Prelude.{Option}
use Rattle.source_log.specs.Log.{Log}
use Rattle.index_world.specs.World.{Keeping}
use Rattle.shared_gate.specs.declared.recorded.Event.{Event}
use Rattle.shared_gate.specs.declared.recorded.Recorded.{Recorded}
use Rattle.thread_run.specs.Jobs.{IsLater}
use Rattle.thread_run.specs.declared.job.Done.{Done}
use Rattle.thread_run.specs.declared.job.Job.{Job}
use Rattle.thread_run.specs.Run.{IsRun, JobRan, JobRun}

module _ {S M L : Type 0} (tells : M → Option Log) (told : L → Option Log) (count : L → ℕ) (since : L → L → Type 0) (turns : ℕ) where
  runs_later : (events : List (Event S)) (world opened : Keeping) (source : M) (runs : List (JobRun L)) → AllByRecursion (JobRan tells told count turns events world since opened source) runs →
      AllZip (IsLater since) (map (λ (run : JobRun L). run.job) runs) (map (λ (run : JobRun L). run.done) runs)
  runs_later events world opened source [] each = tt
  runs_later events world opened source (run ∷ runs) each = (each.0.logs, runs_later events world opened source runs each.1)

  -- of each job what came of it is of its kind
  pub ran_later : {K : Type 0} (first last : Recorded S K M) (jobs : List (Job L)) (done : List (Done L)) → IsRun tells told count since turns first jobs last done → AllZip (IsLater since) jobs done
  ran_later first last jobs done r =
      subst (λ (js : List (Job L)). AllZip (IsLater since) js done) (sym r.jobs_are)
      (subst (λ (ds : List (Done L)). AllZip (IsLater since) (map (λ (run : JobRun L). run.job) r.runs) ds) (sym r.done_are)
      (runs_later last.events.items last.world first.opened.value first.source.value r.runs r.each))
