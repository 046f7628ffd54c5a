-- The jobs of a run.
use Rattle.std.specs.Prelude.{List, [], ◌∷◌, ◌++◌, map}
use Rattle.std.specs.declared.alloc.Global.{Global}
use Rattle.std.specs.declared.vec.Vec.{Vec}
use Rattle.run_plan.specs.declared.clients.Asking.{Asking}
use Rattle.thread_run.specs.declared.job.Job.{Job}
use Rattle.thread_run.specs.declared.job.Job.TheVariants as jobs
use Rattle.thread_run.specs.Gathering.{gathered}
use Rattle.thread_run.specs.declared.beginning.Begun.{Begun}
use Rattle.thread_run.specs.declared.beginning.Begun.TheVariants as begun
use Rattle.thread_run.specs.declared.staffing.Post.{Post}
use Rattle.thread_run.specs.declared.staffing.Post.TheVariants as posts

module _ {L : Type 0} where
  -- an indexer works where it is ready
  abbrev pub job_of : Begun L → List (Job L)
  job_of (begun.Ready reader) = jobs.Index reader ∷ []
  job_of (begun.Failed log before after) = []
  job_of (begun.Short log) = []

  abbrev pub index_jobs : List (Begun L) → List (Job L)
  index_jobs all = gathered job_of all

  -- those of the indexers and of the searchers, and one each of a merger, a delete worker and a collector
  abbrev pub jobs_of : List (Begun L) → (shares : List (Vec Asking Global)) → List (Job L)
  jobs_of all shares = index_jobs all ++ (map (λ share. jobs.Answer share) shares ++ jobs.Merge ∷ jobs.Delete ∷ jobs.Collect ∷ [])

  abbrev pub post_of : Begun L → Post L
  post_of (begun.Ready reader) = posts.Working
  post_of (begun.Failed log before after) = posts.Failed log before after
  post_of (begun.Short log) = posts.Short log

  -- its log
  abbrev pub log_in : Begun L → L
  log_in (begun.Ready reader) = reader.log
  log_in (begun.Failed log before after) = log
  log_in (begun.Short log) = log
