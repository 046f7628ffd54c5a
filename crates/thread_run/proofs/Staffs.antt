-- Indexers, and those of them that work.
use Rattle.std.proofs.Common.{◌≡◌, ◌+◌, ◌≤◌, ℕ, suc, List, [], ◌∷◌, ◌++◌, length, map, refl, arith}
use Rattle.thread_run.specs.Ending.{at_work}
use Rattle.thread_run.specs.Staffing.{index_jobs, job_of, post_of}
use Rattle.thread_run.specs.declared.beginning.Begun.{Begun}
use Rattle.thread_run.specs.declared.beginning.Begun.TheVariants as begun
use Rattle.thread_run.specs.declared.staffing.Post.{Post}
use Rattle.thread_run.specs.declared.staffing.Post.TheVariants as posts

module _ {L : Type 0} where
  -- each has one job at most
  pub one_job : (one : Begun L) → length (job_of one) ≤ 1
  one_job (begun.Ready reader) = omega arith
  one_job (begun.Failed log before after) = omega arith
  one_job (begun.Short log) = omega arith

  pub work_cons : (post : Post L) (all : List (Post L)) → at_work (post ∷ all) ≡ at_work (post ∷ []) + at_work all
  work_cons posts.Working all = omega arith
  work_cons (posts.Failed log before after) all = omega arith
  work_cons (posts.Short log) all = omega arith
