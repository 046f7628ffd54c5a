use Rattle.std.proofs.Common.{◌≡◌, ◌+◌, ◌++◌, ◌≤◌, length, map, vec_capacity, vec_len}
use Rattle.std.specs.Vec.Iter.{into_iter_items}
use Rattle.thread_run.specs.declared.job.Job.TheVariants as works
use Rattle.thread_run.proofs.staffing.hire_searchers.Given as goal

abbrev pub invariant-loop-askings : goal.invariant-loop-askings
invariant-loop-askings g l =
    (goal.iterator-loop-askings g).can_next l.askings-iterator
    × (goal.iterator-loop-askings g).is_finite l.askings-iterator
    × (l.yielded ++ into_iter_items l.askings-iterator ≡ l.fn.shares.items)
    × (l.jobs.items ≡ l.fn.jobs.items ++ map (λ share. works.Answer share) l.yielded)
    × ((vec_len l.jobs ≡ vec_len l.fn.jobs + length l.yielded) × (vec_capacity l.fn.jobs ≤ vec_capacity l.jobs))
