use Rattle.std.proofs.Common.{◌≡◌, ◌++◌, ◌≤◌, length, map, vec_capacity, vec_len}
use Rattle.std.specs.Vec.Iter.{into_iter_items}
use Rattle.thread_run.specs.Staffing.{index_jobs, post_of}
use Rattle.thread_run.proofs.staffing.hire_indexers.Given as goal

abbrev pub invariant-loop-one : goal.invariant-loop-one
invariant-loop-one g l =
    (goal.iterator-loop-one g).can_next l.one-iterator
    × (goal.iterator-loop-one g).is_finite l.one-iterator
    × (l.yielded ++ into_iter_items l.one-iterator ≡ l.fn.begun.items)
    × (l.jobs.items ≡ index_jobs l.yielded)
    × ((vec_len l.jobs ≤ length l.yielded) × (vec_capacity l.fn.jobs ≤ vec_capacity l.jobs))
    × (l.posts.items ≡ map post_of l.yielded)
    × ((vec_len l.posts ≡ length l.yielded) × (vec_capacity l.fn.posts ≤ vec_capacity l.posts))
