use Rattle.std.proofs.Common.{◌≡◌, ◌++◌, ◌≤◌, length, map, vec_capacity, vec_len}
use Rattle.std.specs.Vec.Iter.{into_iter_items}
use Rattle.thread_run.specs.Closing.{readers_of}
use Rattle.thread_run.specs.Gathering.{gathered}
use Rattle.thread_run.proofs.closing.given_back.Given as goal

abbrev pub invariant-loop-job : goal.invariant-loop-job
invariant-loop-job g l =
    (goal.iterator-loop-job g).can_next l.job-iterator
    × (goal.iterator-loop-job g).is_finite l.job-iterator
    × (l.yielded ++ into_iter_items l.job-iterator ≡ l.fn.jobs.items)
    × (map (λ one. one.indexer) l.indexed.items ≡ gathered readers_of l.yielded)
    × ((vec_len l.indexed ≤ length l.yielded) × (vec_capacity l.fn.indexed ≤ vec_capacity l.indexed))
