use Rattle.std.proofs.Common.{◌≡◌, ◌++◌, ◌≤◌, length, vec_capacity, vec_len}
use Rattle.std.specs.Vec.Iter.{into_iter_items}
use Rattle.thread_run.specs.Ending.{at_work, ends_from, logs_behind}
use Rattle.thread_run.proofs.ending.ends_of.Given as goal

abbrev pub invariant-loop-post : goal.invariant-loop-post
invariant-loop-post g l =
    (goal.iterator-loop-post g).can_next l.post-iterator
    × (goal.iterator-loop-post g).is_finite l.post-iterator
    × (l.yielded ++ into_iter_items l.post-iterator ≡ l.fn.posts.items)
    × (l.place ≡ length l.yielded)
    × (at_work (into_iter_items l.post-iterator) ≤ length (into_iter_items l.rest))
    × (l.logs.items ++ logs_behind (into_iter_items l.post-iterator) (into_iter_items l.rest) ≡ logs_behind l.fn.posts.items l.fn.indexed.items)
    × (l.ends.items ++ ends_from l.place (into_iter_items l.post-iterator) (into_iter_items l.rest) ≡ ends_from 0 l.fn.posts.items l.fn.indexed.items)
    × ((vec_len l.logs ≡ length l.yielded) × (vec_len l.ends ≡ length l.yielded))
    × ((vec_capacity l.fn.all.logs ≤ vec_capacity l.logs) × (vec_capacity l.fn.all.ends ≤ vec_capacity l.ends))
