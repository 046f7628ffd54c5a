use Rattle.std.proofs.Common.{◌≡◌, ◌++◌, false, map}
use Rattle.std.specs.List.{AllByRecursion}
use Rattle.std.specs.Vec.Iter.{into_iter_items}
use Rattle.thread_run.proofs.replying.replies_in.Given as goal

abbrev pub invariant-loop-one : goal.invariant-loop-one
invariant-loop-one l =
    goal.iterator-loop-one.can_next l.one-iterator
    × goal.iterator-loop-one.is_finite l.one-iterator
    × (l.yielded ++ into_iter_items l.one-iterator ≡ l.fn.answered.items)
    × (l.all.items ≡ map (λ one. one.replies) l.yielded)
    × (l.lacks ≡ false → AllByRecursion (λ one. one.short ≡ false) l.yielded)
