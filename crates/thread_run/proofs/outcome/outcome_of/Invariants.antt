use Rattle.std.proofs.Common.{◌≡◌, ◌++◌, length}
use Rattle.std.specs.Vec.Iter.{into_iter_items}
use Rattle.thread_run.specs.Outcome.{HasRoom, IsOutcome}
use Rattle.thread_run.proofs.outcome.outcome_of.Given as goal

abbrev pub invariant-loop-done : goal.invariant-loop-done
invariant-loop-done g l =
    (goal.iterator-loop-done g).can_next l.done-iterator
    × (goal.iterator-loop-done g).is_finite l.done-iterator
    × (l.yielded ++ into_iter_items l.done-iterator ≡ l.fn.all.items)
    × HasRoom (length (into_iter_items l.done-iterator)) l.outcome
    × IsOutcome l.yielded l.outcome
