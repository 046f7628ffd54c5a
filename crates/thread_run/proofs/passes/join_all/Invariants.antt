use Rattle.std.proofs.Common.{◌≡◌, ◌+◌, ◌++◌, ℕ}
use Rattle.std.specs.List.{AllByRecursion}
use Rattle.std.specs.Vec.Iter.{into_iter_items}
use mathlib.Core.List.{IsPrefix}
use Rattle.turn_lock.specs.Counts.{times, total}
use Rattle.turn_lock.specs.Passes.{IsIdle, IsOf, parts, places, seen}
use Rattle.thread_run.proofs.passes.join_all.Given as goal

abbrev pub invariant-loop-other : goal.invariant-loop-other
invariant-loop-other g l =
    (goal.iterator-loop-other g).can_next l.other-iterator
    × (goal.iterator-loop-other g).is_finite l.other-iterator
    × (l.yielded ++ into_iter_items l.other-iterator ≡ l.fn.others.items)
    × (IsOf l.lock l.pass × IsIdle l.pass)
    × IsPrefix (seen l.fn.pass) (seen l.pass)
    × AllByRecursion (λ other. IsPrefix (seen other) (seen l.pass)) l.yielded
    × ((place : ℕ) → times place (places l.pass) ≡ times place (places l.fn.pass) + total (λ other. times place (places other)) l.yielded)
    × (parts l.pass ≡ parts l.fn.pass + total (λ other. parts other) l.yielded)
