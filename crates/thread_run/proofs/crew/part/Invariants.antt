use Rattle.std.proofs.Common.{◌≡◌, ◌++◌, ◌≤◌, length, map, vec_capacity, vec_len}
use Rattle.std.specs.List.{AllZip}
use Rattle.std.specs.Vec.Iter.{into_iter_items}
use Rattle.thread_run.specs.declared.actor.Work.TheVariants as works
use Rattle.thread_run.proofs.crew.part.Given as goal

abbrev pub invariant-loop-actor : goal.invariant-loop-actor
invariant-loop-actor g l =
    (goal.iterator-loop-actor g).can_next l.actor-iterator
    × (goal.iterator-loop-actor g).is_finite l.actor-iterator
    × (l.yielded ++ into_iter_items l.actor-iterator ≡ l.fn.actors.items)
    × AllZip (λ actor done. actor.work ≡ works.Did done) l.yielded l.all.items
    × (l.passes.items ≡ map (λ actor. actor.gate.pass) l.yielded)
    × ((vec_len l.all ≡ length l.yielded) × (vec_len l.fn.actors ≤ vec_capacity l.all))
    × ((vec_len l.passes ≡ length l.yielded) × (vec_len l.fn.actors ≤ vec_capacity l.passes))
