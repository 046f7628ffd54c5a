use Rattle.std.proofs.Common.{◌≡◌, ◌+◌, ◌++◌, ◌≤◌, length, vec_capacity, vec_len}
use Rattle.std.specs.List.{AllZip}
use Rattle.std.specs.Vec.Iter.{into_iter_items}
use Rattle.turn_lock.specs.Passes.{IsIdle, IsOf, left, parts, places, seen}
use Rattle.shared_gate.specs.Sharing.{seat_of}
use Rattle.thread_run.specs.Working.{fresh_seat}
use Rattle.thread_run.specs.declared.actor.Work.TheVariants as works
use Rattle.thread_run.proofs.crew.hire.Given as goal

abbrev pub invariant-loop-job : goal.invariant-loop-job
invariant-loop-job g l =
    (goal.iterator-loop-job g).can_next l.job-iterator
    × (goal.iterator-loop-job g).is_finite l.job-iterator
    × (l.yielded ++ into_iter_items l.job-iterator ≡ l.fn.jobs.items)
    × (IsOf l.lock l.pass × IsIdle l.pass)
    × ((seen l.pass ≡ seen l.fn.pass) × (places l.pass ≡ places l.fn.pass))
    × ((parts l.pass + length l.yielded ≡ parts l.fn.pass) × (left l.pass + length l.yielded ≡ left l.fn.pass))
    × ((vec_len l.actors ≡ length l.yielded) × (vec_len l.fn.jobs ≤ vec_capacity l.actors))
    × AllZip (λ job actor. (actor.work ≡ works.ToDo job) × (seat_of actor.gate.lock.now actor.gate.pass actor.gate.config.now actor.gate.home ≡ fresh_seat l.lock l.config)) l.yielded l.actors.items
