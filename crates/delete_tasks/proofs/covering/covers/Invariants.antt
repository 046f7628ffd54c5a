use Rattle.std.proofs.Common.{◌≡◌, drop}
use Rattle.delete_tasks.specs.Removed.{covered}
use Rattle.delete_tasks.proofs.covering.covers.Given as goal

abbrev pub invariant-loop-task : goal.invariant-loop-task
invariant-loop-task l =
    covered l.schema l.doc (drop l.task-index l.task-items) l.span.admitted l.upto ≡ covered l.schema l.doc l.tasks.list l.span.admitted l.upto
