use Rattle.std.proofs.Common.{◌≡◌, ◌++◌, drop}
use Rattle.index_world.specs.PlanTasks.{tasks_upto}
use Rattle.index_world.proofs.plan_tasks.copied_upto.Given as goal

abbrev pub invariant-loop-task : goal.invariant-loop-task
invariant-loop-task l = l.copies ++ tasks_upto l.upto (drop l.task-index l.tasks) ≡ tasks_upto l.upto l.tasks
