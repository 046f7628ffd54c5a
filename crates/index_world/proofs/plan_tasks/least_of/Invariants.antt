use Rattle.std.proofs.Common.{◌≡◌, ◌≤◌, drop, min}
use Rattle.index_world.specs.PlanTasks.{least_of}
use Rattle.index_world.proofs.plan_tasks.least_of.Given as goal

abbrev pub invariant-loop-span : goal.invariant-loop-span
invariant-loop-span l = record {
  low : l.least ≤ l.upto;
  value : min l.least (least_of l.upto (drop l.span-index l.spans)) ≡ least_of l.upto l.spans;
}
