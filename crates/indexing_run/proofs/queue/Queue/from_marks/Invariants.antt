use Rattle.std.proofs.Common.{◌≡◌, take}
use Rattle.indexing_run.specs.Steps.{marks_at}
use Rattle.indexing_run.proofs.queue.Queue.from_marks.Given as goal

abbrev pub invariant-loop-partition : goal.invariant-loop-partition
invariant-loop-partition l = l.queue.items ≡ marks_at l.marks.checkpoints.items (take l.partition-index l.partition-items)
