use Rattle.std.proofs.Common.{◌-◌}
use Rattle.doc_mapping.proofs.Starting.{Parts}
use Rattle.doc_mapping.proofs.faults.is_object_by_halves.Given as goal

abbrev pub invariant-loop-low : goal.invariant-loop-low
invariant-loop-low l = Parts l.schema.fields l.start l.low l.high

abbrev pub decreases-loop-low : goal.decreases-loop-low
decreases-loop-low l = l.high - l.low
