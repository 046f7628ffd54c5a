use Rattle.std.proofs.Common.{◌-◌, ◌≤◌, drop, length}
use Rattle.doc_value.specs.Documents.{PathsRise}
use Rattle.doc_mapping.proofs.faults.paths_rise.Given as goal

abbrev pub invariant-loop-left : goal.invariant-loop-left
invariant-loop-left l = (l.left ≤ length l.fields) × PathsRise (drop (l.left - 1) l.fields)

abbrev pub decreases-loop-left : goal.decreases-loop-left
decreases-loop-left l = l.left
