use Rattle.std.proofs.Common.{◌-◌}
use Rattle.doc_value.proofs.Finding.{Within}
use Rattle.doc_value.proofs.schema.Schema.number_of.Given as goal

abbrev pub invariant-loop-low : goal.invariant-loop-low
invariant-loop-low l = Within l.self.fields l.path l.low l.high

abbrev pub decreases-loop-low : goal.decreases-loop-low
decreases-loop-low l = l.high - l.low
