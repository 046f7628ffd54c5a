use Rattle.std.proofs.Common.{◌-◌, length}
use Rattle.node_run.proofs.Splitting.{ReadNames}
use Rattle.node_run.proofs.line.partitions_of.Given as goal

abbrev pub invariant-words : goal.invariant-words
invariant-words l = ReadNames l.text l.partitions l.rest

abbrev pub decreases-words : goal.decreases-words
decreases-words l = 64 - length l.partitions
