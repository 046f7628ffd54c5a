use Rattle.std.proofs.Common.{◌≡◌, ◌+◌, length}
use Rattle.fast_fields.specs.Columns.{cells}
use Rattle.fast_fields.proofs.entries.cell_count.Given as goal

abbrev pub invariant-loop-row : goal.invariant-loop-row
invariant-loop-row l = l.count + length (cells l.rest) ≡ length (cells l.rows)

abbrev pub decreases-loop-row : goal.decreases-loop-row
decreases-loop-row l = length l.rest
