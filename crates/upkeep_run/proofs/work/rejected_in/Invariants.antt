use Rattle.std.proofs.Common.{◌≡◌, ◌+◌, ◌≤◌, drop, min}
use Rattle.std.specs.Prelude.{sum_by}
use Rattle.index_world.specs.SplitFile.{most}
use Rattle.upkeep_run.specs.Ending.{rejected_by, rejected_said}
use Rattle.upkeep_run.proofs.work.rejected_in.Given as goal

abbrev pub invariant-loop-row : goal.invariant-loop-row
invariant-loop-row l = record {
  sum : min (l.rejected + sum_by (λ row. rejected_by row.work) (drop l.row-index l.rows)) most ≡ rejected_said l.rows;
  small : l.rejected ≤ most;
}
