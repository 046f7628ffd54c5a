use Rattle.std.proofs.Common.{◌≡◌, ◌*◌, ◌^◌, ◌≤◌, take}
use Rattle.index_report.specs.Counts.{counts_of}
use Rattle.index_report.proofs.counts.count_rows.Given as goal

-- the counts of the rows so far
abbrev pub invariant-loop-row : goal.invariant-loop-row
invariant-loop-row l = record {
  counted : l.counts ≡ counts_of (take l.row-index l.rows);
  staged : l.counts.staged ≤ l.row-index;
  published : l.counts.published ≤ l.row-index;
  marked : l.counts.marked ≤ l.row-index;
  docs : l.counts.docs ≤ 2 ^ 64 * l.row-index;
  rejected : l.counts.rejected ≤ 2 ^ 64 * l.row-index;
}
