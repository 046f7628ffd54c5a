use Rattle.std.proofs.Common.{◌≡◌, ◌≤◌, ◌-◌, length}
use Rattle.split_bundle.specs.Reading.{column_among}
use Rattle.split_bundle.proofs.layout.column_range.Given as goal

abbrev pub invariant-loop-passed : goal.invariant-loop-passed
invariant-loop-passed l = record {
  so_far : column_among (l.fn.table.count - l.passed) l.number l.size l.bytes l.at ≡ column_among l.fn.table.count l.number l.size l.bytes l.fn.table.at;
  within : l.at ≤ length l.bytes;
}
