use Rattle.std.proofs.Common.{◌≡◌, ◌≤◌, ◌-◌, ◌+◌, ◌++◌, ℕ, List, length}
use Rattle.std.specs.Prelude.{Some}
use Rattle.input_lines.specs.Held.{held}
use Rattle.input_lines.proofs.Feeding.{IsUnderWay}
use Rattle.input_lines.proofs.lines.Lines.next.Given as goal

abbrev pub invariant-pieces : goal.invariant-pieces
invariant-pieces g l = record {
  reaches : (more : List ℕ) → g.R.Source.left l.fn.input ≡ Some more → (behind : List ℕ) × (g.R.Source.left l.input ≡ Some behind)
      × IsUnderWay l.before (held l.fn.self ++ more) l.self.line.items l.self.taken (held l.self ++ behind);
  counted : g.R.Source.fault_count l.fn.input ≤ g.R.Source.fault_count l.input;
  ahead : l.before ≤ l.self.taken;
  place : l.self.taken ≡ l.before + length l.self.line.items;
  short : length l.self.line.items ≤ 2097152;
}

abbrev pub decreases-pieces : goal.decreases-pieces
decreases-pieces g l = 1073741824 - l.self.taken
