use Rattle.std.proofs.Common.{◌≡◌, ◌<◌, ◌≤◌, ◌-◌, ◌++◌, ℕ, List, length}
use Rattle.std.specs.Prelude.{Some, vec_len}
use Rattle.quick_node.proofs.creating.read_whole.Given as goal

abbrev pub invariant-pieces : goal.invariant-pieces
invariant-pieces g l = record {
  room : 0 < vec_len l.chunk;
  short : length l.text.items ≤ 1048576;
  reaches : (text : List ℕ) → g.R.Source.left l.fn.input ≡ Some text → (behind : List ℕ) × (g.R.Source.left l.input ≡ Some behind) × (text ≡ l.text.items ++ behind);
  counted : g.R.Source.fault_count l.fn.input ≤ g.R.Source.fault_count l.input;
}

abbrev pub decreases-pieces : goal.decreases-pieces
decreases-pieces g l = 1048576 - length l.text.items
