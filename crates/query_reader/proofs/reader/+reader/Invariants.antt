use Rattle.std.proofs.Common.{◌≡◌, ◌<◌, ◌≤◌, ◌+◌, ◌-◌, ◌*◌, length, drop, List}
use Rattle.query_reader.specs.Machine.{Frame, run, state, After}
use Rattle.query_reader.specs.Reading.{members}
use Rattle.query_reader.proofs.reader.+reader.Given as goal

abbrev pub decreases-group : goal.decreases-group
decreases-group l = 8 * (66 - l.depth) + 6

abbrev pub decreases-operands : goal.decreases-operands
decreases-operands l = 8 * (66 - l.depth) + 5

abbrev pub decreases-negated_operand : goal.decreases-negated_operand
decreases-negated_operand l = 8 * (66 - l.depth) + 5

abbrev pub decreases-operand_at : goal.decreases-operand_at
decreases-operand_at l = 8 * (66 - l.depth) + 4

abbrev pub decreases-word_operand : goal.decreases-word_operand
decreases-word_operand l = 8 * (66 - l.depth) + 3

abbrev pub decreases-bracket : goal.decreases-bracket
decreases-bracket l = 8 * (66 - l.depth) + 2

abbrev pub decreases-negation : goal.decreases-negation
decreases-negation l = 8 * (66 - l.depth) + 2

abbrev pub invariant-operands-operands : goal.invariant-operands-operands
invariant-operands-operands l = record {
  behind : l.start ≤ l.at;
  within : l.at ≤ length l.text;
  some : 0 < length l.ands.items;
  reads : (fs : List Frame) → run l.start (state (After l.first_free) (members l.depth l.fn.ors.items l.fn.ands.items) fs) (drop l.start l.text) ≡ run l.at (state (After l.free) (members l.depth l.ors.items l.ands.items) fs) (drop l.at l.text);
}

abbrev pub decreases-operands-operands : goal.decreases-operands-operands
decreases-operands-operands l = length l.text - l.at
