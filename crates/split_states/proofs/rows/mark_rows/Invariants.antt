use Rattle.std.proofs.Common.{◌≡◌, drop, map}
use Rattle.split_states.specs.Due.{stamp_of}
use Rattle.split_states.specs.Rows.{change_each, marked, RowsRise}
use Rattle.split_states.proofs.rows.mark_rows.Given as goal

abbrev pub invariant-loop-number : goal.invariant-loop-number
invariant-loop-number l = record {
  left : change_each (drop l.number-index l.numbers) (marked l.moment) l.rows ≡ change_each l.numbers (marked l.moment) l.initial.rows;
  order : RowsRise l.rows;
  stamps : l.stamps ≡ map stamp_of l.rows;
}
