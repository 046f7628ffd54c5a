use Rattle.std.proofs.Common.{◌≡◌, ◌+◌, ◌≤◌, drop}
use Rattle.doc_sets.specs.Ranged.{begun_blocks}
use Rattle.doc_sets.proofs.value_columns.begun_blocks.Given as goal

abbrev pub invariant-loop-number : goal.invariant-loop-number
invariant-loop-number l = record {
  few : l.begun ≤ l.number;
  rest : l.begun + begun_blocks l.prefix (drop l.number l.index) ≡ begun_blocks l.prefix l.index;
}
