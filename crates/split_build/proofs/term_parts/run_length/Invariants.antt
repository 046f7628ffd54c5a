use Rattle.std.proofs.Common.{◌≡◌, ◌+◌, drop}
use Rattle.split_build.specs.Grouped.{run_of}
use Rattle.split_build.proofs.term_parts.run_length.Given as goal

abbrev pub invariant-loop-other : goal.invariant-loop-other
invariant-loop-other l = record {
  run : l.count + run_of l.document (drop l.other-index l.documents) ≡ run_of l.document l.documents;
  count : l.count ≡ l.other-index;
}
