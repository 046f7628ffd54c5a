use Rattle.std.proofs.Common.{◌≡◌, ◌≤◌, ◌<◌, ℕ, true, get_or}
use Rattle.source_checkpoint.specs.Names.{is_name_byte}
use Rattle.source_checkpoint.proofs.partition.Partition.from_text.Given as goal

abbrev pub invariant-loop-at : goal.invariant-loop-at
invariant-loop-at l = record {
  short : l.at ≤ 64;
  before : (k : ℕ) → k < l.at → is_name_byte (get_or l.bytes k 0) ≡ true;
}
