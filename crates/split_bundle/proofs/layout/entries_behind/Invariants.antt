use Rattle.std.proofs.Common.{◌≡◌, ◌≤◌, ◌-◌, length}
use Rattle.split_bundle.specs.Reading.{entries_behind}
use Rattle.split_bundle.proofs.layout.entries_behind.Given as goal

abbrev pub invariant-loop-taken : goal.invariant-loop-taken
invariant-loop-taken l = record {
  so_far : entries_behind l.entry (l.count - l.taken) l.bytes l.at ≡ entries_behind l.entry l.count l.bytes l.from;
  within : l.at ≤ length l.bytes;
}
