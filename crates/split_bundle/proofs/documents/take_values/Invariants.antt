use Rattle.std.proofs.Common.{◌≡◌, ◌≤◌, ◌-◌, length}
use Rattle.split_bundle.specs.DocReading.{values_at}
use Rattle.split_bundle.proofs.DocLoops.{prepended}
use Rattle.split_bundle.proofs.documents.take_values.Given as goal

abbrev pub invariant-loop-taken : goal.invariant-loop-taken
invariant-loop-taken l = record {
  so_far : prepended l.values (values_at l.kind (l.count - l.taken) l.bytes l.at) ≡ values_at l.kind l.count l.bytes l.from;
  within : l.at ≤ length l.bytes;
}
