use Rattle.std.proofs.Common.{◌≡◌, ◌≤◌, ◌-◌, length}
use Rattle.split_bundle.specs.Reading.{block_starts_at}
use Rattle.split_bundle.proofs.Indexes.{prepended}
use Rattle.split_bundle.proofs.footer.read_index.Given as goal

abbrev pub invariant-loop-taken : goal.invariant-loop-taken
invariant-loop-taken l = record {
  so_far : prepended l.index (block_starts_at (l.fn.table.count - l.taken) l.bytes l.at) ≡ block_starts_at l.fn.table.count l.bytes l.fn.table.at;
  within : l.at ≤ length l.bytes;
}
