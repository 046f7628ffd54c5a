use Rattle.std.proofs.Common.{◌-◌, ◌<◌, map}
use Rattle.fast_fields.specs.Columns.{numbers}
use Rattle.fast_fields.proofs.Packing.{Packing}
use Rattle.fast_fields.proofs.encode.put_packed.Given as goal

abbrev pub invariant-loop-entry : goal.invariant-loop-entry
invariant-loop-entry l = (l.held.count < 64) × Packing l.fn.out.items l.out.items l.width (map (λ n. n - l.least) (numbers l.entries)) l.entry-index l.held.bits l.held.count
