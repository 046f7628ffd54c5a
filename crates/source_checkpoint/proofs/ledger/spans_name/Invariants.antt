use Rattle.std.proofs.Common.{◌≡◌, map, drop}
use Rattle.source_checkpoint.specs.Deltas.{range_of, Names}
use Rattle.source_checkpoint.proofs.ledger.spans_name.Given as goal

abbrev pub invariant-loop-span : goal.invariant-loop-span
invariant-loop-span l = Names (map range_of (drop l.span-index l.spans)) l.partition ≡ Names (map range_of l.spans) l.partition
