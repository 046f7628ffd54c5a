use Rattle.std.proofs.Common.{◌≡◌, ◌≤◌, ◌+◌, length, map, drop, vec_len, vec_capacity}
use Rattle.source_checkpoint.specs.Deltas.{range_of}
use Rattle.source_checkpoint.specs.Checkpoints.{move_all, IsInOrder}
use Rattle.source_checkpoint.proofs.ledger.move_spans.Given as goal

abbrev pub invariant-loop-span : goal.invariant-loop-span
invariant-loop-span l = record {
  done : move_all (map range_of (drop l.span-index l.spans)) l.list.items ≡ move_all (map range_of l.spans) l.initial.list.items;
  order : IsInOrder l.list.items;
  room : vec_len l.list + length (map range_of (drop l.span-index l.spans)) ≤ vec_capacity l.list;
}
