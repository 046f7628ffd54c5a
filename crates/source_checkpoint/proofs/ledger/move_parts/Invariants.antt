use Rattle.std.proofs.Common.{◌≡◌, ◌≤◌, ◌+◌, length, drop, vec_len, vec_capacity}
use Rattle.source_checkpoint.specs.Checkpoints.{move_all, IsInOrder}
use Rattle.source_checkpoint.proofs.ledger.move_parts.Given as goal

abbrev pub invariant-loop-part : goal.invariant-loop-part
invariant-loop-part l = record {
  done : move_all (drop l.part-index l.parts) l.list.items ≡ move_all l.parts l.initial.list.items;
  order : IsInOrder l.list.items;
  room : vec_len l.list + length (drop l.part-index l.parts) ≤ vec_capacity l.list;
}
