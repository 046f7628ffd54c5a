use Rattle.std.proofs.Common.{◌≡◌, take}
use Rattle.byte_fields.proofs.list.copy_all.Given as goal

-- the copies so far are those of the first items
abbrev pub invariant-loop-item : goal.invariant-loop-item
invariant-loop-item g l = l.copies.items ≡ take l.item-index l.items
