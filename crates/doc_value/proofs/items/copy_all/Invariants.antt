use Rattle.std.proofs.Common.{◌≡◌, take}
use Rattle.doc_value.proofs.items.copy_all.Given as goal

-- the copies so far are those of the first items
abbrev pub invariant-loop-item : goal.invariant-loop-item
invariant-loop-item g l = l.copies.items ≡ take l.item-index l.items
