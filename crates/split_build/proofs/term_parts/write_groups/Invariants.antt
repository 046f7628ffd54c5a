use Rattle.std.proofs.Common.{List, drop}
use Rattle.split_bundle.specs.declared.placed.Placed.{Placed}
use Rattle.split_build.specs.HeldKeys.{key_bytes}
use Rattle.split_build.specs.WrittenTerms.{AreGrouped}
use Rattle.split_build.proofs.GroupWriting.{AreGroupsWritten}
use Rattle.split_build.proofs.term_parts.write_groups.Given as goal

-- the keys that are written, and those that are left
abbrev pub invariant-loop-i : goal.invariant-loop-i
invariant-loop-i l = (documents : List Placed) → AreGrouped l.schema documents (key_bytes l.keys) l.placed l.plain → AreGroupsWritten l.writer l.schema documents (key_bytes l.keys) l.order.items (drop l.i l.order.items)
