use Rattle.std.proofs.Common.{◌≡◌, ◌++◌, length, take}
use Rattle.byte_fields.specs.Spelling.{varint}
use Rattle.meta_journal.specs.Spelling.{each_spelled, part_spelled}
use Rattle.meta_journal.proofs.writing.put_parts.Given as goal

abbrev pub invariant-loop-part : goal.invariant-loop-part
invariant-loop-part l = l.out.items ≡ l.fn.out.items ++ (varint (length l.parts) ++ each_spelled part_spelled (take l.part-index l.parts))
