use Rattle.std.proofs.Common.{◌≡◌, ◌++◌, length, take}
use Rattle.byte_fields.specs.Spelling.{varint}
use Rattle.meta_journal.specs.Spelling.{each_spelled, field_spelled}
use Rattle.meta_journal.proofs.writing.put_fields.Given as goal

abbrev pub invariant-loop-field : goal.invariant-loop-field
invariant-loop-field l = l.out.items ≡ l.fn.out.items ++ (varint (length l.fields) ++ each_spelled field_spelled (take l.field-index l.fields))
