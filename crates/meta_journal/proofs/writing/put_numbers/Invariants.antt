use Rattle.std.proofs.Common.{◌≡◌, ◌++◌, length, take}
use Rattle.byte_fields.specs.Spelling.{varint}
use Rattle.meta_journal.specs.Spelling.{each_spelled}
use Rattle.meta_journal.proofs.writing.put_numbers.Given as goal

abbrev pub invariant-loop-number : goal.invariant-loop-number
invariant-loop-number l = l.out.items ≡ l.fn.out.items ++ (varint (length l.numbers) ++ each_spelled varint (take l.number-index l.numbers))
