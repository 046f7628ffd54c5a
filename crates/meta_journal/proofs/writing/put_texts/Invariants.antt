use Rattle.std.proofs.Common.{◌≡◌, ◌++◌, length, take}
use Rattle.byte_fields.specs.Spelling.{byte_string}
use Rattle.byte_fields.specs.Spelling.{varint}
use Rattle.meta_journal.specs.Spelling.{each_spelled}
use Rattle.meta_journal.proofs.writing.put_texts.Given as goal

abbrev pub invariant-loop-text : goal.invariant-loop-text
invariant-loop-text l = l.out.items ≡ l.fn.out.items ++ (varint (length l.texts) ++ each_spelled byte_string (take l.text-index l.texts))
