use Rattle.std.proofs.Common.{◌≡◌, ◌++◌, length, take}
use Rattle.byte_fields.specs.Spelling.{byte_string}
use Rattle.byte_fields.specs.Spelling.{varint}
use Rattle.meta_journal.specs.Spelling.{each_spelled}
use Rattle.meta_journal.proofs.writing.put_terms.Given as goal

abbrev pub invariant-loop-term : goal.invariant-loop-term
invariant-loop-term l = l.out.items ≡ l.fn.out.items ++ (varint (length l.terms) ++ each_spelled byte_string (take l.term-index l.terms))
