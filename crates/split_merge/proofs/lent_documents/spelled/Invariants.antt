use Rattle.std.proofs.Common.{◌≡◌, map, take}
use Rattle.byte_fields.specs.Spelling.{varint}
use Rattle.split_merge.proofs.lent_documents.spelled.Given as goal

abbrev pub invariant-loop-number : goal.invariant-loop-number
invariant-loop-number l = l.all.items ≡ map varint (take l.number-index l.numbers)
