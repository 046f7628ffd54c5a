use Rattle.std.proofs.Common.{◌≡◌, ◌++◌, drop, length}
use Rattle.std.specs.List.{flat_map}
use Rattle.byte_fields.specs.Spelling.{varint, byte_string}
use Rattle.fast_fields.specs.Texts.{texts_in}
use Rattle.fast_fields.proofs.encode.put_texts.Given as goal

abbrev pub invariant-loop-text : goal.invariant-loop-text
invariant-loop-text l = l.out.items ++ flat_map byte_string (texts_in (drop l.text-index l.texts)) ≡ l.fn.out.items ++ (varint (length l.texts) ++ flat_map byte_string (texts_in l.texts))
