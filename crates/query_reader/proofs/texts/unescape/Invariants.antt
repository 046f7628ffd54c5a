use Rattle.std.proofs.Common.{◌≡◌, ◌++◌, drop, false}
use Rattle.query_reader.specs.Texts.{unescaped_from}
use Rattle.query_reader.proofs.texts.unescape.Given as goal

abbrev pub invariant-loop-byte : goal.invariant-loop-byte
invariant-loop-byte l = l.out.items ++ unescaped_from l.hidden (drop l.byte-index l.bytes) ≡ unescaped_from false l.bytes
