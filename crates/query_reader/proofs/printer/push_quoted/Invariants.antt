use Rattle.std.proofs.Common.{◌≡◌, ◌++◌, drop}
use Rattle.query_reader.specs.Printed.{hiding, hides_in_quote}
use Rattle.query_reader.proofs.printer.push_quoted.Given as goal

abbrev pub invariant-loop-byte : goal.invariant-loop-byte
invariant-loop-byte l = l.out.items ++ hiding hides_in_quote (drop l.byte-index l.text) ≡ l.fn.out.items ++ hiding hides_in_quote l.text
