use Rattle.std.proofs.Common.{◌≡◌, drop}
use Rattle.query_ast.specs.Spelled.{are_digits}
use Rattle.query_ast.proofs.values.is_digits.Given as goal

abbrev pub invariant-loop-byte : goal.invariant-loop-byte
invariant-loop-byte l = are_digits (drop l.byte-index l.text) ≡ are_digits l.text
