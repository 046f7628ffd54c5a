use Rattle.std.proofs.Common.{◌≡◌, drop, ◌<◌, ◌^◌}
use Rattle.query_ast.specs.Spelled.{number_from}
use Rattle.query_ast.proofs.values.digits.Given as goal

abbrev pub invariant-loop-byte : goal.invariant-loop-byte
invariant-loop-byte l = (number_from l.number (drop l.byte-index l.text) ≡ number_from 0 l.text) × (l.number < 2 ^ 64)
