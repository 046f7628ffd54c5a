use Rattle.std.proofs.Common.{◌≡◌, drop}
use Rattle.query_reader.specs.Resolve.{number_of}
use Rattle.query_reader.proofs.resolve.number_of.Given as goal

abbrev pub invariant-loop-number : goal.invariant-loop-number
invariant-loop-number l = number_of (drop l.number l.fields) l.path l.number ≡ number_of l.fields l.path 0
