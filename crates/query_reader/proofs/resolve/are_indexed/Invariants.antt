use Rattle.std.proofs.Common.{◌≡◌, drop}
use Rattle.query_reader.specs.Resolve.{all_indexed}
use Rattle.query_reader.proofs.resolve.are_indexed.Given as goal

abbrev pub invariant-loop-number : goal.invariant-loop-number
invariant-loop-number l = all_indexed l.fields (drop l.number-index l.numbers) ≡ all_indexed l.fields l.numbers
