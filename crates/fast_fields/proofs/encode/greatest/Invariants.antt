use Rattle.std.proofs.Common.{◌≡◌, drop, max}
use Rattle.fast_fields.specs.Columns.{numbers, greatest_of}
use Rattle.fast_fields.proofs.encode.greatest.Given as goal

abbrev pub invariant-loop-entry : goal.invariant-loop-entry
invariant-loop-entry l = max (greatest_of (numbers (drop l.entry-index l.entries))) l.greatest ≡ greatest_of (numbers l.entries)
