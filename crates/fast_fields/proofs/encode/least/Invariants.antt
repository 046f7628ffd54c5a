use Rattle.std.proofs.Common.{◌≡◌, ◌∷◌, drop}
use Rattle.fast_fields.specs.Columns.{numbers, least_of}
use Rattle.fast_fields.proofs.encode.least.Given as goal

abbrev pub invariant-loop-entry : goal.invariant-loop-entry
invariant-loop-entry l = least_of (l.least ∷ numbers (drop l.entry-index l.behind)) ≡ least_of (numbers l.entries)
