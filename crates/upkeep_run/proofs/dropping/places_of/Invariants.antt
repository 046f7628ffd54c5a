use Rattle.std.proofs.Common.{◌≡◌, take}
use Rattle.upkeep_run.proofs.dropping.places_of.Given as goal

abbrev pub invariant-loop-number : goal.invariant-loop-number
invariant-loop-number l = l.places.items ≡ take l.number-index l.number-items
