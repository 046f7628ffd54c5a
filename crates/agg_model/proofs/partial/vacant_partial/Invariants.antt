use Rattle.std.proofs.Common.{◌≡◌, length}
use Rattle.std.specs.List.{All}
use Rattle.agg_model.specs.Partials.{IsVacant}
use Rattle.agg_model.proofs.partial.vacant_partial.Given as goal

abbrev pub invariant-loop-named : goal.invariant-loop-named
invariant-loop-named l = (length l.parts.items ≡ l._named-index) × All IsVacant l.parts.items
