use Rattle.std.proofs.Common.{◌≡◌}
use Rattle.doc_tallies.proofs.classes.count_many.Given as goal

abbrev pub invariant-loop-step : goal.invariant-loop-step
invariant-loop-step l = l.classes.items ≡ l.initial.classes.items
