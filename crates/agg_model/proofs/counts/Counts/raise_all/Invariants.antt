use Rattle.std.proofs.Common.{take}
use Rattle.agg_model.specs.Partials.{AreRaised}
use Rattle.agg_model.proofs.counts.Counts.raise_all.Given as goal

abbrev pub invariant-loop-value : goal.invariant-loop-value
invariant-loop-value l = AreRaised l.number (take l.value-index l.values) l.initial.self l.self
