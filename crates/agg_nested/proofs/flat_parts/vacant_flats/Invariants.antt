use Rattle.std.proofs.Common.{take, []}
use Rattle.agg_nested.specs.Partials.{AreStanding}
use Rattle.agg_nested.proofs.flat_parts.vacant_flats.Given as goal

abbrev pub invariant-loop-named : goal.invariant-loop-named
invariant-loop-named l = AreStanding (take l.named-index l.nested) l.parts.items []
