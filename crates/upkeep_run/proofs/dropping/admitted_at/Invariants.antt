use Rattle.std.proofs.Common.{take}
use Rattle.upkeep_run.specs.Dropping.{IsAdmitted, place_at}
use Rattle.upkeep_run.proofs.dropping.admitted_at.Given as goal

abbrev pub invariant-loop-span : goal.invariant-loop-span
invariant-loop-span l = IsAdmitted (take l.span-index l.spans) l.upto (place_at l.at) l.admitted
