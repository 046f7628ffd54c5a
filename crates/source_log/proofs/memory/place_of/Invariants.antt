use Rattle.std.proofs.Common.{◌≡◌}
use Rattle.source_log.specs.Memory.{place_of}
use Rattle.source_log.proofs.Places.{sought}
use Rattle.source_log.proofs.memory.place_of.Given as goal

abbrev pub invariant-loop-i : goal.invariant-loop-i
invariant-loop-i l = sought l.partition l.parts l.i ≡ place_of l.partition l.parts
