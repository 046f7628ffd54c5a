use Rattle.std.proofs.Common.{◌≡◌, take}
use Rattle.source_log.specs.Log.{names_of}
use Rattle.source_log.proofs.memory.names_of.Given as goal

abbrev pub invariant-loop-part : goal.invariant-loop-part
invariant-loop-part l = l.names ≡ names_of (take l.part-index l.parts)
