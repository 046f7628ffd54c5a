use Rattle.std.proofs.Common.{◌≡◌, take}
use Rattle.source_log.proofs.memory.copied.Given as goal

abbrev pub invariant-loop-bytes : goal.invariant-loop-bytes
invariant-loop-bytes l = l.list ≡ take l.bytes-index l.records
