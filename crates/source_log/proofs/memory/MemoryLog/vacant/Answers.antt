use Rattle.source_log.proofs.Places.{log_vacant}
use Rattle.source_log.proofs.memory.MemoryLog.vacant.Goals as goal

pub invariant_of-result : goal.invariant_of-result
invariant_of-result c = rw c.new.ensures.items log_vacant
