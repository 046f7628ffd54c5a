use Rattle.std.proofs.Common.{inr, ap}
use Rattle.std.specs.FinMap as finmap
use Rattle.real_edge.specs.Disk.{Files}
use Rattle.real_edge.proofs.memory_disk.MemoryDisk.crash.Goals as goal

pub returns-clause-left : goal.returns-clause-left
returns-clause-left c = λ q. inr (ap (λ (f : Files). finmap.get f q) c.in_ok-files.ensures)
