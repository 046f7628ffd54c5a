use Rattle.std.proofs.Common.{refl, inr}
use Rattle.real_edge.proofs.Lasting.{taken, stays}
use Rattle.std.proofs.Common.{None}
use Rattle.real_edge.proofs.memory_disk.MemoryDiskDisk.remove.Goals as goal

pub returns-then-is_err-clause-step : goal.returns-then-is_err-clause-step
returns-then-is_err-clause-step c = (inr refl, stays c.args.self.now.files.objects c.args.self.now.synced.objects c.args.name.now None)

pub returns-clause-step : goal.returns-clause-step
returns-clause-step c = taken c.args.self.now.files.objects c.take_out.new.self.objects c.args.self.now.synced.objects c.args.name.now c.take_out.ensures.objects
