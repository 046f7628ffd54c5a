use Rattle.real_edge.proofs.Dying.{not_removed}
use Rattle.real_edge.proofs.dying_disk.DyingDiskDisk.remove.Goals as goal

pub returns-then-not-is_on-clause-step : goal.returns-then-not-is_on-clause-step
returns-then-not-is_on-clause-step g c = not_removed (g.D.Disk.told c.args.self.now.disk) c.args.name.now c.no_power.result (g.D.Disk.may_leave c.args.self.now.disk)
