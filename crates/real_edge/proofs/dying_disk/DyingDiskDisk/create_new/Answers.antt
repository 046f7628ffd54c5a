use Rattle.real_edge.proofs.Dying.{not_made}
use Rattle.real_edge.proofs.dying_disk.DyingDiskDisk.create_new.Goals as goal

pub returns-then-not-is_on-clause-step : goal.returns-then-not-is_on-clause-step
returns-then-not-is_on-clause-step g c = not_made (g.D.Disk.told c.args.self.now.disk) c.args.name.now c.args.content.now c.no_power.result (g.D.Disk.may_leave c.args.self.now.disk)
