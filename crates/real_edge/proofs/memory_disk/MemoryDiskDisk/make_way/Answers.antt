use Rattle.std.proofs.Common.{Some}
use Rattle.std.specs.Prelude.{⊤}
use Rattle.real_edge.specs.MemoryDisk.{IsLeft}
use Rattle.real_edge.proofs.Wheres.{leaves_all}
use Rattle.real_edge.proofs.memory_disk.MemoryDiskDisk.make_way.Goals as goal

pub returns-then-is_err-clause-leaves : goal.returns-then-is_err-clause-leaves
returns-then-is_err-clause-leaves c = leaves_all (Some c.args.self.now.files.objects) (IsLeft c.args.self.now.files.objects c.args.self.now.synced.objects) (λ q. ⊤)

pub returns-clause-leaves : goal.returns-clause-leaves
returns-clause-leaves c = leaves_all (Some c.args.self.now.files.objects) (IsLeft c.args.self.now.files.objects c.args.self.now.synced.objects) (λ q. ⊤)
