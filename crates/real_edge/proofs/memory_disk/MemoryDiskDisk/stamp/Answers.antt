use Rattle.std.proofs.Common.{Some}
use Rattle.std.specs.Prelude.{⊤}
use Rattle.real_edge.specs.MemoryDisk.{IsLeft}
use Rattle.real_edge.proofs.Wheres.{leaves_all}
use Rattle.real_edge.proofs.memory_disk.MemoryDiskDisk.stamp.Goals as goal

pub returns : goal.returns
returns c = leaves_all (Some c.args.self.now.files.objects) (IsLeft c.args.self.now.files.objects c.args.self.now.synced.objects) (λ q. ⊤)
