use Rattle.std.proofs.Common.{Some}
use Rattle.std.specs.Prelude.{⊤}
use Rattle.real_edge.specs.MemoryDisk.{IsLeft}
use Rattle.real_edge.proofs.Wheres.{leaves_all}
use Rattle.std.proofs.lemmas.Result.{IfOk-weaker}
use Rattle.real_edge.proofs.memory_disk.MemoryDiskDisk.read.Goals as goal

pub returns-then-is_err-clause-leaves : goal.returns-then-is_err-clause-leaves
returns-then-is_err-clause-leaves c = leaves_all (Some c.args.self.now.files.objects) (IsLeft c.args.self.now.files.objects c.args.self.now.synced.objects) (λ q. ⊤)

pub returns-in-None-clause-leaves : goal.returns-in-None-clause-leaves
returns-in-None-clause-leaves c = leaves_all (Some c.args.self.now.files.objects) (IsLeft c.args.self.now.files.objects c.args.self.now.synced.objects) (λ q. ⊤)

pub returns-in-Some-clause-leaves : goal.returns-in-Some-clause-leaves
returns-in-Some-clause-leaves c = leaves_all (Some c.args.self.now.files.objects) (IsLeft c.args.self.now.files.objects c.args.self.now.synced.objects) (λ q. ⊤)

pub returns-in-Some-clause-finds : goal.returns-in-Some-clause-finds
returns-in-Some-clause-finds c = IfOk-weaker c.found_piece.result _ _ (λ found h. h c.args.self.now.files.objects c.args.name.now c.in-Some.ensures) c.found_piece.ensures.reads
