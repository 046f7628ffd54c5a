use Rattle.std.proofs.Common.{Option, subst}
use Rattle.std.specs.Prelude.{IfSome}
use Rattle.real_edge.specs.declared.folder_walk.Walk.{Walk}
use Rattle.real_edge.specs.Walk.{IsCovering}
use Rattle.real_edge.proofs.object_calls.walk_to.Goals as goal

pub go_on-requires : goal.go_on-requires
go_on-requires g c = subst (λ (o : Option Walk). IfSome (g.D.Disk.told c.args.disk.now) (λ files. IfSome o (λ walk. IsCovering walk files))) c.in-Some.is c.requires
