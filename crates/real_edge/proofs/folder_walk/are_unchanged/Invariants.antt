use Rattle.real_edge.specs.Disk.{Leaves}
use Rattle.real_edge.proofs.folder_walk.are_unchanged.Given as goal

abbrev pub invariant-loop-folder : goal.invariant-loop-folder
invariant-loop-folder g l = Leaves (g.D.Disk.told l.fn.disk) (g.D.Disk.told l.disk) (g.D.Disk.may_leave l.fn.disk) (g.D.Disk.may_leave l.disk) (g.D.Disk.has_way l.fn.disk) (g.D.Disk.has_way l.disk)
