use Rattle.real_edge.specs.Disk.{Where}
use Rattle.real_edge.specs.Objects.{KeepsObjects}
use Rattle.real_edge.proofs.leftovers.clear_folder.Given as goal

abbrev pub invariant-loop-name : goal.invariant-loop-name
invariant-loop-name g l = Where (g.D.Disk.told l.fn.disk) (g.D.Disk.told l.disk) (KeepsObjects (g.D.Disk.may_leave l.fn.disk) (g.D.Disk.may_leave l.disk))
