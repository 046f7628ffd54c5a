use Rattle.real_edge.specs.Disk.{Where}
use Rattle.real_edge.specs.Objects.{KeepsObjects}
use Rattle.real_edge.proofs.leftovers.clear.Given as goal

abbrev pub invariant-loop : goal.invariant-loop
invariant-loop g l = Where (g.D.Disk.told l.fn.disk) (g.D.Disk.told l.disk) (KeepsObjects (g.D.Disk.may_leave l.fn.disk) (g.D.Disk.may_leave l.disk))
