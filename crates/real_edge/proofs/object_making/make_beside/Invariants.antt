use Rattle.std.proofs.Common.{◌≡◌, List, ℕ}
use Rattle.real_edge.specs.Disk.{Where}
use Rattle.real_edge.specs.Objects.{KeepsObjects}
use Rattle.real_edge.proofs.object_making.make_beside.Given as goal

abbrev pub invariant-loop : goal.invariant-loop
invariant-loop g l = record {
  keeps : Where (g.D.Disk.told l.initial.disk) (g.D.Disk.told l.disk) (KeepsObjects (g.D.Disk.may_leave l.initial.disk) (g.D.Disk.may_leave l.disk));
  ways : (q : List ℕ) → g.D.Disk.has_way l.initial.disk q → g.D.Disk.has_way l.disk q;
}
