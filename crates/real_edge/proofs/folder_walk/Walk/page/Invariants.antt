use Rattle.std.proofs.Common.{◌≡◌, ◌≤◌, ◌++◌, length}
use Rattle.std.specs.Prelude.{IfSome}
use Rattle.real_edge.specs.Disk.{Leaves}
use Rattle.real_edge.specs.Walk.{IsCovering, left_of}
use Rattle.real_edge.proofs.folder_walk.Walk.page.Given as goal

abbrev pub invariant-loop : goal.invariant-loop
invariant-loop g l = record {
  leaves : Leaves (g.D.Disk.told l.fn.disk) (g.D.Disk.told l.disk) (g.D.Disk.may_leave l.fn.disk) (g.D.Disk.may_leave l.disk) (g.D.Disk.has_way l.fn.disk) (g.D.Disk.has_way l.disk);
  bound : length l.keys ≤ l.max;
  so_far : IfSome (g.D.Disk.told l.fn.disk) (λ files. (left_of l.fn.self files ≡ l.keys ++ left_of l.self files) × IsCovering l.self files);
}
