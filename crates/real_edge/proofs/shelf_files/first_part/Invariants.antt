use Rattle.std.proofs.Common.{◌≡◌, ◌++◌, take, drop}
use Rattle.real_edge.specs.Disk.{first_part}
use Rattle.real_edge.proofs.shelf_files.first_part.Given as goal

abbrev pub invariant-loop-at : goal.invariant-loop-at
invariant-loop-at l = first_part l.name ≡ take l.at l.name ++ first_part (drop l.at l.name)
