use Rattle.std.proofs.Common.{◌≡◌, take}
use Rattle.real_edge.proofs.shelf_files.copied.Given as goal

abbrev pub invariant-loop-object : goal.invariant-loop-object
invariant-loop-object l = l.copy.items ≡ take l.object-index l.objects
