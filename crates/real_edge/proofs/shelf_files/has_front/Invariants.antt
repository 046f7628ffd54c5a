use Rattle.std.proofs.Common.{take}
use Rattle.std.specs.Prelude.{Contains}
use Rattle.real_edge.specs.declared.shelf_files.Object.{Object}
use Rattle.real_edge.specs.Disk.{Begins}
use Rattle.real_edge.proofs.shelf_files.has_front.Given as goal

abbrev pub invariant-loop-object : goal.invariant-loop-object
invariant-loop-object l = (o : Object) → Contains (take l.object-index l.objects) o → Begins l.front o.key → ⊥
