use Rattle.std.proofs.Common.{take, drop, length}
use Rattle.std.specs.Prelude.{Contains}
use Rattle.real_edge.specs.declared.shelf_files.Object.{Object}
use Rattle.real_edge.specs.Disk.{Begins, first_part}
use Rattle.real_edge.proofs.shelf_files.parts.Given as goal

abbrev pub invariant-loop-object : goal.invariant-loop-object
invariant-loop-object l = (o : Object) → Contains (take l.object-index l.objects) o → Begins l.folder o.key → Contains l.names (first_part (drop (length l.folder) o.key))
