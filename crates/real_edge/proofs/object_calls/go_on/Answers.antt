use Rattle.std.proofs.Common.{Option, subst}
use Rattle.std.specs.Prelude.{IfOk, IfSome}
use Rattle.real_edge.specs.Disk.{Files}
use Rattle.real_edge.specs.Walk.{IsCovering}
use Rattle.real_edge.proofs.Wheres.{leaves_then}
use Rattle.real_edge.proofs.object_calls.go_on.Goals as goal

pub returns-then-can_go_on-clause-prefix : goal.returns-then-can_go_on-clause-prefix
returns-then-can_go_on-clause-prefix g c = c.can_go_on.ensures.prefix c.if-can_go_on.true

pub returns-then-can_go_on-clause-after : goal.returns-then-can_go_on-clause-after
returns-then-can_go_on-clause-after g c = c.can_go_on.ensures.after c.if-can_go_on.true

pub returns-then-can_go_on-clause-covers : goal.returns-then-can_go_on-clause-covers
returns-then-can_go_on-clause-covers g c = c.requires

pub returns-clause-leaves : goal.returns-clause-leaves
returns-clause-leaves g c =
    let told = g.D.Disk.told in
    let left = g.D.Disk.may_leave in
    let way = g.D.Disk.has_way in
    let a = c.args.disk.now in
    let b = c.can_go_on.new.disk in
    let d = c.start.new.disk in
    leaves_then (told a) (told b) (told d) (left a) (left b) (left d) (way a) (way b) (way d) c.can_go_on.ensures.leaves c.start.ensures.leaves

pub returns-clause-covers : goal.returns-clause-covers
returns-clause-covers g c = subst (λ (x : Option Files). IfOk c.start.result (λ walk. IfSome x (IsCovering walk))) c.can_go_on.ensures.leaves.same c.start.ensures.covers
