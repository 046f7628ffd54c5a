use Rattle.real_edge.proofs.Wheres.{leaves_then}
use Rattle.real_edge.proofs.Steps.{seen_settled}
use Rattle.real_edge.proofs.object_calls.settle.Goals as goal

pub returns-in-Ok-clause-leaves : goal.returns-in-Ok-clause-leaves
returns-in-Ok-clause-leaves g c =
    let told = g.D.Disk.told in
    let left = g.D.Disk.may_leave in
    let way = g.D.Disk.has_way in
    let a = c.args.disk.now in
    let b = c.make_way.new.self in
    let d = c.sync.new.self in
    leaves_then (told a) (told b) (told d) (left a) (left b) (left d) (way a) (way b) (way d) c.make_way.ensures.leaves c.sync.ensures.leaves

pub returns-in-Ok-clause-seen : goal.returns-in-Ok-clause-seen
returns-in-Ok-clause-seen g c =
    let told = g.D.Disk.told in
    let left = g.D.Disk.may_leave in
    let way = g.D.Disk.has_way in
    let a = c.args.disk.now in
    let b = c.make_way.new.self in
    let d = c.sync.new.self in
    seen_settled (told a) (told b) c.args.name.now c.sync.result (left d) (way b) c.make_way.ensures.leaves.same c.in-Ok.ensures.way c.sync.ensures.settled
