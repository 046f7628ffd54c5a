use Rattle.real_edge.proofs.Wheres.{where_all, where_left}
use Rattle.real_edge.proofs.Steps.{where_removed}
use Rattle.real_edge.proofs.leftovers.clear_beside.Goals as goal

pub returns-then-not-is_of_beside : goal.returns-then-not-is_of_beside
returns-then-not-is_of_beside g c = where_all (g.D.Disk.told c.args.disk.now) (g.D.Disk.may_leave c.args.disk.now)

pub returns-in-Ok-PlainFile : goal.returns-in-Ok-PlainFile
returns-in-Ok-PlainFile g c =
    let told = g.D.Disk.told in
    let left = g.D.Disk.may_leave in
    let a = c.args.disk.now in
    let b = c.look.new.self in
    let d = c.remove.new.self in
    where_removed (told a) (told b) (told d) c.args.path.now c.remove.result (left a) (left b) (left d) c.requires (where_left (told a) (told b) (left a) (left b) (g.D.Disk.has_way a) (g.D.Disk.has_way b) c.look.ensures.leaves) c.remove.ensures.step

pub returns-else-not-is_of_beside : goal.returns-else-not-is_of_beside
returns-else-not-is_of_beside g c =
    let told = g.D.Disk.told in
    let left = g.D.Disk.may_leave in
    let way = g.D.Disk.has_way in
    let a = c.args.disk.now in
    let b = c.look.new.self in
    where_left (told a) (told b) (left a) (left b) (way a) (way b) c.look.ensures.leaves

pub returns-else-not-is_of_beside-2 : goal.returns-else-not-is_of_beside-2
returns-else-not-is_of_beside-2 g c =
    let told = g.D.Disk.told in
    let left = g.D.Disk.may_leave in
    let way = g.D.Disk.has_way in
    let a = c.args.disk.now in
    let b = c.look.new.self in
    where_left (told a) (told b) (left a) (left b) (way a) (way b) c.look.ensures.leaves
