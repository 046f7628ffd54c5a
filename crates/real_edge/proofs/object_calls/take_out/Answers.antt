use Rattle.real_edge.proofs.Wheres.{where_left}
use Rattle.real_edge.proofs.Steps.{where_untaken, where_takes}
use Rattle.real_edge.proofs.object_calls.take_out.Goals as goal

pub returns-in-Err : goal.returns-in-Err
returns-in-Err g c =
    let told = g.D.Disk.told in
    let left = g.D.Disk.may_leave in
    let way = g.D.Disk.has_way in
    let a = c.args.disk.now in
    let b = c.claim.new.self in
    where_untaken (told a) (told b) c.args.key.now _ c.args.is_lost.now (left a) (left b) c.requires (where_left (told a) (told b) (left a) (left b) (way a) (way b) c.claim.ensures)

pub returns-then-not-is_writer : goal.returns-then-not-is_writer
returns-then-not-is_writer g c =
    let told = g.D.Disk.told in
    let left = g.D.Disk.may_leave in
    let way = g.D.Disk.has_way in
    let a = c.args.disk.now in
    let b = c.claim.new.self in
    where_untaken (told a) (told b) c.args.key.now c.of.result c.args.is_lost.now (left a) (left b) c.requires (where_left (told a) (told b) (left a) (left b) (way a) (way b) c.claim.ensures)

pub returns : goal.returns
returns g c =
    let told = g.D.Disk.told in
    let left = g.D.Disk.may_leave in
    let way = g.D.Disk.has_way in
    let a = c.args.disk.now in
    let b = c.claim.new.self in
    let d = c.remove_object.new.disk in
    where_takes (told a) (told b) (told d) c.args.key.now c.remove_object.result c.remove_object.new.is_lost (left a) (left b) (left d) (where_left (told a) (told b) (left a) (left b) (way a) (way b) c.claim.ensures)
    (rw c.as_bytes.ensures.bytes at c.remove_object.ensures)
