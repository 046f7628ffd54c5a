use Rattle.real_edge.proofs.Wheres.{where_left, where_keeps}
use Rattle.real_edge.proofs.object_calls.begin.Goals as goal

pub returns-in-Err : goal.returns-in-Err
returns-in-Err g c =
    let told = g.D.Disk.told in
    let left = g.D.Disk.may_leave in
    let way = g.D.Disk.has_way in
    let a = c.args.disk.now in
    let b = c.claim.new.self in
    where_left (told a) (told b) (left a) (left b) (way a) (way b) c.claim.ensures

pub returns-in-Some : goal.returns-in-Some
returns-in-Some g c =
    let told = g.D.Disk.told in
    let left = g.D.Disk.may_leave in
    let way = g.D.Disk.has_way in
    let a = c.args.disk.now in
    let b = c.claim.new.self in
    let d = c.clear_once.new.disk in
    where_keeps (told a) (told b) (told d) (left a) (left b) (left d) (where_left (told a) (told b) (left a) (left b) (way a) (way b) c.claim.ensures) c.clear_once.ensures

pub returns-in-None : goal.returns-in-None
returns-in-None g c =
    let told = g.D.Disk.told in
    let left = g.D.Disk.may_leave in
    let way = g.D.Disk.has_way in
    let a = c.args.disk.now in
    let b = c.claim.new.self in
    where_left (told a) (told b) (left a) (left b) (way a) (way b) c.claim.ensures
