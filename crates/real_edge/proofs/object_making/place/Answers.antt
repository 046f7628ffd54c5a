use Rattle.real_edge.proofs.Wheres.{leaves_then, where_left}
use Rattle.real_edge.proofs.Steps.{where_placed, where_stood, where_failed, where_refused}
use Rattle.real_edge.proofs.object_making.place.Goals as goal

pub returns-in-Ok-Nothing : goal.returns-in-Ok-Nothing
returns-in-Ok-Nothing g c =
    let told = g.D.Disk.told in
    let left = g.D.Disk.may_leave in
    let way = g.D.Disk.has_way in
    let a = c.args.disk.now in
    let b = c.make_way.new.self in
    let d = c.look.new.self in
    let e = c.place_new.new.disk in
    where_placed (told a) (told d) (told e) c.args.name.now c.args.content.now c.place_new.result c.place_new.new.is_lost (left a) (left d) (left e)
    (where_left (told a) (told d) (left a) (left d) (way a) (way d)
    (leaves_then (told a) (told b) (told d) (left a) (left b) (left d) (way a) (way b) (way d) c.make_way.ensures.leaves c.look.ensures.leaves))
    c.place_new.ensures

pub returns-in-Ok-PlainFile : goal.returns-in-Ok-PlainFile
returns-in-Ok-PlainFile g c =
    let told = g.D.Disk.told in
    let left = g.D.Disk.may_leave in
    let way = g.D.Disk.has_way in
    let a = c.args.disk.now in
    let b = c.make_way.new.self in
    let d = c.look.new.self in
    where_stood (told a) (told b) (told d) c.args.name.now c.args.content.now c.args.is_lost.now (left a) (left b) (left d) (way a) (way b) (way d)
    c.requires.object c.requires.kept c.make_way.ensures.leaves c.look.ensures.leaves (rw c.in-Ok-PlainFile.field-0-is at c.in-Ok-PlainFile.ensures.looks)

pub returns-in-Err-Memory : goal.returns-in-Err-Memory
returns-in-Err-Memory g c =
    let told = g.D.Disk.told in
    let left = g.D.Disk.may_leave in
    let way = g.D.Disk.has_way in
    let a = c.args.disk.now in
    let b = c.make_way.new.self in
    where_refused (told a) (told b) c.args.name.now c.args.content.now _ c.args.is_lost.now (left a) (left b) c.requires.kept (where_left (told a) (told b) (left a) (left b) (way a) (way b) c.make_way.ensures.leaves)

pub returns-in-Err-Failed : goal.returns-in-Err-Failed
returns-in-Err-Failed g c =
    let told = g.D.Disk.told in
    let left = g.D.Disk.may_leave in
    let way = g.D.Disk.has_way in
    let a = c.args.disk.now in
    let b = c.make_way.new.self in
    where_failed (told a) (told b) c.args.name.now c.args.content.now _ c.args.is_lost.now (left a) (left b) c.requires.kept (where_left (told a) (told b) (left a) (left b) (way a) (way b) c.make_way.ensures.leaves)

pub returns-in-Ok-look : goal.returns-in-Ok-look
returns-in-Ok-look g c =
    let told = g.D.Disk.told in
    let left = g.D.Disk.may_leave in
    let way = g.D.Disk.has_way in
    let a = c.args.disk.now in
    let b = c.make_way.new.self in
    let d = c.look.new.self in
    where_failed (told a) (told d) c.args.name.now c.args.content.now _ c.args.is_lost.now (left a) (left d) c.requires.kept
    (where_left (told a) (told d) (left a) (left d) (way a) (way d) (leaves_then (told a) (told b) (told d) (left a) (left b) (left d) (way a) (way b) (way d) c.make_way.ensures.leaves c.look.ensures.leaves))

pub returns-in-Err : goal.returns-in-Err
returns-in-Err g c =
    let told = g.D.Disk.told in
    let left = g.D.Disk.may_leave in
    let way = g.D.Disk.has_way in
    let a = c.args.disk.now in
    let b = c.make_way.new.self in
    let d = c.look.new.self in
    where_failed (told a) (told d) c.args.name.now c.args.content.now _ c.args.is_lost.now (left a) (left d) c.requires.kept
    (where_left (told a) (told d) (left a) (left d) (way a) (way d) (leaves_then (told a) (told b) (told d) (left a) (left b) (left d) (way a) (way b) (way d) c.make_way.ensures.leaves c.look.ensures.leaves))
