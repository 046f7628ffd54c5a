use Rattle.real_edge.proofs.Wheres.{where_all, where_left}
use Rattle.real_edge.proofs.leftovers.clear_name.Goals as goal

pub returns-then-not-is_object : goal.returns-then-not-is_object
returns-then-not-is_object g c = c.clear_beside.ensures

pub returns-then-not-has_folders : goal.returns-then-not-has_folders
returns-then-not-has_folders g c = where_all (g.D.Disk.told c.args.disk.now) (g.D.Disk.may_leave c.args.disk.now)

pub returns-in_err-push-in-Ok-Folder : goal.returns-in_err-push-in-Ok-Folder
returns-in_err-push-in-Ok-Folder g c =
    let told = g.D.Disk.told in
    let left = g.D.Disk.may_leave in
    let way = g.D.Disk.has_way in
    let a = c.args.disk.now in
    let b = c.look.new.self in
    where_left (told a) (told b) (left a) (left b) (way a) (way b) c.look.ensures.leaves

pub returns-in_err-push-in-Ok-Folder-2 : goal.returns-in_err-push-in-Ok-Folder-2
returns-in_err-push-in-Ok-Folder-2 g c =
    let told = g.D.Disk.told in
    let left = g.D.Disk.may_leave in
    let way = g.D.Disk.has_way in
    let a = c.args.disk.now in
    let b = c.look.new.self in
    where_left (told a) (told b) (left a) (left b) (way a) (way b) c.look.ensures.leaves

pub returns-in_ok-push-in-Ok-Folder-2 : goal.returns-in_ok-push-in-Ok-Folder-2
returns-in_ok-push-in-Ok-Folder-2 g c =
    let told = g.D.Disk.told in
    let left = g.D.Disk.may_leave in
    let way = g.D.Disk.has_way in
    let a = c.args.disk.now in
    let b = c.look.new.self in
    where_left (told a) (told b) (left a) (left b) (way a) (way b) c.look.ensures.leaves

pub returns-in_default : goal.returns-in_default
returns-in_default g c =
    let told = g.D.Disk.told in
    let left = g.D.Disk.may_leave in
    let way = g.D.Disk.has_way in
    let a = c.args.disk.now in
    let b = c.look.new.self in
    where_left (told a) (told b) (left a) (left b) (way a) (way b) c.look.ensures.leaves
