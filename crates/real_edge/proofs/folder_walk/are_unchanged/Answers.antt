use Rattle.real_edge.proofs.Wheres.{leaves_all, leaves_then}
use Rattle.real_edge.proofs.folder_walk.are_unchanged.Goals as goal

pub loop-folder-init : goal.loop-folder-init
loop-folder-init g c = leaves_all (g.D.Disk.told c.args.disk.now) (g.D.Disk.may_leave c.args.disk.now) (g.D.Disk.has_way c.args.disk.now)

pub returns-then-not-is_unchanged : goal.returns-then-not-is_unchanged
returns-then-not-is_unchanged g c =
    let told = g.D.Disk.told in
    let left = g.D.Disk.may_leave in
    let way = g.D.Disk.has_way in
    let a = c.args.disk.now in
    let b = c.loop-folder.disk in
    let d = c.is_unchanged.new.disk in
    leaves_then (told a) (told b) (told d) (left a) (left b) (left d) (way a) (way b) (way d) c.loop-folder.invariant c.is_unchanged.ensures

pub loop-folder-preserved : goal.loop-folder-preserved
loop-folder-preserved g c =
    let told = g.D.Disk.told in
    let left = g.D.Disk.may_leave in
    let way = g.D.Disk.has_way in
    let a = c.args.disk.now in
    let b = c.loop-folder.disk in
    let d = c.is_unchanged.new.disk in
    leaves_then (told a) (told b) (told d) (left a) (left b) (left d) (way a) (way b) (way d) c.loop-folder.invariant c.is_unchanged.ensures
