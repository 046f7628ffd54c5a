use Rattle.real_edge.proofs.Wheres.{where_all, where_keeps}
use Rattle.real_edge.proofs.leftovers.clear.Goals as goal

pub returns-in_err-push : goal.returns-in_err-push
returns-in_err-push g c = where_all (g.D.Disk.told c.args.disk.now) (g.D.Disk.may_leave c.args.disk.now)

pub loop-init : goal.loop-init
loop-init g c = where_all (g.D.Disk.told c.args.disk.now) (g.D.Disk.may_leave c.args.disk.now)

pub returns-in_err-clear_folder : goal.returns-in_err-clear_folder
returns-in_err-clear_folder g c =
    let told = g.D.Disk.told in
    let left = g.D.Disk.may_leave in
    let a = c.args.disk.now in
    let b = c.loop.disk in
    let d = c.clear_folder.new.disk in
    where_keeps (told a) (told b) (told d) (left a) (left b) (left d) c.loop.invariant c.clear_folder.ensures

pub loop-preserved : goal.loop-preserved
loop-preserved g c =
    let told = g.D.Disk.told in
    let left = g.D.Disk.may_leave in
    let a = c.args.disk.now in
    let b = c.loop.disk in
    let d = c.clear_folder.new.disk in
    where_keeps (told a) (told b) (told d) (left a) (left b) (left d) c.loop.invariant c.clear_folder.ensures
