use Rattle.real_edge.proofs.Wheres.{where_left, where_keeps, where_leaves}
use Rattle.real_edge.proofs.leftovers.clear_folder.Goals as goal

pub returns-in_err-names : goal.returns-in_err-names
returns-in_err-names g c =
    let told = g.D.Disk.told in
    let left = g.D.Disk.may_leave in
    let way = g.D.Disk.has_way in
    let a = c.args.disk.now in
    let b = c.may_have_folders-has_folders.new.self in
    let d = c.names_of.new.disk in
    where_keeps (told a) (told b) (told d) (left a) (left b) (left d) (where_left (told a) (told b) (left a) (left b) (way a) (way b) c.may_have_folders-has_folders.ensures) c.names_of.ensures

pub loop-name-init : goal.loop-name-init
loop-name-init g c =
    let told = g.D.Disk.told in
    let left = g.D.Disk.may_leave in
    let way = g.D.Disk.has_way in
    let a = c.args.disk.now in
    let b = c.may_have_folders-has_folders.new.self in
    let d = c.names_of.new.disk in
    where_keeps (told a) (told b) (told d) (left a) (left b) (left d) (where_left (told a) (told b) (left a) (left b) (way a) (way b) c.may_have_folders-has_folders.ensures) c.names_of.ensures

pub returns-in_err-clear_name : goal.returns-in_err-clear_name
returns-in_err-clear_name g c =
    let told = g.D.Disk.told in
    let left = g.D.Disk.may_leave in
    let a = c.args.disk.now in
    let b = c.loop-name.disk in
    let d = c.clear_name.new.disk in
    where_keeps (told a) (told b) (told d) (left a) (left b) (left d) c.loop-name.invariant c.clear_name.ensures

pub loop-name-preserved : goal.loop-name-preserved
loop-name-preserved g c =
    let told = g.D.Disk.told in
    let left = g.D.Disk.may_leave in
    let a = c.args.disk.now in
    let b = c.loop-name.disk in
    let d = c.clear_name.new.disk in
    where_keeps (told a) (told b) (told d) (left a) (left b) (left d) c.loop-name.invariant c.clear_name.ensures

pub returns-in-Ok : goal.returns-in-Ok
returns-in-Ok g c =
    let told = g.D.Disk.told in
    let left = g.D.Disk.may_leave in
    let a = c.args.disk.now in
    let b = c.loop-name.disk in
    let d = c.sync.new.self in
    where_leaves (told a) (told b) (told d) (left a) (left b) (left d) c.loop-name.invariant c.sync.ensures.leaves.same c.sync.ensures.leaves.left

pub returns : goal.returns
returns g c =
    let told = g.D.Disk.told in
    let left = g.D.Disk.may_leave in
    let a = c.args.disk.now in
    let b = c.loop-name.disk in
    let d = c.sync.new.self in
    where_leaves (told a) (told b) (told d) (left a) (left b) (left d) c.loop-name.invariant c.sync.ensures.leaves.same c.sync.ensures.leaves.left
