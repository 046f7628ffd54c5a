use Rattle.std.proofs.Common.{Option, sym, subst, ◌≡◌, ◌∙◌, take}
use Rattle.std.specs.Prelude.{IfOk, IfSome}
use Rattle.real_edge.specs.declared.folder_walk.Walk.{Walk}
use Rattle.real_edge.specs.Disk.{Files}
use Rattle.real_edge.specs.Walk.{IsCovering}
use Rattle.real_edge.proofs.Wheres.{leaves_then, if_left, if_map}
use Rattle.real_edge.proofs.Meetings.{page_keys}
use Rattle.real_edge.proofs.object_calls.page_of.Goals as goal

pub walk_to-requires : goal.walk_to-requires
walk_to-requires g c = c.requires

pub returns-in_err-walk-clause-leaves : goal.returns-in_err-walk-clause-leaves
returns-in_err-walk-clause-leaves g c = c.walk_to.ensures.leaves

pub page-requires : goal.page-requires
page-requires g c =
    let told = g.D.Disk.told in
    if_left (told c.args.disk.now) (told c.walk_to.new.disk) (IsCovering c.in_ok-walk.walk) c.walk_to.ensures.leaves.same c.in_ok-walk.ensures.covers

pub returns-in_err-keys-clause-leaves : goal.returns-in_err-keys-clause-leaves
returns-in_err-keys-clause-leaves g c =
    let told = g.D.Disk.told in
    let left = g.D.Disk.may_leave in
    let way = g.D.Disk.has_way in
    let a = c.args.disk.now in
    let b = c.walk_to.new.disk in
    let d = c.page.new.disk in
    leaves_then (told a) (told b) (told d) (left a) (left b) (left d) (way a) (way b) (way d) c.walk_to.ensures.leaves c.page.ensures.leaves

pub rested-walk-requires : goal.rested-walk-requires
rested-walk-requires g c =
    let told = g.D.Disk.told in
    if_left (told c.walk_to.new.disk) (told c.page.new.disk) (IsCovering c.page.new.self) c.page.ensures.leaves.same c.in_ok-keys.ensures.covers

pub returns-clause-leaves : goal.returns-clause-leaves
returns-clause-leaves g c =
    let told = g.D.Disk.told in
    let left = g.D.Disk.may_leave in
    let way = g.D.Disk.has_way in
    let a = c.args.disk.now in
    let b = c.walk_to.new.disk in
    let d = c.page.new.disk in
    let e = c.rested-walk.new.disk in
    leaves_then (told a) (told b) (told e) (left a) (left b) (left e) (way a) (way b) (way e) c.walk_to.ensures.leaves
    (leaves_then (told b) (told d) (told e) (left b) (left d) (left e) (way b) (way d) (way e) c.page.ensures.leaves c.rested-walk.ensures.leaves)

pub returns-clause-keys : goal.returns-clause-keys
returns-clause-keys g c =
    page_keys (g.D.Disk.told c.args.disk.now) (g.D.Disk.told c.walk_to.new.disk) c.in_ok-walk.walk c.in_ok-keys.keys c.args.prefix.now _ c.args.max c.walk_to.ensures.leaves.same c.in_ok-walk.ensures.prefix c.in_ok-walk.ensures.after c.in_ok-keys.ensures.keys

pub returns-clause-covers : goal.returns-clause-covers
returns-clause-covers g c =
    subst (λ (x : Option Files). IfSome x (λ files. IfSome c.rested-walk.result (λ walk. IsCovering walk files))) (c.page.ensures.leaves.same ∙ c.walk_to.ensures.leaves.same) c.rested-walk.ensures.covers
