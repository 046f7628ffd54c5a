use Rattle.std.proofs.Common.{Option, sym, subst, ◌≡◌, take}
use Rattle.std.specs.Prelude.{IfOk, IfSome}
use Rattle.std.specs.Option.{option_copied}
use Rattle.object_store.specs.Store.{listed}
use Rattle.real_edge.specs.Disk.{Files}
use Rattle.real_edge.specs.Objects.{KeepsObjects, objects_of}
use Rattle.real_edge.specs.Walk.{IsCovering}
use Rattle.real_edge.proofs.Wheres.{where_leaves}
use Rattle.real_edge.proofs.Calls.{walk_kept}
use Rattle.real_edge.proofs.object_calls.keys_of.Goals as goal

pub returns-in_err-begin-clause-keeps : goal.returns-in_err-begin-clause-keeps
returns-in_err-begin-clause-keeps g c = c.begin.ensures

pub page_of-requires : goal.page_of-requires
page_of-requires g c =
    let told = g.D.Disk.told in
    let left = g.D.Disk.may_leave in
    let a = c.args.disk.now in
    let b = c.begin.new.disk in
    walk_kept (told a) (told b) c.args.walk {P = KeepsObjects (left a) (left b)} (λ o n p q is. p.same q is) c.requires c.begin.ensures

pub returns-clause-keeps : goal.returns-clause-keeps
returns-clause-keeps g c =
    let told = g.D.Disk.told in
    let left = g.D.Disk.may_leave in
    let a = c.args.disk.now in
    let b = c.begin.new.disk in
    let d = c.page_of.new.disk in
    where_leaves (told a) (told b) (told d) (left a) (left b) (left d) c.begin.ensures c.page_of.ensures.leaves.same c.page_of.ensures.leaves.left

pub returns-clause-keys : goal.returns-clause-keys
returns-clause-keys g c =
    subst (λ (x : Option Files). IfOk c.page_of.result (λ page. IfSome x (λ files. page.keys ≡ take c.args.max (listed c.args.prefix.now (option_copied c.args.after) (objects_of files))))) (sym c.page_of.ensures.leaves.same) c.page_of.ensures.keys

pub returns-clause-covers : goal.returns-clause-covers
returns-clause-covers g c =
    subst (λ (x : Option Files). IfOk c.page_of.result (λ page. IfSome x (λ files. IfSome page.walk (λ walk. IsCovering walk files)))) (sym c.page_of.ensures.leaves.same) c.page_of.ensures.covers
