use Rattle.std.proofs.Common.{◌≡◌, Bool, Result, sym, subst}
use Rattle.std.specs.Prelude.{is_err}
use Rattle.real_edge.proofs.Wheres.{where_map}
use Rattle.real_edge.proofs.Steps.{where_refused, where_failed, where_both, where_ended}
use Rattle.real_edge.specs.declared.disk.MakeError.{MakeError}
use Rattle.real_edge.specs.Disk.{Where}
use Rattle.real_edge.specs.Objects.{both_of, made_of, Places}
use Rattle.real_edge.proofs.object_making.place_new.Goals as goal

pub returns-in-Err-Memory : goal.returns-in-Err-Memory
returns-in-Err-Memory g c =
    let told = g.D.Disk.told in
    let left = g.D.Disk.may_leave in
    let a = c.args.disk.now in
    let b = c.make_beside.new.disk in
    where_refused (told a) (told b) c.args.name.now c.args.content.now _ c.args.is_lost.now (left a) (left b) c.requires.kept c.in-Err-Memory.ensures.failed

pub returns-in-Err-Failed : goal.returns-in-Err-Failed
returns-in-Err-Failed g c =
    let told = g.D.Disk.told in
    let left = g.D.Disk.may_leave in
    let a = c.args.disk.now in
    let b = c.make_beside.new.disk in
    where_failed (told a) (told b) c.args.name.now c.args.content.now _ c.args.is_lost.now (left a) (left b) c.requires.kept c.in-Err-Failed.ensures.failed

pub returns : goal.returns
returns g c =
    let told = g.D.Disk.told in
    let left = g.D.Disk.may_leave in
    let way = g.D.Disk.has_way in
    let a = c.args.disk.now in
    let b = c.make_beside.new.disk in
    let d = c.link-linked.new.self in
    let e = c.remove-removed.new.self in
    let s = c.sync-synced.new.self in
    let name = c.args.name.now in
    let content = c.args.content.now in
    let r = both_of c.link-linked.result c.remove-removed.result in
    let linked = where_both (told a) (told b) (told d) (told e) c.in-Ok.beside.items name content c.link-linked.result c.remove-removed.result (left a) (left b) (left d) (left e)
    c.requires.object c.in-Ok.ensures.name (g.met.D.Disk.seen_may_stay a) c.in-Ok.ensures.made
    (rw c.as_slice.ensures.value at c.link-linked.ensures.step) (rw c.as_slice-2.ensures.value at c.remove-removed.ensures.step) in
    let ends = where_ended (told a) (told e) (told s) name content r c.sync-synced.result (left a) (left e) (left s) (way e) (way s)
    (c.remove-removed.ensures.ways name (c.link-linked.ensures.ways name (c.make_beside.ensures.ways name c.requires.way)))
    linked c.sync-synced.ensures.leaves c.sync-synced.ensures.settled in
    rw (c.made.ensures, c.both.ensures, c.is_err.ensures.value) ends
