use Rattle.real_edge.proofs.Steps.{where_placed, where_failed, where_refused}
use Rattle.real_edge.proofs.Walks.{object_from_key}
use Rattle.real_edge.proofs.object_calls.make.Goals as goal

pub returns-in-Err-Memory : goal.returns-in-Err-Memory
returns-in-Err-Memory g c =
    let told = g.D.Disk.told in
    let left = g.D.Disk.may_leave in
    let a = c.args.disk.now in
    let b = c.begin.new.disk in
    where_refused (told a) (told b) c.args.key.now c.args.content.now _ c.args.is_lost.now (left a) (left b) c.requires c.begin.ensures

pub returns-in-Err-Failed : goal.returns-in-Err-Failed
returns-in-Err-Failed g c =
    let told = g.D.Disk.told in
    let left = g.D.Disk.may_leave in
    let a = c.args.disk.now in
    let b = c.begin.new.disk in
    where_failed (told a) (told b) c.args.key.now c.args.content.now _ c.args.is_lost.now (left a) (left b) c.requires c.begin.ensures

pub place-requires : goal.place-requires
place-requires g c = record { object = object_from_key c.as_bytes.result.now c.as_bytes.ensures.key; kept = c.requires }

pub returns-in-Some : goal.returns-in-Some
returns-in-Some g c =
    let told = g.D.Disk.told in
    let left = g.D.Disk.may_leave in
    let a = c.args.disk.now in
    let b = c.begin.new.disk in
    let d = c.place.new.disk in
    where_placed (told a) (told b) (told d) c.args.key.now c.args.content.now c.place.result c.place.new.is_lost (left a) (left b) (left d) c.begin.ensures (rw c.as_bytes.ensures.bytes at c.place.ensures)

pub returns-in-None : goal.returns-in-None
returns-in-None g c =
    let told = g.D.Disk.told in
    let left = g.D.Disk.may_leave in
    let a = c.args.disk.now in
    let b = c.begin.new.disk in
    where_failed (told a) (told b) c.args.key.now c.args.content.now c.of.result c.args.is_lost.now (left a) (left b) c.requires c.begin.ensures
