use Rattle.real_edge.proofs.Steps.{gone_told, where_taken}
use Rattle.real_edge.proofs.object_calls.remove_object.Goals as goal

pub settle_removal-synced-requires : goal.settle_removal-synced-requires
settle_removal-synced-requires g c =
    let told = g.D.Disk.told in
    let left = g.D.Disk.may_leave in
    let a = c.args.disk.now in
    let d = c.remove-removed.new.self in
    gone_told (told a) (told d) c.args.name.now c.remove-removed.result (left a) (left d) c.remove-removed.ensures.step

pub returns : goal.returns
returns g c =
    let told = g.D.Disk.told in
    let left = g.D.Disk.may_leave in
    let way = g.D.Disk.has_way in
    let a = c.args.disk.now in
    let d = c.remove-removed.new.self in
    let s = c.settle_removal-synced.new.disk in
    let ends = where_taken (told a) (told d) (told s) c.args.name.now c.remove-removed.result c.settle_removal-synced.result (left a) (left d) (left s) (way d) (way s) c.remove-removed.ensures.step c.settle_removal-synced.ensures.leaves c.settle_removal-synced.ensures.seen in
    rw (c.taken.ensures, c.is_err.ensures.value) ends
