use Rattle.real_edge.proofs.Steps.{seen_removed}
use Rattle.real_edge.proofs.object_calls.settle_removal.Goals as goal

pub returns-in-Ok-clause-seen : goal.returns-in-Ok-clause-seen
returns-in-Ok-clause-seen g c =
    let told = g.D.Disk.told in
    let left = g.D.Disk.may_leave in
    let way = g.D.Disk.has_way in
    let a = c.args.disk.now in
    let d = c.sync.new.self in
    seen_removed (told a) c.args.name.now c.sync.result (left d) (way a) (rw c.in-Ok.is at c.requires) c.sync.ensures.settled
