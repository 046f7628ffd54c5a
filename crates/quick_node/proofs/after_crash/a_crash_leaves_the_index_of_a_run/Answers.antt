use Rattle.quick_node.proofs.BehindCrash.{kept_whole}
use Rattle.quick_node.proofs.after_crash.a_crash_leaves_the_index_of_a_run.Goals as goal

pub returns : goal.returns
returns g c =
    let opened = c.args.opened.now in
    λ asked history before next after status is life told begins.
    kept_whole after.kept life.exit before.log (g.D.Disk.crashed c.args.store.now.disk) (g.E.Disk.told opened.disk) opened.is_lost (g.E.Disk.crashed opened.disk) next is (c.what_a_crash_leaves.ensures after.kept told) life.index life.once life.left begins
