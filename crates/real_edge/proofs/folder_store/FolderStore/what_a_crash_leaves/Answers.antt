use Rattle.real_edge.proofs.Calls.{told_left}
use Rattle.real_edge.proofs.folder_store.FolderStore.what_a_crash_leaves.Goals as goal

pub returns : goal.returns
returns g c =
    let s = c.args.self.now in
    let d = s.disk in
    λ state is. told_left (g.D.Disk.told d) s.is_lost (g.D.Disk.crashed d) (g.D.Disk.may_leave d) state s.sure (g.met.D.Disk.leaves_some d) is
