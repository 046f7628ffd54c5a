use Rattle.real_edge.proofs.Wheres.{leaves_all}
use Rattle.real_edge.proofs.folder_read.FolderRead.keep_stamp.Goals as goal

pub returns-then-is_some : goal.returns-then-is_some
returns-then-is_some g c = leaves_all (g.D.Disk.told c.args.disk.now) (g.D.Disk.may_leave c.args.disk.now) (g.D.Disk.has_way c.args.disk.now)
