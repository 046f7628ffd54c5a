use Rattle.real_edge.proofs.Wheres.{where_all}
use Rattle.real_edge.proofs.object_calls.clear_once.Goals as goal

pub returns-then-writer : goal.returns-then-writer
returns-then-writer g c = where_all (g.D.Disk.told c.args.disk.now) (g.D.Disk.may_leave c.args.disk.now)
