use Rattle.real_edge.proofs.Wheres.{where_left}
use Rattle.real_edge.proofs.leftovers.names_of.Goals as goal

pub returns-in-Ok : goal.returns-in-Ok
returns-in-Ok g c = where_left (g.D.Disk.told c.args.disk.now) (g.D.Disk.told c.names.new.self) (g.D.Disk.may_leave c.args.disk.now) (g.D.Disk.may_leave c.names.new.self) (g.D.Disk.has_way c.args.disk.now) (g.D.Disk.has_way c.names.new.self) c.names.ensures.leaves

pub returns-in-Err-Memory : goal.returns-in-Err-Memory
returns-in-Err-Memory g c = where_left (g.D.Disk.told c.args.disk.now) (g.D.Disk.told c.names.new.self) (g.D.Disk.may_leave c.args.disk.now) (g.D.Disk.may_leave c.names.new.self) (g.D.Disk.has_way c.args.disk.now) (g.D.Disk.has_way c.names.new.self) c.names.ensures.leaves

pub returns-in-Err-Failed : goal.returns-in-Err-Failed
returns-in-Err-Failed g c = where_left (g.D.Disk.told c.args.disk.now) (g.D.Disk.told c.names.new.self) (g.D.Disk.may_leave c.args.disk.now) (g.D.Disk.may_leave c.names.new.self) (g.D.Disk.has_way c.args.disk.now) (g.D.Disk.has_way c.names.new.self) c.names.ensures.leaves
