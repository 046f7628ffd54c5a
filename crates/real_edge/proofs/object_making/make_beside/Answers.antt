use Rattle.std.proofs.Common.{◌≡◌, false}
use Rattle.real_edge.proofs.Wheres.{where_all}
use Rattle.real_edge.proofs.Steps.{where_made, where_unmade, where_unchanged}
use Rattle.real_edge.specs.Names.{is_object}
use Rattle.real_edge.proofs.object_making.make_beside.Goals as goal

pub loop-init : goal.loop-init
loop-init g c = record { keeps = where_all (g.D.Disk.told c.args.disk.now) (g.D.Disk.may_leave c.args.disk.now); ways = λ q on. on }

pub returns-in-Ok-clause-made : goal.returns-in-Ok-clause-made
returns-in-Ok-clause-made g c =
    where_made (g.D.Disk.told c.args.disk.now) (g.D.Disk.told c.loop.disk) (g.D.Disk.told c.create_new.new.self) c.in_ok-beside.beside.items c.args.content.now
    (g.D.Disk.may_leave c.args.disk.now) (g.D.Disk.may_leave c.loop.disk) (g.D.Disk.may_leave c.create_new.new.self) c.in_ok-beside.ensures c.loop.invariant.keeps
    (rw c.as_slice.ensures.value at c.in-Ok.ensures.step)

pub returns-in-Err-Memory-clause-failed : goal.returns-in-Err-Memory-clause-failed
returns-in-Err-Memory-clause-failed g c =
    where_unchanged (g.D.Disk.told c.args.disk.now) (g.D.Disk.told c.loop.disk) (g.D.Disk.told c.create_new.new.self)
    (g.D.Disk.may_leave c.args.disk.now) (g.D.Disk.may_leave c.loop.disk) (g.D.Disk.may_leave c.create_new.new.self) c.loop.invariant.keeps
    (rw c.in-Err-Memory.field-0-is at c.in-Err-Memory.ensures.step)

pub returns-in-Err-Failed-clause-failed : goal.returns-in-Err-Failed-clause-failed
returns-in-Err-Failed-clause-failed g c =
    where_unmade (g.D.Disk.told c.args.disk.now) (g.D.Disk.told c.loop.disk) (g.D.Disk.told c.create_new.new.self) c.in_ok-beside.beside.items c.args.content.now c.in-Err-Failed.trouble
    (g.D.Disk.may_leave c.args.disk.now) (g.D.Disk.may_leave c.loop.disk) (g.D.Disk.may_leave c.create_new.new.self) c.in_ok-beside.ensures c.loop.invariant.keeps
    (rw c.as_slice.ensures.value at (rw c.in-Err-Failed.field-0-is at c.in-Err-Failed.ensures.step))

pub loop-preserved : goal.loop-preserved
loop-preserved g c = record {
  keeps = where_unchanged (g.D.Disk.told c.args.disk.now) (g.D.Disk.told c.loop.disk) (g.D.Disk.told c.create_new.new.self)
      (g.D.Disk.may_leave c.args.disk.now) (g.D.Disk.may_leave c.loop.disk) (g.D.Disk.may_leave c.create_new.new.self) c.loop.invariant.keeps
      (rw c.in-Err-Exists.field-0-is at c.in-Err-Exists.ensures.step);
  ways = λ q on. c.create_new.ensures.ways q (c.loop.invariant.ways q on);
}
