use Rattle.std.proofs.Common.{sym, ◌∙◌}
use Rattle.real_edge.proofs.Wheres.{leaves_all}
use Rattle.real_edge.proofs.folder_walk.Walk.can_go_on.Goals as goal

pub returns-then-not-are_same-clause-leaves : goal.returns-then-not-are_same-clause-leaves
returns-then-not-are_same-clause-leaves g c = leaves_all (g.D.Disk.told c.args.disk.now) (g.D.Disk.may_leave c.args.disk.now) (g.D.Disk.has_way c.args.disk.now)

pub returns-then-not-is_same-clause-leaves : goal.returns-then-not-is_same-clause-leaves
returns-then-not-is_same-clause-leaves g c = leaves_all (g.D.Disk.told c.args.disk.now) (g.D.Disk.may_leave c.args.disk.now) (g.D.Disk.has_way c.args.disk.now)

pub returns-clause-prefix : goal.returns-clause-prefix
returns-clause-prefix g c = λ t. c.is_same.ensures.0 c.if-not-is_same.false

pub returns-clause-after : goal.returns-clause-after
returns-clause-after g c = λ t. sym c.as_ref.ensures.value ∙ c.are_same.ensures c.if-not-are_same.false
