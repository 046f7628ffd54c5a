use Rattle.std.proofs.Common.{refl, arith}
use Rattle.std.specs.Prelude.{Some}
use Rattle.node_run.specs.Node as said
use Rattle.node_run.specs.Turns.{calm}
use Rattle.node_run.proofs.Parts.{most_done}
use Rattle.index_world.proofs.Gates.{clocked}
use Rattle.node_run.proofs.Parts.{clock_parts, stands_along}
use Rattle.node_run.proofs.drive.DriveNode.at_line.Goals as goal
use Rattle.node_run.proofs.drive.DriveNode.at_line.Goals.{then-moment-lt-MOMENT_END, else-moment-lt-MOMENT_END}

pub returns-clause-does : goal.returns-clause-does
returns-clause-does g c = λ firsts node p low.
    elim c.if-moment-lt-MOMENT_END.branch [
      | then-moment-lt-MOMENT_END w ↦
          most_done g.L.SourceLog.told g.L.SourceLog.fault_count g.L.SourceLog.since firsts node (said.At c.args.moment) c.if-moment-lt-MOMENT_END.self c.at.result calm (said.at_said c.args.moment)
          (record node { core = record (node.core) { clock = c.args.moment } }) refl c.at.ensures
          (stands_along g.L.SourceLog.told g.L.SourceLog.fault_count g.L.SourceLog.since firsts c.if-moment-lt-MOMENT_END.self _ (record node { core = record (node.core) { clock = c.args.moment } }) w.self-is
          (clock_parts g.L.SourceLog.told g.L.SourceLog.fault_count g.L.SourceLog.since g.met.L.SourceLog.since_then firsts c.args.self.now.gate.world c.args.self.now.indexers.items c.args.self.now.merger.place c.args.self.now.deleter.place c.args.self.now.clients.items c.args.self.now.places.entries c.args.self.now.moment c.args.self.now.down node p c.args.moment (record (c.args.self.now.gate.world) { clock = Some w.set.new.self })
          (clocked c.args.self.now.gate.world node.core node.log w.set.new.self c.args.moment p.world_stands low w.set.ensures)))
      | else-moment-lt-MOMENT_END w ↦ absurd (omega (arith, low, w.if-moment-lt-MOMENT_END.false))
    ]

pub returns-clause-prints : goal.returns-clause-prints
returns-clause-prints g c = c.at.ensures
