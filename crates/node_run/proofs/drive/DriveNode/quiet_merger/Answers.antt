use Rattle.node_run.proofs.WorkerParts.{unmerged_parts}
use Rattle.node_run.proofs.drive.DriveNode.quiet_merger.Goals as goal

pub returns : goal.returns
returns g c = λ firsts node p.
    unmerged_parts g.L.SourceLog.told g.L.SourceLog.fault_count g.L.SourceLog.since firsts c.args.self.now.gate.world c.args.self.now.indexers.items c.args.self.now.merger.place c.args.self.now.deleter.place c.args.self.now.clients.items c.args.self.now.places.entries c.args.self.now.moment c.args.self.now.down node p c.restart.new.self.place (c.restart.ensures.stands node.core node.log)
