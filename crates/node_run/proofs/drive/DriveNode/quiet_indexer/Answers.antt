use Rattle.std.proofs.Common.{sym, subst, arith}
use Rattle.node_run.proofs.Parts.{idle_parts}
use Rattle.node_run.proofs.drive.DriveNode.quiet_indexer.Goals as goal

pub returns : goal.returns
returns g c = λ firsts node p.
    idle_parts g.L.SourceLog.told g.L.SourceLog.fault_count g.L.SourceLog.since g.met.L.SourceLog.since_then firsts c.args.self.now.gate.world c.args.self.now.indexers.items c.args.self.now.merger.place c.args.self.now.deleter.place c.args.self.now.clients.items c.args.self.now.places.entries c.args.self.now.moment c.args.self.now.down node p
    c.args.number c.index_mut.result.now c.restart.new.self (omega (arith, c.requires, c.args.self.now.indexers.ok.0)) c.index_mut.ensures.value
    (subst (λ l. g.L.SourceLog.since c.index_mut.result.now.log l) (sym c.restart.ensures.log) (g.met.L.SourceLog.since_itself c.index_mut.result.now.log))
    c.restart.ensures.stands
