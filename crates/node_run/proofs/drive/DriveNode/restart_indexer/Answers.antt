use Rattle.std.proofs.Common.{sym, subst, refl, arith}
use Rattle.node_run.specs.Node as said
use Rattle.node_run.specs.Turns.{calm, with_indexer, indexer_at, made_idle}
use Rattle.node_run.proofs.Parts.{most_done, idle_parts}
use Rattle.node_run.proofs.drive.DriveNode.restart_indexer.Goals as goal

pub returns-clause-does : goal.returns-clause-does
returns-clause-does g c = λ firsts node p.
    most_done g.L.SourceLog.told g.L.SourceLog.fault_count g.L.SourceLog.since firsts node (said.RestartIndexer c.args.number) _ c.indexer_restarted.result calm (said.indexer_restarted c.args.number)
    (with_indexer c.args.number (made_idle (indexer_at node.indexers c.args.number)) node) refl c.indexer_restarted.ensures
    (idle_parts g.L.SourceLog.told g.L.SourceLog.fault_count g.L.SourceLog.since g.met.L.SourceLog.since_then firsts c.args.self.now.gate.world c.args.self.now.indexers.items c.args.self.now.merger.place c.args.self.now.deleter.place c.args.self.now.clients.items c.args.self.now.places.entries c.args.self.now.moment c.args.self.now.down node p
    c.args.number c.index_mut.result.now c.restart.new.self (omega (arith, c.requires, c.args.self.now.indexers.ok.0)) c.index_mut.ensures.value
    (subst (λ l. g.L.SourceLog.since c.index_mut.result.now.log l) (sym c.restart.ensures.log) (g.met.L.SourceLog.since_itself c.index_mut.result.now.log))
    c.restart.ensures.stands)

pub returns-clause-prints : goal.returns-clause-prints
returns-clause-prints g c = c.indexer_restarted.ensures
