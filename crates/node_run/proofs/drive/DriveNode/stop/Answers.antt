use Rattle.std.proofs.Common.{take, drop, length, ◌++◌, ◌∙◌, ap, sym, subst, refl, arith, true, List, map}
use Rattle.std.specs.List.{AllZip}
use Rattle.indexing_run.specs.Standing.{IndexerStands}
use Rattle.root_search.specs.Searching.{SearcherStands}
use Rattle.root_search.specs.declared.searcher.Searcher.{Searcher}
use Rattle.node_run.specs.Standing.{PartsStand}
use Rattle.node_run.specs.Turns.{stopped}
use Rattle.node_run.proofs.Parts.{stopped_parts, whole_back}
use Rattle.node_run.proofs.drive.DriveNode.stop.Goals as goal

pub returns-clause-does : goal.returns-clause-does
returns-clause-does g c = λ firsts node p.
    let parts = stopped_parts g.L.SourceLog.told g.L.SourceLog.fault_count g.L.SourceLog.since g.met.L.SourceLog.since_then firsts c.args.self.now.gate.world c.args.self.now.indexers.items c.args.self.now.merger.place c.args.self.now.deleter.place c.args.self.now.clients.items c.args.self.now.places.entries c.args.self.now.moment c.args.self.now.down node p c.restart_indexers.new.indexers c.restart.new.self.place c.restart-2.new.self.place c.restart_clients.new.clients c.args.self.now.gate.world true node.core refl p.world_stands
    (c.restart_indexers.ensures.logs ∙ ap (map (λ reader. reader.log)) c.as_mut_slice.ensures.value)
    (c.restart_indexers.ensures.stand node.indexers node.core node.core node.log
    (subst (λ rs. AllZip (λ reader indexer. IndexerStands g.L.SourceLog.told g.L.SourceLog.fault_count reader indexer node.core node.log) rs node.indexers) (sym c.as_mut_slice.ensures.value) p.indexers))
    (c.restart.ensures.stands node.core node.log) (c.restart-2.ensures.stands node.core node.log)
    (c.restart_clients.ensures node.clients node.core node.core node.log
    (subst (λ (ss : List Searcher). AllZip (λ searcher client. SearcherStands searcher client node.core node.log) ss node.clients) (sym c.as_mut_slice-2.ensures.value) p.clients)) in
    let readers = whole_back c.restart_indexers.new.indexers c.args.self.now.indexers.items c.args.self.now.indexers.len
    (omega (arith, c.restart_indexers.auto.indexers, c.as_mut_slice.ensures.len, c.args.self.now.indexers.ok.0)) (omega (arith, c.args.self.now.indexers.ok.0)) in
    let searchers = whole_back c.restart_clients.new.clients c.args.self.now.clients.items c.args.self.now.clients.len
    (omega (arith, c.restart_clients.auto.clients, c.as_mut_slice-2.ensures.len, c.args.self.now.clients.ok.0)) (omega (arith, c.args.self.now.clients.ok.0)) in
    subst (λ rs. PartsStand g.L.SourceLog.told g.L.SourceLog.fault_count g.L.SourceLog.since firsts c.args.self.now.gate.world rs c.restart.new.self.place c.restart-2.new.self.place (take c.args.self.now.clients.len (c.restart_clients.new.clients ++ drop (length c.restart_clients.new.clients) c.args.self.now.clients.items)) c.args.self.now.places.entries c.args.self.now.moment true (stopped node.core node)) (sym readers)
    (subst (λ (ss : List Searcher). PartsStand g.L.SourceLog.told g.L.SourceLog.fault_count g.L.SourceLog.since firsts c.args.self.now.gate.world c.restart_indexers.new.indexers c.restart.new.self.place c.restart-2.new.self.place ss c.args.self.now.places.entries c.args.self.now.moment true (stopped node.core node)) (sym searchers) parts)
