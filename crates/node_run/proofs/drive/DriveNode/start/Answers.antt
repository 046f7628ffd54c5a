use Rattle.std.proofs.Common.{ℕ, List, [], sym, subst, map, false}
use Rattle.index_world.specs.World.{Keeping}
use Rattle.root_search.specs.declared.searcher.Searcher.{Searcher}
use Rattle.node_run.specs.Standing.{PartsStand, fresh_node}
use Rattle.node_run.proofs.Starting.{fresh_parts}
use Rattle.node_run.proofs.drive.DriveNode.start.Goals as goal

pub returns-clause-ok : goal.returns-clause-ok
returns-clause-ok g c = λ core log w clock is h.
    subst
    (λ (world : Keeping). PartsStand g.L.SourceLog.told g.L.SourceLog.fault_count g.L.SourceLog.since c.args.logs.items world c.readers_of-indexers.result.items c.start.result.place c.start-2.result.place c.new.result.items c.new-2.result.entries 0 false
    (fresh_node core log (map g.L.SourceLog.fault_count c.args.logs.items)))
    (sym c.over.ensures.value)
    (subst
    (λ (places : List (List ℕ × ℕ)). PartsStand g.L.SourceLog.told g.L.SourceLog.fault_count g.L.SourceLog.since c.args.logs.items c.args.world c.readers_of-indexers.result.items c.start.result.place c.start-2.result.place c.new.result.items places 0 false
    (fresh_node core log (map g.L.SourceLog.fault_count c.args.logs.items)))
    (sym c.new-2.ensures.empty)
    (subst
    (λ (searchers : List Searcher). PartsStand g.L.SourceLog.told g.L.SourceLog.fault_count g.L.SourceLog.since c.args.logs.items c.args.world c.readers_of-indexers.result.items c.start.result.place c.start-2.result.place searchers [] 0 false
    (fresh_node core log (map g.L.SourceLog.fault_count c.args.logs.items)))
    (sym c.new.ensures.items)
    (fresh_parts g.L.SourceLog.told g.L.SourceLog.fault_count g.L.SourceLog.since g.met.L.SourceLog.since_itself c.args.logs.items c.readers_of-indexers.result.items c.start.result.place c.start-2.result.place c.args.world core log c.readers_of-indexers.ensures (c.start.ensures.stands core log) (c.start-2.ensures.stands core log) w clock is h)))
