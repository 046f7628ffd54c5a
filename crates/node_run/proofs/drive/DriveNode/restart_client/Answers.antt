use Rattle.std.proofs.Common.{refl}
use Rattle.root_search.specs.Steps.{without_request}
use Rattle.node_run.specs.Node as said
use Rattle.node_run.specs.Turns.{calm, client_named, keep_client}
use Rattle.node_run.proofs.Names.{named_name, known_one}
use Rattle.node_run.proofs.Parts.{most_done, client_parts}
use Rattle.node_run.proofs.drive.DriveNode.restart_client.Goals as goal

pub returns-clause-does : goal.returns-clause-does
returns-clause-does g c = λ firsts node p.
    let k = c.in_ok-place.ensures.known node.clients node.core node.log p.clients p.placed in
    most_done g.L.SourceLog.told g.L.SourceLog.fault_count g.L.SourceLog.since firsts node (said.RestartClient c.args.client.now) _ c.client_restarted.result calm (said.client_restarted c.args.client.now)
    (keep_client (without_request (client_named c.args.client.now node.clients)) node) refl c.client_restarted.ensures
    (client_parts g.L.SourceLog.told g.L.SourceLog.fault_count g.L.SourceLog.since g.met.L.SourceLog.since_then firsts c.args.self.now.gate.world c.args.self.now.indexers.items c.args.self.now.merger.place c.args.self.now.deleter.place c.args.self.now.clients.items c.args.self.now.places.entries c.args.self.now.moment c.args.self.now.down node p c.args.client.now c.known.new.clients.items c.known.new.places.entries (client_named c.args.client.now node.clients) (without_request (client_named c.args.client.now node.clients)) c.in_ok-place.place c.restart.new.self (named_name c.args.client.now node.clients) (named_name c.args.client.now node.clients) k.clients k.placed k.at
    (c.restart.ensures.step (client_named c.args.client.now node.clients) node.core node.core node.log (known_one node.core node.log c.args.client.now c.known.new.clients.items node.clients c.in_ok-place.place c.index_mut.result.now k.at k.clients c.index_mut.ensures.value)))

pub returns-clause-prints : goal.returns-clause-prints
returns-clause-prints g c = c.client_restarted.ensures
