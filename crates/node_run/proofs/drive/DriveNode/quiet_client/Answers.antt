use Rattle.std.proofs.Common.{sym, subst, List}
use Rattle.std.specs.List.{AllZip}
use Rattle.std.specs.Prelude.{slice_set}
use Rattle.root_search.specs.Searching.{SearcherStands}
use Rattle.root_search.specs.Steps.{Client, without_request}
use Rattle.node_run.specs.Named.{HasPlaces, names_of}
use Rattle.node_run.specs.Turns.{client_named, with_dropped}
use Rattle.node_run.proofs.Names.{named_name, named_stands, named_set, named_dropped, unknown_dropped}
use Rattle.node_run.proofs.Places.{as_many, named_at, not_named, names_dropped}
use Rattle.node_run.proofs.Parts.{known_parts}
use Rattle.node_run.proofs.drive.DriveNode.quiet_client.Goals as goal

pub returns-in-Some : goal.returns-in-Some
returns-in-Some g c = λ firsts node p.
    let same = as_many node.core node.log c.args.self.now.clients.items c.as_slice.result.now node.clients c.as_slice.ensures.value p.clients in
    let at = named_at node.core node.log c.args.client.now c.args.self.now.clients.items node.clients c.in-Some.place p.clients (sym (c.in-Some.ensures.exact (names_of node.clients) same p.placed)) in
    let old = named_stands node.core node.log c.args.client.now c.args.self.now.clients.items node.clients c.in-Some.place c.index_mut.result.now at p.clients c.index_mut.ensures.value in
    known_parts g.L.SourceLog.told g.L.SourceLog.fault_count g.L.SourceLog.since g.met.L.SourceLog.since_then firsts c.args.self.now.gate.world c.args.self.now.indexers.items c.args.self.now.merger.place c.args.self.now.deleter.place c.args.self.now.clients.items c.args.self.now.places.entries c.args.self.now.moment c.args.self.now.down node p (slice_set c.args.self.now.clients.items c.in-Some.place c.restart.new.self) c.args.self.now.places.entries (with_dropped c.args.client.now node.clients)
    (subst (λ (ms : List Client). AllZip (λ searcher client. SearcherStands searcher client node.core node.log) (slice_set c.args.self.now.clients.items c.in-Some.place c.restart.new.self) ms)
    (sym (named_dropped node.core node.log c.args.client.now c.args.self.now.clients.items node.clients c.in-Some.place at p.clients))
    (named_set node.core node.core node.log c.args.client.now c.args.self.now.clients.items node.clients c.in-Some.place c.restart.new.self (without_request (client_named c.args.client.now node.clients))
    (λ t m w. w) (named_name c.args.client.now node.clients) at p.clients (c.restart.ensures.step (client_named c.args.client.now node.clients) node.core node.core node.log old)))
    (subst (HasPlaces c.args.self.now.places.entries) (sym (names_dropped c.args.client.now node.clients)) p.placed)

pub returns-in_default : goal.returns-in_default
returns-in_default g c = λ firsts node p.
    let same = as_many node.core node.log c.args.self.now.clients.items c.as_slice.result.now node.clients c.as_slice.ensures.value p.clients in
    let unknown = not_named node.core node.log c.args.client.now c.args.self.now.clients.items node.clients p.clients (sym (c.in_default.ensures.exact (names_of node.clients) same p.placed)) in
    known_parts g.L.SourceLog.told g.L.SourceLog.fault_count g.L.SourceLog.since g.met.L.SourceLog.since_then firsts c.args.self.now.gate.world c.args.self.now.indexers.items c.args.self.now.merger.place c.args.self.now.deleter.place c.args.self.now.clients.items c.args.self.now.places.entries c.args.self.now.moment c.args.self.now.down node p c.args.self.now.clients.items c.args.self.now.places.entries (with_dropped c.args.client.now node.clients)
    (subst (λ (ms : List Client). AllZip (λ searcher client. SearcherStands searcher client node.core node.log) c.args.self.now.clients.items ms)
    (sym (unknown_dropped node.core node.log c.args.client.now c.args.self.now.clients.items node.clients unknown p.clients)) p.clients)
    (subst (HasPlaces c.args.self.now.places.entries) (sym (names_dropped c.args.client.now node.clients)) p.placed)
