use Rattle.std.proofs.Common.{ap, ◌≡◌, inl, inr}
use Rattle.std.specs.Prelude.{◌⊎◌, slice_set}
use Rattle.root_search.specs.Steps.{opened}
use Rattle.node_run.specs.Node as said
use Rattle.node_run.specs.Turns.{calm, client_named, with_client, keep_client, open_by}
use Rattle.node_run.proofs.Names.{named_name, known_one, kept_by_request}
use Rattle.node_run.proofs.Parts.{most_done, client_parts, same_parts, busy_turn}
use Rattle.node_run.specs.Lines.{outcome_text}
use Rattle.node_run.proofs.Printed.{if_ok_where, if_short}
use Rattle.node_run.proofs.drive.DriveNode.open_line.Goals as goal

pub returns-in-Ok-clause-does : goal.returns-in-Ok-clause-does
returns-in-Ok-clause-does g c = λ firsts node p.
    let k = c.in_ok-place.ensures.known node.clients node.core node.log p.clients p.placed in
    let w = c.in-Ok.ensures.step (client_named c.args.client.now node.clients) node.core node.log (known_one node.core node.log c.args.client.now c.known.new.clients.items node.clients c.in_ok-place.place c.index_mut.result.now k.at k.clients c.index_mut.ensures.value) in
    most_done g.L.SourceLog.told g.L.SourceLog.fault_count g.L.SourceLog.since firsts node (said.Open c.args.client.now c.args.text) _ c.opened.result calm (said.request_opened c.args.client.now)
    (keep_client (record (client_named c.args.client.now node.clients) { request = opened c.args.text }) node) (ap (λ r. open_by r c.args.client.now c.args.text (client_named c.args.client.now node.clients) node) w.0) c.opened.ensures
    (client_parts g.L.SourceLog.told g.L.SourceLog.fault_count g.L.SourceLog.since g.met.L.SourceLog.since_then firsts c.args.self.now.gate.world c.args.self.now.indexers.items c.args.self.now.merger.place c.args.self.now.deleter.place c.args.self.now.clients.items c.args.self.now.places.entries c.args.self.now.moment c.args.self.now.down node p c.args.client.now c.known.new.clients.items c.known.new.places.entries (client_named c.args.client.now node.clients) (record (client_named c.args.client.now node.clients) { request = opened c.args.text }) c.in_ok-place.place c.submit.new.self (named_name c.args.client.now node.clients) (named_name c.args.client.now node.clients) k.clients k.placed k.at w.1)

pub returns-in-Err-clause-does : goal.returns-in-Err-clause-does
returns-in-Err-clause-does g c = λ firsts node p.
    let k = c.in_ok-place.ensures.known node.clients node.core node.log p.clients p.placed in
    let w = c.in-Err.ensures.step (client_named c.args.client.now node.clients) node.core node.log (known_one node.core node.log c.args.client.now c.known.new.clients.items node.clients c.in_ok-place.place c.index_mut.result.now k.at k.clients c.index_mut.ensures.value) in
    most_done g.L.SourceLog.told g.L.SourceLog.fault_count g.L.SourceLog.since firsts node (said.Open c.args.client.now c.args.text) _ c.busy.result calm (said.request_busy c.args.client.now)
    node (busy_turn (client_named c.args.client.now node.clients).request c.args.client.now c.args.text (client_named c.args.client.now node.clients) node w.0) c.busy.ensures
    (same_parts g.L.SourceLog.told g.L.SourceLog.fault_count g.L.SourceLog.since g.met.L.SourceLog.since_then firsts c.args.self.now.gate.world c.args.self.now.indexers.items c.args.self.now.merger.place c.args.self.now.deleter.place c.args.self.now.clients.items c.args.self.now.places.entries c.args.self.now.moment c.args.self.now.down node p
    (slice_set c.known.new.clients.items c.in_ok-place.place c.submit.new.self) c.known.new.places.entries (with_client (client_named c.args.client.now node.clients) node.clients)
    (kept_by_request c.args.client.now node.clients w.0)
    (client_parts g.L.SourceLog.told g.L.SourceLog.fault_count g.L.SourceLog.since g.met.L.SourceLog.since_then firsts c.args.self.now.gate.world c.args.self.now.indexers.items c.args.self.now.merger.place c.args.self.now.deleter.place c.args.self.now.clients.items c.args.self.now.places.entries c.args.self.now.moment c.args.self.now.down node p c.args.client.now c.known.new.clients.items c.known.new.places.entries (client_named c.args.client.now node.clients) (client_named c.args.client.now node.clients) c.in_ok-place.place c.submit.new.self (named_name c.args.client.now node.clients) (named_name c.args.client.now node.clients) k.clients k.placed k.at w.1))

pub returns-in_err-place-clause-prints : goal.returns-in_err-place-clause-prints
returns-in_err-place-clause-prints g c = if_short c.from_residual.result _ c.from_residual.ensures.0

pub returns-in-Ok-clause-prints : goal.returns-in-Ok-clause-prints
returns-in-Ok-clause-prints g c =
    let opens = outcome_text (said.request_opened c.args.client.now) in
    if_ok_where c.opened.result (λ out. out ≡ opens) (λ out. (out ≡ opens) ⊎ (out ≡ outcome_text (said.request_busy c.args.client.now))) (λ out h. inl h) c.opened.ensures

pub returns-in-Err-clause-prints : goal.returns-in-Err-clause-prints
returns-in-Err-clause-prints g c =
    let busy = outcome_text (said.request_busy c.args.client.now) in
    if_ok_where c.busy.result (λ out. out ≡ busy) (λ out. (out ≡ outcome_text (said.request_opened c.args.client.now)) ⊎ (out ≡ busy)) (λ out h. inr h) c.busy.ensures
