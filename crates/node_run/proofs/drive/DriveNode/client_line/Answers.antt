use Rattle.std.proofs.Common.{◌∙◌, ap, sym, false, [], ◌≡◌, refl, arith, subst}
use Rattle.node_run.specs.Node as said
use Rattle.node_run.specs.Turns.{calm, client_named, with_client, keep_client, client_turn_by, said_by_client}
use Rattle.node_run.proofs.Names.{named_name, known_one}
use Rattle.node_run.proofs.Parts.{most_done, most_short, known_parts, searched_parts, searched_name, client_turns}
use Rattle.std.specs.Prelude.{List, length, slice_get, slice_set, Some}
use Rattle.std.proofs.lemmas.Option.{slice_get_read}
use Rattle.root_search.specs.declared.searcher.Searcher.{Searcher}
use Rattle.node_run.specs.Lines.{outcome_text}
use Rattle.node_run.specs.Printing.{PrintsSearch}
use Rattle.node_run.proofs.Printed.{if_ok_where, if_short, where_down, where_up}
use Rattle.node_run.proofs.drive.DriveNode.client_line.Goals as goal

pub returns-then-self-clause-does : goal.returns-then-self-clause-does
returns-then-self-clause-does g c = λ firsts node p.
    let k = c.in_ok-place.ensures.known node.clients node.core node.log p.clients p.placed in
    most_done g.L.SourceLog.told g.L.SourceLog.fault_count g.L.SourceLog.since firsts node (said.StepClient c.args.client.now) _ c.client_down.result calm (said.client_down c.args.client.now) (keep_client (client_named c.args.client.now node.clients) node)
    (ap (λ b. client_turn_by b calm c.args.client.now node) (sym p.down ∙ c.if-self.true)) c.client_down.ensures
    (known_parts g.L.SourceLog.told g.L.SourceLog.fault_count g.L.SourceLog.since g.met.L.SourceLog.since_then firsts c.args.self.now.gate.world c.args.self.now.indexers.items c.args.self.now.merger.place c.args.self.now.deleter.place c.args.self.now.clients.items c.args.self.now.places.entries c.args.self.now.moment c.args.self.now.down node p c.known.new.clients.items c.known.new.places.entries (with_client (client_named c.args.client.now node.clients) node.clients) k.clients k.placed)

pub returns-in_err-outcome-clause-does : goal.returns-in_err-outcome-clause-does
returns-in_err-outcome-clause-does g c = λ firsts node p.
    let k = c.in_ok-place.ensures.known node.clients node.core node.log p.clients p.placed in
    let s = c.in_err-outcome.ensures.step (client_named c.args.client.now node.clients) node.core node.log p.is_log p.world_stands (known_one node.core node.log c.args.client.now c.known.new.clients.items node.clients c.in_ok-place.place c.index_mut.result.now k.at k.clients c.index_mut.ensures.value) in
    most_short g.L.SourceLog.told g.L.SourceLog.fault_count g.L.SourceLog.since firsts node (said.StepClient c.args.client.now) _ _ c.from_residual-in_err-outcome.result c.from_residual-in_err-outcome.ensures.1 (record { log = calm.log; world = s.luck.world; more = s.luck.more; ends = []; inner = s.luck.short; early = false; short = false })
    (record { said = said_by_client c.args.client.now s.outcome; node = record (keep_client s.later node) { core = s.after } })
    (client_turns node c.args.client.now c.step_searcher.new.searcher c.step_searcher.new.gate.world _ (sym p.down ∙ c.if-self.false) s) (searched_parts g.L.SourceLog.told g.L.SourceLog.fault_count g.L.SourceLog.since g.met.L.SourceLog.since_then firsts c.args.self.now.gate.world c.args.self.now.indexers.items c.args.self.now.merger.place c.args.self.now.deleter.place c.args.self.now.clients.items c.args.self.now.places.entries c.args.self.now.moment c.args.self.now.down node p c.args.client.now c.known.new.clients.items c.known.new.places.entries (client_named c.args.client.now node.clients) c.in_ok-place.place c.step_searcher.new.searcher c.step_searcher.new.gate.world _ (named_name c.args.client.now node.clients) k.clients k.placed k.at s
    (sym (ap (λ step. step.client.name) s.did) ∙ searched_name s.luck node.log (client_named c.args.client.now node.clients) node.core ∙ (named_name c.args.client.now node.clients)))

pub returns-clause-does : goal.returns-clause-does
returns-clause-does g c = λ firsts node p.
    let k = c.in_ok-place.ensures.known node.clients node.core node.log p.clients p.placed in
    let s = c.in_ok-outcome.ensures.step (client_named c.args.client.now node.clients) node.core node.log p.is_log p.world_stands (known_one node.core node.log c.args.client.now c.known.new.clients.items node.clients c.in_ok-place.place c.index_mut.result.now k.at k.clients c.index_mut.ensures.value) in
    most_done g.L.SourceLog.told g.L.SourceLog.fault_count g.L.SourceLog.since firsts node (said.StepClient c.args.client.now) _ c.client.result (record { log = calm.log; world = s.luck.world; more = s.luck.more; ends = []; inner = s.luck.short; early = false; short = false }) (said.client_said c.args.client.now c.in_ok-outcome.outcome)
    (record (keep_client s.later node) { core = s.after })
    (client_turns node c.args.client.now c.step_searcher.new.searcher c.step_searcher.new.gate.world _ (sym p.down ∙ c.if-self.false) s ∙ ap (λ o. record { said = said_by_client c.args.client.now o; node = record (keep_client s.later node) { core = s.after } }) s.says)
    c.client.ensures (searched_parts g.L.SourceLog.told g.L.SourceLog.fault_count g.L.SourceLog.since g.met.L.SourceLog.since_then firsts c.args.self.now.gate.world c.args.self.now.indexers.items c.args.self.now.merger.place c.args.self.now.deleter.place c.args.self.now.clients.items c.args.self.now.places.entries c.args.self.now.moment c.args.self.now.down node p c.args.client.now c.known.new.clients.items c.known.new.places.entries (client_named c.args.client.now node.clients) c.in_ok-place.place c.step_searcher.new.searcher c.step_searcher.new.gate.world _ (named_name c.args.client.now node.clients) k.clients k.placed k.at s
    (sym (ap (λ step. step.client.name) s.did) ∙ searched_name s.luck node.log (client_named c.args.client.now node.clients) node.core ∙ (named_name c.args.client.now node.clients)))

pub returns-in_err-place-clause-prints : goal.returns-in_err-place-clause-prints
returns-in_err-place-clause-prints g c = if_short c.from_residual.result _ c.from_residual.ensures.0

pub returns-then-self-clause-prints : goal.returns-then-self-clause-prints
returns-then-self-clause-prints g c =
    where_down c.args.self.now.down c.client_down.result (λ out. out ≡ outcome_text (said.client_down c.args.client.now))
    (PrintsSearch c.args.client.now c.args.self.now.clients.items c.known.new.clients.items c.args.self.now.gate c.args.self.now.gate) c.if-self.true c.client_down.ensures

pub returns-in_err-outcome-clause-prints : goal.returns-in_err-outcome-clause-prints
returns-in_err-outcome-clause-prints g c = if_short c.from_residual-in_err-outcome.result _ c.from_residual-in_err-outcome.ensures.0

pub returns-clause-prints : goal.returns-clause-prints
returns-clause-prints g c =
    let name = c.args.client.now in
    let old = c.args.self.now.clients.items in
    let known = c.known.new.clients.items in
    let place = c.in_ok-place.place in
    let later = slice_set known place c.step_searcher.new.searcher in
    let more = c.in_ok-place.ensures.kept in
    let at : slice_get known place ≡ Some c.index_mut.result.now =
    slice_get_read known (length known) place c.index_mut.result.now refl (omega (arith, c.in_ok-place.ensures.bound, c.known.new.clients.ok.0)) c.index_mut.ensures.value in
    where_up c.args.self.now.down c.client.result (λ out. out ≡ outcome_text (said.client_down name)) (PrintsSearch name old later c.args.self.now.gate c.step_searcher.new.gate) c.if-self.false
    (if_ok_where c.client.result (λ out. out ≡ outcome_text (said.client_said name c.in_ok-outcome.outcome)) (PrintsSearch name old later c.args.self.now.gate c.step_searcher.new.gate) (λ out h. record {
      more = more.0;
      place = place;
      searcher = c.index_mut.result.now;
      after = c.step_searcher.new.searcher;
      at = subst (λ (ss : List Searcher). slice_get ss place ≡ Some c.index_mut.result.now) more.1 at;
      behind = ap (λ (ss : List Searcher). slice_set ss place c.step_searcher.new.searcher) more.1;
      outcome = c.in_ok-outcome.outcome;
      tells = c.in_ok-outcome.ensures.tells;
      printed = h;
    }) c.client.ensures)
