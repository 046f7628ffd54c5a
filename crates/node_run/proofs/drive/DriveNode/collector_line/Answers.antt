use Rattle.std.proofs.Common.{◌≡◌, ◌∙◌, ap, sym}
use Rattle.node_run.specs.Lines.{outcome_text}
use Rattle.node_run.specs.Node as said
use Rattle.node_run.specs.Printing.{PrintsCollector, collected_text}
use Rattle.node_run.specs.Turns.{calm, collector_turn_by, said_by_collector}
use Rattle.node_run.proofs.Parts.{collected_parts, collected_some, collecting_alone, collector_turns, most_done, most_short}
use Rattle.node_run.proofs.Printed.{if_ok_where, if_short, where_down, where_up}
use Rattle.node_run.proofs.drive.DriveNode.collector_line.Goals as goal

pub returns-then-self-clause-does : goal.returns-then-self-clause-does
returns-then-self-clause-does g c = λ firsts node p.
    most_done g.L.SourceLog.told g.L.SourceLog.fault_count g.L.SourceLog.since firsts node said.StepCollector _ c.collector_down.result calm said.collector_down node
    (ap (λ b. collector_turn_by b calm node) (sym p.down ∙ c.if-self.true)) c.collector_down.ensures p

pub returns-in_err-outcome-clause-does : goal.returns-in_err-outcome-clause-does
returns-in_err-outcome-clause-does g c = λ firsts node p.
    let s = c.in_err-outcome.ensures.step node.core node.log p.world_stands in
    most_short g.L.SourceLog.told g.L.SourceLog.fault_count g.L.SourceLog.since firsts node said.StepCollector _ _ c.from_residual.result c.from_residual.ensures.1 (collecting_alone s)
    (record { said = said_by_collector s.outcome; node = record node { core = s.after } })
    (collector_turns node c.step_collector.new.gate.world _ (sym p.down ∙ c.if-self.false) s)
    (collected_parts g.L.SourceLog.told g.L.SourceLog.fault_count g.L.SourceLog.since g.met.L.SourceLog.since_then firsts c.args.self.now.gate.world c.args.self.now.indexers.items c.args.self.now.merger.place c.args.self.now.deleter.place c.args.self.now.clients.items c.args.self.now.places.entries c.args.self.now.moment c.args.self.now.down node p c.step_collector.new.gate.world _ s)

pub returns-clause-does : goal.returns-clause-does
returns-clause-does g c = λ firsts node p.
    let s = c.in_ok-outcome.ensures.step node.core node.log p.world_stands in
    let x = collected_some c.in_ok-outcome.outcome s.outcome s.says in
    most_done g.L.SourceLog.told g.L.SourceLog.fault_count g.L.SourceLog.since firsts node said.StepCollector _ c.collector-line.result (collecting_alone s) (said.collector_said x.0)
    (record node { core = s.after })
    (collector_turns node c.step_collector.new.gate.world _ (sym p.down ∙ c.if-self.false) s ∙ ap (λ o. record { said = said_by_collector o; node = record node { core = s.after } }) x.1)
    (c.collector-line.ensures.said x.0 x.2)
    (collected_parts g.L.SourceLog.told g.L.SourceLog.fault_count g.L.SourceLog.since g.met.L.SourceLog.since_then firsts c.args.self.now.gate.world c.args.self.now.indexers.items c.args.self.now.merger.place c.args.self.now.deleter.place c.args.self.now.clients.items c.args.self.now.places.entries c.args.self.now.moment c.args.self.now.down node p c.step_collector.new.gate.world _ s)

pub returns-then-self-clause-prints : goal.returns-then-self-clause-prints
returns-then-self-clause-prints g c =
    where_down c.args.self.now.down c.collector_down.result (λ out. out ≡ outcome_text said.collector_down) (PrintsCollector c.args.self.now.gate c.args.self.now.gate) c.if-self.true c.collector_down.ensures

pub returns-in_err-outcome-clause-prints : goal.returns-in_err-outcome-clause-prints
returns-in_err-outcome-clause-prints g c = if_short c.from_residual.result _ c.from_residual.ensures.0

pub returns-clause-prints : goal.returns-clause-prints
returns-clause-prints g c =
    where_up c.args.self.now.down c.collector-line.result (λ out. out ≡ outcome_text said.collector_down) (PrintsCollector c.args.self.now.gate c.step_collector.new.gate) c.if-self.false
    (if_ok_where c.collector-line.result (λ out. out ≡ collected_text c.in_ok-outcome.outcome) (PrintsCollector c.args.self.now.gate c.step_collector.new.gate)
    (λ out h. record { outcome = c.in_ok-outcome.outcome; calls = c.in_ok-outcome.ensures.tells; printed = h }) c.collector-line.ensures.exact)
