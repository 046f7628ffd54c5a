use Rattle.std.proofs.Common.{◌≡◌, ◌∙◌, ap, sym}
use Rattle.upkeep_run.specs.declared.work.Aim.TheVariants.{Deleting}
use Rattle.node_run.specs.Lines.{outcome_text}
use Rattle.node_run.specs.Node as said
use Rattle.node_run.specs.Printing.{PrintsDeleter, worked_text}
use Rattle.node_run.specs.Turns.{calm, said_by_worker, with_deleter, worker_turn_by}
use Rattle.node_run.proofs.Parts.{most_done, most_short}
use Rattle.node_run.proofs.Printed.{if_ok_where, if_short, where_down, where_up}
use Rattle.node_run.proofs.WorkerParts.{deleted_parts, deleter_turns, working_alone}
use Rattle.node_run.proofs.Workers.{worked_some}
use Rattle.node_run.proofs.drive.DriveNode.deleter_line.Goals as goal

pub returns-then-self-clause-does : goal.returns-then-self-clause-does
returns-then-self-clause-does g c = λ firsts node p.
    most_done g.L.SourceLog.told g.L.SourceLog.fault_count g.L.SourceLog.since firsts node said.StepDeleter _ c.deleter_down.result calm (said.worker_down Deleting) node
    (ap (λ b. worker_turn_by b Deleting node.deleter with_deleter calm node) (sym p.down ∙ c.if-self.true)) c.deleter_down.ensures p

pub returns-in_err-outcome-clause-does : goal.returns-in_err-outcome-clause-does
returns-in_err-outcome-clause-does g c = λ firsts node p.
    let s = c.in_err-outcome.ensures.step node.deleter node.core node.log p.is_log p.deleting p.world_stands in
    most_short g.L.SourceLog.told g.L.SourceLog.fault_count g.L.SourceLog.since firsts node said.StepDeleter _ _ c.from_residual.result c.from_residual.ensures.1 (working_alone s)
    (record { said = said_by_worker Deleting s.outcome; node = record (with_deleter s.after node) { core = s.behind } })
    (deleter_turns node c.step_deleter.new.deleter.place c.step_deleter.new.gate.world _ (sym p.down ∙ c.if-self.false) s)
    (deleted_parts g.L.SourceLog.told g.L.SourceLog.fault_count g.L.SourceLog.since firsts c.args.self.now.gate.world c.args.self.now.indexers.items c.args.self.now.merger.place c.args.self.now.deleter.place c.args.self.now.clients.items c.args.self.now.places.entries c.args.self.now.moment c.args.self.now.down node p c.step_deleter.new.deleter.place c.step_deleter.new.gate.world _ s)

pub returns-clause-does : goal.returns-clause-does
returns-clause-does g c = λ firsts node p.
    let s = c.in_ok-outcome.ensures.step node.deleter node.core node.log p.is_log p.deleting p.world_stands in
    let x = worked_some c.in_ok-outcome.outcome s.outcome s.answer in
    most_done g.L.SourceLog.told g.L.SourceLog.fault_count g.L.SourceLog.since firsts node said.StepDeleter _ c.deleter-line.result (working_alone s) (said.worker_said Deleting x.0)
    (record (with_deleter s.after node) { core = s.behind })
    (deleter_turns node c.step_deleter.new.deleter.place c.step_deleter.new.gate.world _ (sym p.down ∙ c.if-self.false) s ∙ ap (λ o. record { said = said_by_worker Deleting o; node = record (with_deleter s.after node) { core = s.behind } }) x.1)
    (c.deleter-line.ensures.said x.0 x.2)
    (deleted_parts g.L.SourceLog.told g.L.SourceLog.fault_count g.L.SourceLog.since firsts c.args.self.now.gate.world c.args.self.now.indexers.items c.args.self.now.merger.place c.args.self.now.deleter.place c.args.self.now.clients.items c.args.self.now.places.entries c.args.self.now.moment c.args.self.now.down node p c.step_deleter.new.deleter.place c.step_deleter.new.gate.world _ s)

pub returns-then-self-clause-prints : goal.returns-then-self-clause-prints
returns-then-self-clause-prints g c =
    where_down c.args.self.now.down c.deleter_down.result (λ out. out ≡ outcome_text (said.worker_down Deleting)) (PrintsDeleter c.args.self.now.deleter.place c.args.self.now.deleter.place c.args.self.now.gate.world c.args.self.now.gate.world) c.if-self.true c.deleter_down.ensures

pub returns-in_err-outcome-clause-prints : goal.returns-in_err-outcome-clause-prints
returns-in_err-outcome-clause-prints g c = if_short c.from_residual.result _ c.from_residual.ensures.0

pub returns-clause-prints : goal.returns-clause-prints
returns-clause-prints g c =
    where_up c.args.self.now.down c.deleter-line.result (λ out. out ≡ outcome_text (said.worker_down Deleting)) (PrintsDeleter c.args.self.now.deleter.place c.step_deleter.new.deleter.place c.args.self.now.gate.world c.step_deleter.new.gate.world) c.if-self.false
    (if_ok_where c.deleter-line.result (λ out. out ≡ worked_text Deleting c.in_ok-outcome.outcome) (PrintsDeleter c.args.self.now.deleter.place c.step_deleter.new.deleter.place c.args.self.now.gate.world c.step_deleter.new.gate.world)
    (λ out h. record { outcome = c.in_ok-outcome.outcome; ends = c.in_ok-outcome.ensures.ends; printed = h }) c.deleter-line.ensures.exact)
