use Rattle.std.proofs.Common.{◌≡◌, ◌∙◌, ap, sym, refl, true, false, ℕ, subst, Ok, Err}
use Rattle.index_world.proofs.Numbers.{revision_is}
use Rattle.node_run.specs.Node as said
use Rattle.node_run.specs.Turns.{calm, turned, restarted, restart_by, restart_given}
use Rattle.node_run.proofs.Parts.{most_done, loaded_parts, was_loaded, failed_restart}
use Rattle.object_store.specs.Store.{WhereTold}
use Rattle.index_world.specs.Opened.{OpensAnew}
use Rattle.index_world.specs.World.{Keeping}
use Rattle.node_run.specs.Lines.{outcome_text}
use Rattle.node_run.specs.Printing.{PrintsRestart, fault_text}
use Rattle.node_run.proofs.Printed.{if_ok_where}
use Rattle.node_run.proofs.drive.DriveNode.restart_node.Goals as goal

pub returns-in-Ok-clause-does : goal.returns-in-Ok-clause-does
returns-in-Ok-clause-does g c = λ firsts node p.
    let q = c.stop.ensures.does firsts node p in
    let l = c.in-Ok.ensures.step node.core node.log q.world_stands in
    let last = record (restarted node) { core = l.after; down = false } in
    let revision = c.revision.ensures ∙ ap (λ meta. meta.revision) (c.meta.ensures ∙ l.stands.meta) ∙ revision_is l.after.history in
    most_done g.L.SourceLog.told g.L.SourceLog.fault_count g.L.SourceLog.since firsts node said.RestartNode _ c.node_restarted.result (record calm { world = l.loads.fate }) (said.node_restarted c.revision.result) last
    (ap (restart_given node) l.loads.did ∙ ap (λ a. restart_by a l.after node) (was_loaded l.answer l.after l.says)
    ∙ ap (λ n. turned (said.node_restarted n) last) (sym revision)) c.node_restarted.ensures
    (loaded_parts g.L.SourceLog.told g.L.SourceLog.fault_count g.L.SourceLog.since firsts c.stop.new.self.gate.world c.reload.new.self c.stop.new.self.indexers.items c.stop.new.self.merger.place c.stop.new.self.deleter.place c.stop.new.self.clients.items c.stop.new.self.places.entries c.stop.new.self.moment
    c.stop.new.self.down false false node l.after l.loads.fate l.answer q l.loads.did l.loads.keeps l.stands refl)

pub returns-in-Err-clause-does : goal.returns-in-Err-clause-does
returns-in-Err-clause-does g c = λ firsts node p.
    let q = c.stop.ensures.does firsts node p in
    let l = c.in-Err.ensures.step node.core node.log q.world_stands in
    failed_restart g.L.SourceLog.told g.L.SourceLog.fault_count g.L.SourceLog.since firsts node _ (record calm { world = l.loads.fate }) l.after c.in-Err.error c.fault_line.result l.answer
    (ap (restart_given node) l.loads.did) l.says
    (loaded_parts g.L.SourceLog.told g.L.SourceLog.fault_count g.L.SourceLog.since firsts c.stop.new.self.gate.world c.reload.new.self c.stop.new.self.indexers.items c.stop.new.self.merger.place c.stop.new.self.deleter.place c.stop.new.self.clients.items c.stop.new.self.places.entries c.stop.new.self.moment
    c.stop.new.self.down c.stop.new.self.down true node l.after l.loads.fate l.answer q l.loads.did l.loads.keeps l.stands q.down)
    c.fault_line.ensures.memory c.fault_line.ensures.fault c.fault_line.ensures.none

pub returns-in-Ok-clause-prints : goal.returns-in-Ok-clause-prints
returns-in-Ok-clause-prints g c =
    let revision = c.revision.ensures ∙ ap (λ meta. meta.revision) c.meta.ensures in
    if_ok_where c.node_restarted.result (λ out. out ≡ outcome_text (said.node_restarted c.revision.result)) (PrintsRestart c.args.self.now.gate.world c.reload.new.self false) (λ out h. record {
      answer = Ok tt;
      opened = subst (λ (w : Keeping). WhereTold w.told c.reload.new.self.told (OpensAnew w.store_faults (Ok tt) c.reload.new.self)) c.stop.ensures.world c.in-Ok.ensures.opened;
      printed = h ∙ ap (λ (n : ℕ). outcome_text (said.node_restarted n)) revision;
      is_down = refl;
    }) c.node_restarted.ensures

pub returns-in-Err-clause-prints : goal.returns-in-Err-clause-prints
returns-in-Err-clause-prints g c =
    if_ok_where c.fault_line.result (λ out. out ≡ fault_text c.in-Err.error) (PrintsRestart c.args.self.now.gate.world c.reload.new.self c.stop.new.self.down) (λ out h. record {
      answer = Err c.in-Err.error;
      opened = subst (λ (w : Keeping). WhereTold w.told c.reload.new.self.told (OpensAnew w.store_faults (Err c.in-Err.error) c.reload.new.self)) c.stop.ensures.world c.in-Err.ensures.opened;
      printed = h;
      is_down = c.stop.ensures.down;
    }) c.fault_line.ensures.exact
