use Rattle.std.proofs.Common.{ℕ, length, ◌∙◌, ap, sym, subst, refl, arith, List, ◌≡◌, inl, inr}
use Rattle.std.specs.Prelude.{◌⊎◌, Some}
use Rattle.indexing_run.specs.Standing.{IndexerStands}
use Rattle.node_run.specs.Node as said
use Rattle.node_run.specs.Turns.{calm, turned, with_indexer, indexer_at}
use Rattle.node_run.proofs.Zips.{zip_at}
use Rattle.node_run.proofs.Parts.{most_done, placed_parts, assign_idle, assign_busy, assigned_names, set_self}
use Rattle.node_run.specs.Lines.{outcome_text}
use Rattle.node_run.proofs.Printed.{if_ok_where, if_short}
use Rattle.node_run.proofs.drive.DriveNode.assign_line.Goals as goal

pub returns-in-Some-clause-does : goal.returns-in-Some-clause-does
returns-in-Some-clause-does g c = λ firsts node p names.
    let copy = c.in_ok-partitions.ensures in
    let w = c.in-Some.ensures.some (indexer_at node.indexers c.args.number) node.core node.log (zip_at (λ reader indexer. IndexerStands g.L.SourceLog.told g.L.SourceLog.fault_count reader indexer node.core node.log) c.args.self.now.indexers.items node.indexers
    c.args.number c.index_mut.result.now p.indexers (omega (arith, c.requires, c.args.self.now.indexers.ok.0)) c.index_mut.ensures.value) (assigned_names c.args.partitions.now c.in_ok-partitions.partitions copy names) in
    most_done g.L.SourceLog.told g.L.SourceLog.fault_count g.L.SourceLog.since firsts node (said.Assign c.args.number c.args.partitions.now) _ c.assigned.result calm (said.assigned c.args.number c.in-Some.count)
    (with_indexer c.args.number (record (indexer_at node.indexers c.args.number) { assignment = Some c.args.partitions.now }) node)
    (assign_idle (indexer_at node.indexers c.args.number).place c.args.number c.args.partitions.now (indexer_at node.indexers c.args.number) node w.0
    ∙ ap (λ n. turned (said.assigned c.args.number n) (with_indexer c.args.number (record (indexer_at node.indexers c.args.number) { assignment = Some c.args.partitions.now }) node))
    (sym (c.in-Some.ensures.count ∙ ap length copy))) c.assigned.ensures
    (placed_parts g.L.SourceLog.told g.L.SourceLog.fault_count g.L.SourceLog.since g.met.L.SourceLog.since_then firsts c.args.self.now.gate.world c.args.self.now.indexers.items c.args.self.now.merger.place c.args.self.now.deleter.place c.args.self.now.clients.items c.args.self.now.places.entries c.args.self.now.moment c.args.self.now.down node p c.args.number c.index_mut.result.now c.assign.new.indexer (record (indexer_at node.indexers c.args.number) { assignment = Some c.args.partitions.now }) (omega (arith, c.requires, c.args.self.now.indexers.ok.0)) c.index_mut.ensures.value
    (subst (λ l. g.L.SourceLog.since c.index_mut.result.now.log l) (sym c.in-Some.ensures.log) (g.met.L.SourceLog.since_itself c.index_mut.result.now.log)) refl
    (subst (λ (ns : List (List ℕ)). IndexerStands g.L.SourceLog.told g.L.SourceLog.fault_count c.assign.new.indexer (record (indexer_at node.indexers c.args.number) { assignment = Some ns }) node.core node.log) copy w.1))

pub returns-in-None-clause-does : goal.returns-in-None-clause-does
returns-in-None-clause-does g c = λ firsts node p names.
    let w = c.in-None.ensures.none (indexer_at node.indexers c.args.number) node.core node.log (zip_at (λ reader indexer. IndexerStands g.L.SourceLog.told g.L.SourceLog.fault_count reader indexer node.core node.log) c.args.self.now.indexers.items node.indexers
    c.args.number c.index_mut.result.now p.indexers (omega (arith, c.requires, c.args.self.now.indexers.ok.0)) c.index_mut.ensures.value) in
    most_done g.L.SourceLog.told g.L.SourceLog.fault_count g.L.SourceLog.since firsts node (said.Assign c.args.number c.args.partitions.now) _ c.indexer_busy.result calm (said.indexer_busy c.args.number)
    (with_indexer c.args.number (indexer_at node.indexers c.args.number) node)
    (assign_busy (indexer_at node.indexers c.args.number).place c.args.number c.args.partitions.now (indexer_at node.indexers c.args.number) node w.0
    ∙ ap (λ ys. turned (said.indexer_busy c.args.number) (record node { indexers = ys })) (sym (set_self node.indexers c.args.number))) c.indexer_busy.ensures
    (placed_parts g.L.SourceLog.told g.L.SourceLog.fault_count g.L.SourceLog.since g.met.L.SourceLog.since_then firsts c.args.self.now.gate.world c.args.self.now.indexers.items c.args.self.now.merger.place c.args.self.now.deleter.place c.args.self.now.clients.items c.args.self.now.places.entries c.args.self.now.moment c.args.self.now.down node p c.args.number c.index_mut.result.now c.assign.new.indexer (indexer_at node.indexers c.args.number) (omega (arith, c.requires, c.args.self.now.indexers.ok.0)) c.index_mut.ensures.value
    (subst (λ l. g.L.SourceLog.since c.index_mut.result.now.log l) (sym c.in-None.ensures.log) (g.met.L.SourceLog.since_itself c.index_mut.result.now.log)) refl w.1)

pub returns-in_err-partitions-clause-prints : goal.returns-in_err-partitions-clause-prints
returns-in_err-partitions-clause-prints g c = if_short c.from_residual.result _ c.from_residual.ensures.0

pub returns-in-Some-clause-prints : goal.returns-in-Some-clause-prints
returns-in-Some-clause-prints g c =
    let number = c.args.number in
    let text = outcome_text (said.assigned number (length c.args.partitions.now)) in
    let same = c.in-Some.ensures.count ∙ ap length c.in_ok-partitions.ensures in
    if_ok_where c.assigned.result (λ out. out ≡ outcome_text (said.assigned number c.in-Some.count)) (λ out. (out ≡ text) ⊎ (out ≡ outcome_text (said.indexer_busy number)))
    (λ out h. inl (h ∙ ap (λ (n : ℕ). outcome_text (said.assigned number n)) same)) c.assigned.ensures

pub returns-in-None-clause-prints : goal.returns-in-None-clause-prints
returns-in-None-clause-prints g c =
    let busy = outcome_text (said.indexer_busy c.args.number) in
    if_ok_where c.indexer_busy.result (λ out. out ≡ busy) (λ out. (out ≡ outcome_text (said.assigned c.args.number (length c.args.partitions.now))) ⊎ (out ≡ busy)) (λ out h. inr h) c.indexer_busy.ensures
