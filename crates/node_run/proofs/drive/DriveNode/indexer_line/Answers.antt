use Rattle.std.proofs.Common.{◌∙◌, ap, sym, arith, false, [], ◌≡◌, refl}
use Rattle.indexing_run.specs.Standing.{IndexerStands}
use Rattle.std.specs.Prelude.{length, slice_set}
use Rattle.node_run.specs.Node as said
use Rattle.node_run.specs.Turns.{calm, with_indexer, indexer_at, indexer_turn_by, said_by_indexer}
use Rattle.node_run.proofs.Zips.{zip_at}
use Rattle.node_run.proofs.Parts.{most_done, most_short, stepped_parts, indexer_turns, said_some}
use Rattle.std.proofs.lemmas.Option.{slice_get_read}
use Rattle.node_run.specs.Lines.{outcome_text}
use Rattle.node_run.specs.Printing.{PrintsIndexer, said_text}
use Rattle.node_run.proofs.Printed.{if_ok_where, if_short, where_down, where_up}
use Rattle.node_run.proofs.drive.DriveNode.indexer_line.Goals as goal

pub returns-then-self-clause-does : goal.returns-then-self-clause-does
returns-then-self-clause-does g c = λ firsts node p.
    most_done g.L.SourceLog.told g.L.SourceLog.fault_count g.L.SourceLog.since firsts node (said.StepIndexer c.args.number) _ c.indexer_down.result calm (said.indexer_down c.args.number) node
    (ap (λ b. indexer_turn_by b calm c.args.number node) (sym p.down ∙ c.if-self.true)) c.indexer_down.ensures p

pub returns-in_err-outcome-clause-does : goal.returns-in_err-outcome-clause-does
returns-in_err-outcome-clause-does g c = λ firsts node p.
    let s = c.in_err-outcome.ensures.step (indexer_at node.indexers c.args.number) node.core node.log
    (zip_at (λ reader indexer. IndexerStands g.L.SourceLog.told g.L.SourceLog.fault_count reader indexer node.core node.log) c.args.self.now.indexers.items node.indexers
    c.args.number c.index_mut.result.now p.indexers (omega (arith, c.requires, c.args.self.now.indexers.ok.0)) c.index_mut.ensures.value) p.world_stands in
    most_short g.L.SourceLog.told g.L.SourceLog.fault_count g.L.SourceLog.since firsts node (said.StepIndexer c.args.number) _ _ c.from_residual.result c.from_residual.ensures.1 (record { log = s.luck.log; world = s.luck.world; more = []; ends = []; inner = s.luck.short; early = false; short = false })
    (record { said = said_by_indexer c.args.number s.outcome; node = record (with_indexer c.args.number s.after node) { core = s.behind } })
    (indexer_turns g.L.SourceLog.told g.L.SourceLog.fault_count node c.args.number c.step_indexer.new.indexer c.step_indexer.new.gate.world _ (sym p.down ∙ c.if-self.false) s)
    (stepped_parts g.L.SourceLog.told g.L.SourceLog.fault_count g.L.SourceLog.since g.met.L.SourceLog.since_then firsts c.args.self.now.gate.world c.args.self.now.indexers.items c.args.self.now.merger.place c.args.self.now.deleter.place c.args.self.now.clients.items c.args.self.now.places.entries c.args.self.now.moment c.args.self.now.down node p c.args.number c.index_mut.result.now c.step_indexer.new.indexer c.step_indexer.new.gate.world _
    (omega (arith, c.requires, c.args.self.now.indexers.ok.0)) c.index_mut.ensures.value c.in_err-outcome.ensures.later s)

pub returns-clause-does : goal.returns-clause-does
returns-clause-does g c = λ firsts node p.
    let s = c.in_ok-outcome.ensures.step (indexer_at node.indexers c.args.number) node.core node.log
    (zip_at (λ reader indexer. IndexerStands g.L.SourceLog.told g.L.SourceLog.fault_count reader indexer node.core node.log) c.args.self.now.indexers.items node.indexers
    c.args.number c.index_mut.result.now p.indexers (omega (arith, c.requires, c.args.self.now.indexers.ok.0)) c.index_mut.ensures.value) p.world_stands in
    let x = said_some c.in_ok-outcome.outcome s.outcome s.answer in
    most_done g.L.SourceLog.told g.L.SourceLog.fault_count g.L.SourceLog.since firsts node (said.StepIndexer c.args.number) _ c.indexer-line.result (record { log = s.luck.log; world = s.luck.world; more = []; ends = []; inner = s.luck.short; early = false; short = false }) (said.indexer_said c.args.number x.0)
    (record (with_indexer c.args.number s.after node) { core = s.behind })
    (indexer_turns g.L.SourceLog.told g.L.SourceLog.fault_count node c.args.number c.step_indexer.new.indexer c.step_indexer.new.gate.world _ (sym p.down ∙ c.if-self.false) s ∙ ap (λ o. record { said = said_by_indexer c.args.number o; node = record (with_indexer c.args.number s.after node) { core = s.behind } }) x.1)
    (c.indexer-line.ensures.said x.0 x.2)
    (stepped_parts g.L.SourceLog.told g.L.SourceLog.fault_count g.L.SourceLog.since g.met.L.SourceLog.since_then firsts c.args.self.now.gate.world c.args.self.now.indexers.items c.args.self.now.merger.place c.args.self.now.deleter.place c.args.self.now.clients.items c.args.self.now.places.entries c.args.self.now.moment c.args.self.now.down node p c.args.number c.index_mut.result.now c.step_indexer.new.indexer c.step_indexer.new.gate.world _
    (omega (arith, c.requires, c.args.self.now.indexers.ok.0)) c.index_mut.ensures.value c.in_ok-outcome.ensures.later s)

pub returns-then-self-clause-prints : goal.returns-then-self-clause-prints
returns-then-self-clause-prints g c =
    where_down c.args.self.now.down c.indexer_down.result (λ out. out ≡ outcome_text (said.indexer_down c.args.number))
    (PrintsIndexer g.L.SourceLog.told g.L.SourceLog.fault_count c.args.number c.args.self.now.indexers.items c.args.self.now.indexers.items c.args.self.now.gate.world c.args.self.now.gate.world)
    c.if-self.true c.indexer_down.ensures

pub returns-in_err-outcome-clause-prints : goal.returns-in_err-outcome-clause-prints
returns-in_err-outcome-clause-prints g c = if_short c.from_residual.result _ c.from_residual.ensures.0

pub returns-clause-prints : goal.returns-clause-prints
returns-clause-prints g c =
    let readers = c.args.self.now.indexers.items in
    where_up c.args.self.now.down c.indexer-line.result (λ out. out ≡ outcome_text (said.indexer_down c.args.number))
    (PrintsIndexer g.L.SourceLog.told g.L.SourceLog.fault_count c.args.number readers (slice_set readers c.args.number c.step_indexer.new.indexer) c.args.self.now.gate.world c.step_indexer.new.gate.world)
    c.if-self.false
    (if_ok_where c.indexer-line.result (λ out. out ≡ said_text c.args.number c.in_ok-outcome.outcome)
    (PrintsIndexer g.L.SourceLog.told g.L.SourceLog.fault_count c.args.number readers (slice_set readers c.args.number c.step_indexer.new.indexer) c.args.self.now.gate.world c.step_indexer.new.gate.world) (λ out h. record {
      reader = c.index_mut.result.now;
      after = c.step_indexer.new.indexer;
      at = slice_get_read readers (length readers) c.args.number c.index_mut.result.now refl (omega (arith, c.requires, c.args.self.now.indexers.ok.0)) c.index_mut.ensures.value;
      behind = refl;
      outcome = c.in_ok-outcome.outcome;
      ends = c.in_ok-outcome.ensures.ends;
      printed = h;
    }) c.indexer-line.ensures.exact)
