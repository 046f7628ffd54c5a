use Rattle.std.proofs.Common.{◌≡◌, ℕ, List, ◌++◌, refl, sym, ap, subst, arith}
use Rattle.std.specs.Prelude.{Option, Some}
use Rattle.object_store.specs.Store.{State, HasLanded, WhereTold}
use Rattle.meta_store.specs.State as meta
use Rattle.index_world.specs.Core.{Core}
use Rattle.index_world.specs.Loading.{LoadsWorld, LoadsNone}
use Rattle.index_world.specs.Opened.{OpensIndex}
use Rattle.index_world.specs.Taking.{IsFaultBetween}
use Rattle.quick_node.specs.Opening.{outside_of, OutputStays}
use Rattle.quick_node.specs.Reporting.{report_text, SaysReport}
use Rattle.quick_node.proofs.Finding.{found_report, written_finds}
use Rattle.quick_node.proofs.CreateLeaves.{first_core, first_world}
use Rattle.quick_node.proofs.ReportLeaves.{opens_landed, opens_not_landed, opened_up_to, unopened_up_to}
use Rattle.quick_node.proofs.reporting.write_report.Goals as goal

pub at-requires : goal.at-requires
at-requires g c = omega arith

pub returns-in-Ok-clause-reports : goal.returns-in-Ok-clause-reports
returns-in-Ok-clause-reports g c history before told count content writes i =
    let core : Core = first_core history before 0 i in
    let l : LoadsWorld core before.log c.in-Ok.world = c.in-Ok.ensures.step before.kept core before.log told count (ap Some c.at.ensures) (omega arith) refl (first_world history before 0 i) in
    let says : (said : List ℕ) × (g.W.Sink.content c.say_report-end.new.output ≡ Some (before.written ++ said))
    × SaysReport (report_text c.args.asked c.in-Ok.world.meta) (g.W.Sink.fault_count c.args.output.now) (g.W.Sink.fault_count c.say_report-end.new.output) said c.say_report-end.result =
    subst (λ (s : meta.State). (said : List ℕ) × (g.W.Sink.content c.say_report-end.new.output ≡ Some (before.written ++ said))
    × SaysReport (report_text c.args.asked s) (g.W.Sink.fault_count c.args.output.now) (g.W.Sink.fault_count c.say_report-end.new.output) said c.say_report-end.result) c.meta.ensures
    (c.say_report-end.ensures.says before.written content) in
    opened_up_to c.args.asked history before i c.in-Ok.world l (g.S.ObjectStore.told c.args.store) (g.S.ObjectStore.told c.unload-store.result.0) (g.W.Sink.content c.say_report-end.new.output)
    (g.S.ObjectStore.fault_count c.unload-store.result.0) (g.W.Sink.fault_count c.args.output.now) (g.W.Sink.fault_count c.say_report-end.new.output) c.say_report-end.result told c.unload-store.ensures.told
    (subst (λ (o : Option State). WhereTold (g.S.ObjectStore.told c.args.store) o HasLanded) (sym c.unload-store.ensures.told) (opens_landed (g.S.ObjectStore.told c.args.store) c.in-Ok.world.told c.in-Ok.world c.in-Ok.ensures.opened)) writes says

pub returns-in-Ok-clause-landed : goal.returns-in-Ok-clause-landed
returns-in-Ok-clause-landed g c =
    subst (λ (o : Option State). WhereTold (g.S.ObjectStore.told c.args.store) o HasLanded) (sym c.unload-store.ensures.told) (opens_landed (g.S.ObjectStore.told c.args.store) c.in-Ok.world.told c.in-Ok.world c.in-Ok.ensures.opened)

pub returns-in-Ok-clause-causes : goal.returns-in-Ok-clause-causes
returns-in-Ok-clause-causes g c = c.say_report-end.ensures.causes (g.S.ObjectStore.fault_count c.args.store) (g.S.ObjectStore.fault_count c.unload-store.result.0)

pub returns-in-Err-clause-reports : goal.returns-in-Err-clause-reports
returns-in-Err-clause-reports g c history before told count content writes i =
    let core : Core = first_core history before 0 i in
    let error = c.in-Err.field-0.error in
    let behind = g.S.ObjectStore.told c.in-Err.field-0.store in
    let faults = g.S.ObjectStore.fault_count c.in-Err.field-0.store in
    let l : LoadsNone core before.log error behind faults = c.in-Err.ensures.step before.kept core before.log told count (ap Some c.at.ensures) (omega arith) refl (first_world history before 0 i) in
    unopened_up_to c.args.asked history before i error (g.S.ObjectStore.told c.args.store) behind (g.W.Sink.content c.args.output.now) faults (g.W.Sink.fault_count c.args.output.now) told content l
    (opens_not_landed (g.S.ObjectStore.told c.args.store) behind (g.S.ObjectStore.fault_count c.args.store) faults error c.in-Err.ensures.opened) (subst (λ (n : ℕ). IsFaultBetween n faults error) count c.in-Err.ensures.faults)

pub returns-in-Err-clause-landed : goal.returns-in-Err-clause-landed
returns-in-Err-clause-landed g c =
    opens_not_landed (g.S.ObjectStore.told c.args.store) (g.S.ObjectStore.told c.in-Err.field-0.store) (g.S.ObjectStore.fault_count c.args.store) (g.S.ObjectStore.fault_count c.in-Err.field-0.store) c.in-Err.field-0.error c.in-Err.ensures.opened

pub returns-in-Ok-clause-opening : goal.returns-in-Ok-clause-opening
returns-in-Ok-clause-opening g c input read =
    let before = outside_of (g.S.ObjectStore.told c.args.store) (g.S.ObjectStore.fault_count c.args.store) input read (g.W.Sink.content c.args.output.now) (g.W.Sink.fault_count c.args.output.now) in
    let after = outside_of (g.S.ObjectStore.told c.unload-store.result.0) (g.S.ObjectStore.fault_count c.unload-store.result.0) input read (g.W.Sink.content c.say_report-end.new.output) (g.W.Sink.fault_count c.say_report-end.new.output) in
    let opened = subst (λ (o : Option State). WhereTold (g.S.ObjectStore.told c.args.store) o (OpensIndex c.in-Ok.world)) (sym c.unload-store.ensures.told) c.in-Ok.ensures.opened in
    written_finds c.args.asked (λ _. OutputStays before after) before after c.say_report-end.result c.say_report-end.ensures.writing
    (found_report c.args.asked before after c.in-Ok.world c.say_report-end.result opened
    (subst (λ (s : meta.State). (held : List ℕ) → g.W.Sink.content c.args.output.now ≡ Some held → (said : List ℕ) × (g.W.Sink.content c.say_report-end.new.output ≡ Some (held ++ said))
    × SaysReport (report_text c.args.asked s) (g.W.Sink.fault_count c.args.output.now) (g.W.Sink.fault_count c.say_report-end.new.output) said c.say_report-end.result) c.meta.ensures
    c.say_report-end.ensures.says))

pub returns-in-Err-clause-opening : goal.returns-in-Err-clause-opening
returns-in-Err-clause-opening g c input read = record { why = c.in-Err.ensures.opened; input = (refl, refl); line = (refl, refl) }
