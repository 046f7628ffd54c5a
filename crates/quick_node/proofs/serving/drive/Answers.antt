use Rattle.std.proofs.Common.{◌≡◌, ◌++◌, [], refl, sym, ap, ◌∙◌, subst, append-nil, arith}
use Rattle.std.specs.Prelude.{Some, Ok, Err}
use Rattle.index_world.specs.Loading.{LoadsWorld, LoadsNone}
use Rattle.index_world.specs.Taking.{IsFaultBetween}
use Rattle.node_run.specs.Calm.{log_counts}
use Rattle.node_run.specs.Logs.{logs_in}
use Rattle.node_run.specs.Node.{Node}
use Rattle.object_store.specs.Store.{WhereTold}
use Rattle.index_world.specs.Opened.{OpensNot}
use Rattle.quick_node.specs.Opening.{outside_of}
use Rattle.quick_node.specs.Serve.{Opens}
use Rattle.quick_node.specs.declared.error_line.End.TheVariants as ended
use Rattle.quick_node.proofs.DriveClause.{new_moment, new_sure, new_unmarked, new_undoomed, opened_counts, begins, begins_along, unopened_along, kept_logs, returned}
use Rattle.quick_node.proofs.Finding.{opened_found}
use Rattle.quick_node.proofs.BeforeLastLine.{met_unopened}
use Rattle.quick_node.specs.Causes.{faults_of}
use Rattle.quick_node.proofs.Caused.{opening_causes}
use Rattle.quick_node.proofs.serving.drive.Goals as goal

pub at-requires : goal.at-requires
at-requires g c = omega arith

pub returns-in-Ok-clause-drives : goal.returns-in-Ok-clause-drives
returns-in-Ok-clause-drives g c history before shows enters =
    let b = begins history before enters in
    let fresh = b.fresh in
    let count : fresh.core.store_faults ≡ before.store_faults = ap (λ n. n.core.store_faults) b.is.is in
    let clock : fresh.core.clock ≡ 0 = ap (λ n. n.core.clock) b.is.is in
    let l : LoadsWorld fresh.core before.log c.in-Ok.world =
    c.in-Ok.ensures.step before.kept fresh.core before.log shows.kept (shows.store_faults ∙ sym count) (ap Some (c.at.ensures ∙ sym clock)) (omega (arith, clock)) (ap (λ n. n.core.frozen) b.is.is) b.world in
    let opened : Node = record fresh { core = l.after } in
    let opens : Opens fresh (Ok tt) opened = record { fate = l.loads.fate; core = l.after; did = l.loads.did; is = refl } in
    c.drive_world.ensures.drives history before fresh opened b.is opens
    (begins_along history before fresh b.is enters.is_log b.world l.loads.fate (Ok tt) l.stands.kept l.after l.loads.did l.stands.world) l.stands enters.is_log shows.logs_show shows.streams_show

pub returns-in-Err-clause-drives : goal.returns-in-Err-clause-drives
returns-in-Err-clause-drives g c history before shows enters =
    let b = begins history before enters in
    let fresh = b.fresh in
    let streams = shows.streams_show in
    let count : fresh.core.store_faults ≡ before.store_faults = ap (λ n. n.core.store_faults) b.is.is in
    let clock : fresh.core.clock ≡ 0 = ap (λ n. n.core.clock) b.is.is in
    let l : LoadsNone fresh.core before.log c.in-Err.field-0.error (g.S.ObjectStore.told c.in-Err.field-0.store) (g.S.ObjectStore.fault_count c.in-Err.field-0.store) =
    c.in-Err.ensures.step before.kept fresh.core before.log shows.kept (shows.store_faults ∙ sym count) (ap Some (c.at.ensures ∙ sym clock)) (omega (arith, clock)) (ap (λ n. n.core.frozen) b.is.is) b.world in
    let last : Node = record fresh { core = l.after } in
    let opens : Opens fresh (Err l.unread) last = record { fate = l.loads.fate; core = l.after; did = l.loads.did; is = refl } in
    returned g.S.ObjectStore.told g.S.ObjectStore.fault_count g.L.SourceLog.fault_count g.L.SourceLog.since g.R.Source.left g.R.Source.fault_count g.W.Sink.content g.W.Sink.fault_count
    history before fresh last b.is enters.is_log (ended.NotOpened c.in-Err.field-0.error) (g.R.Source.left c.args.input.now) (g.R.Source.fault_count c.args.input.now) (g.W.Sink.fault_count c.args.output.now) []
    (met_unopened before fresh last (new_moment history before fresh b.is) (new_sure history before fresh b.is) (new_unmarked history before fresh b.is) (new_undoomed history before fresh b.is)
    (unopened_along history before fresh b.is enters.is_log b.world l.loads.fate (Err l.unread) l.kept l.after l.loads.did l.world) (g.R.Source.left c.args.input.now) (g.R.Source.fault_count c.args.input.now) (g.W.Sink.fault_count c.args.output.now)
    c.in-Err.field-0.error l.unread l.says opens)
    c.ended.result.0.store c.ended.result.0.store_faults c.ended.result.0.log_faults c.ended.result.0.status c.args.logs.items c.args.input.now c.ended.new.output
    l.kept (ap g.S.ObjectStore.told c.ended.ensures.store ∙ l.tells) (ap g.S.ObjectStore.fault_count c.ended.ensures.store ∙ sym c.ended.ensures.store_faults) l.world (sym (c.ended.ensures.store_faults ∙ l.counts))
    (logs_in c.ended.result.1)
    (kept_logs g.L.SourceLog.fault_count g.L.SourceLog.since g.met.L.SourceLog.since_itself c.args.logs.items (logs_in c.ended.result.1) (log_counts last.indexers)
    c.ended.ensures.logs (shows.logs_show.log_faults ∙ sym (opened_counts history before fresh b.is (Err l.unread) last opens))) c.ended.ensures.log_sum
    refl (omega arith) (omega (arith, streams.write_faults)) c.ended.ensures.counted
    (c.ended.ensures.writes (before.written ++ []) (streams.written ∙ ap Some (sym (append-nil before.written))))

pub returns-in-Ok-clause-opening : goal.returns-in-Ok-clause-opening
returns-in-Ok-clause-opening g c =
    c.drive_world.ensures.opening (outside_of (g.S.ObjectStore.told c.args.store) (g.S.ObjectStore.fault_count c.args.store) (g.R.Source.left c.args.input.now) (g.R.Source.fault_count c.args.input.now)
    (g.W.Sink.content c.args.output.now) (g.W.Sink.fault_count c.args.output.now))
    (opened_found (g.S.ObjectStore.told c.args.store) c.in-Ok.world.told c.in-Ok.world c.in-Ok.ensures.opened)

pub returns-in-Err-clause-opening : goal.returns-in-Err-clause-opening
returns-in-Err-clause-opening g c = record {
  end = ended.NotOpened c.in-Err.field-0.error;
  status_is = c.ended.ensures.status;
  says = record {
    why = subst (λ s. WhereTold (g.S.ObjectStore.told c.args.store) (g.S.ObjectStore.told s) (OpensNot (g.S.ObjectStore.fault_count c.args.store) (g.S.ObjectStore.fault_count s) c.in-Err.field-0.error))
        (sym c.ended.ensures.store) c.in-Err.ensures.opened;
    input = (refl, refl);
    line = c.ended.ensures.writes;
  };
}

pub returns-in-Ok-clause-causes : goal.returns-in-Ok-clause-causes
returns-in-Ok-clause-causes g c = c.drive_world.ensures.causes (g.S.ObjectStore.fault_count c.args.store) (g.S.ObjectStore.fault_count c.drive_world.result.0.store)

pub returns-in-Ok-clause-store_faults : goal.returns-in-Ok-clause-store_faults
returns-in-Ok-clause-store_faults g c = c.drive_world.ensures.store_faults

pub returns-in-Err-clause-causes : goal.returns-in-Err-clause-causes
returns-in-Err-clause-causes g c =
    opening_causes (faults_of (g.S.ObjectStore.fault_count c.args.store) (g.R.Source.fault_count c.args.input.now) (g.W.Sink.fault_count c.args.output.now)) (faults_of (g.S.ObjectStore.fault_count c.ended.result.0.store) (g.R.Source.fault_count c.args.input.now) (g.W.Sink.fault_count c.ended.new.output))
    c.ended.result.0.status (omega arith) c.ended.ensures.counted c.in-Err.field-0.error
    (subst (λ n. IsFaultBetween (g.S.ObjectStore.fault_count c.args.store) n c.in-Err.field-0.error) (sym (ap g.S.ObjectStore.fault_count c.ended.ensures.store)) c.in-Err.ensures.faults) c.ended.ensures.status

pub returns-in-Err-clause-store_faults : goal.returns-in-Err-clause-store_faults
returns-in-Err-clause-store_faults g c = c.ended.ensures.store_faults ∙ sym (ap g.S.ObjectStore.fault_count c.ended.ensures.store)

pub returns-in-Ok-clause-log_sum : goal.returns-in-Ok-clause-log_sum
returns-in-Ok-clause-log_sum g c = c.drive_world.ensures.log_sum

pub returns-in-Err-clause-log_sum : goal.returns-in-Err-clause-log_sum
returns-in-Err-clause-log_sum g c = c.ended.ensures.log_sum
