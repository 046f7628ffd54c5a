use Rattle.std.proofs.Common.{◌≡◌, ◌++◌, [], map, inl, refl, sym, ap, ◌∙◌, subst, append-nil, arith}
use Rattle.std.specs.Prelude.{Some, Ok}
use Rattle.node_run.specs.Calm.{log_counts}
use Rattle.node_run.specs.Logs.{logs_in}
use Rattle.node_run.specs.Standing.{NodeStands}
use Rattle.node_run.specs.Standing.{fresh_node}
use Rattle.quick_node.specs.declared.error_line.End.TheVariants as ended
use Rattle.quick_node.proofs.DriveClause.{opened_is, opened_clock, opened_counts, kept_logs, returned}
use Rattle.quick_node.proofs.BeforeLastLine.{met_unstarted}
use Rattle.quick_node.specs.Running.{counts_of}
use Rattle.quick_node.proofs.Caused.{run_causes}
use Rattle.quick_node.proofs.serving.drive_world.Goals as goal

pub returns-in-Ok-clause-drives : goal.returns-in-Ok-clause-drives
returns-in-Ok-clause-drives g c history before fresh opened is opens begun world is_log logs streams =
    let same : fresh_node opened.core before.log (map g.L.SourceLog.fault_count c.args.logs.items) ≡ opened =
    ap (fresh_node opened.core before.log) logs.log_faults ∙ sym (opened_is history before fresh is (Ok tt) opened opens) in
    c.drive_node.ensures.drives history before c.args.logs.items fresh opened is opens begun
    (subst (λ n. NodeStands g.L.SourceLog.told g.L.SourceLog.fault_count g.L.SourceLog.since c.args.logs.items c.in-Ok.node n) same
    (c.in-Ok.ensures.ok opened.core before.log world (opened_clock history before fresh is (Ok tt) opened opens) is_log logs.log))
    streams

pub returns-in-Err-clause-drives : goal.returns-in-Err-clause-drives
returns-in-Err-clause-drives g c history before fresh opened is opens begun world is_log logs streams =
    let same = c.in-Err.ensures.err in
    let counts : log_counts opened.indexers ≡ before.log_faults = opened_counts history before fresh is (Ok tt) opened opens in
    returned g.S.ObjectStore.told g.S.ObjectStore.fault_count g.L.SourceLog.fault_count g.L.SourceLog.since g.R.Source.left g.R.Source.fault_count g.W.Sink.content g.W.Sink.fault_count
    history before fresh opened is is_log ended.Memory (g.R.Source.left c.args.input.now) (g.R.Source.fault_count c.args.input.now) (g.W.Sink.fault_count c.args.output.now) []
    (met_unstarted before fresh opened opens begun (g.R.Source.left c.args.input.now) (g.R.Source.fault_count c.args.input.now) (g.W.Sink.fault_count c.args.output.now))
    c.ended.result.0.store c.ended.result.0.store_faults c.ended.result.0.log_faults c.ended.result.0.status c.args.logs.items c.args.input.now c.ended.new.output
    world.kept (ap g.S.ObjectStore.told c.ended.ensures.store ∙ c.unload-store.ensures.told ∙ ap (λ w. w.told) same.0 ∙ world.told) (ap g.S.ObjectStore.fault_count c.ended.ensures.store ∙ sym c.ended.ensures.store_faults) world.world
    (sym (c.ended.ensures.store_faults ∙ c.unload-store.ensures.faults ∙ ap (λ w. w.store_faults) same.0 ∙ world.store_faults))
    (logs_in c.ended.result.1)
    (kept_logs g.L.SourceLog.fault_count g.L.SourceLog.since g.met.L.SourceLog.since_itself c.args.logs.items (logs_in c.ended.result.1) (log_counts opened.indexers)
    (c.ended.ensures.logs ∙ same.1) (logs.log_faults ∙ sym counts)) c.ended.ensures.log_sum
    refl (omega arith) (omega (arith, streams.write_faults)) c.ended.ensures.counted
    (c.ended.ensures.writes (before.written ++ []) (streams.written ∙ ap Some (sym (append-nil before.written))))

pub returns-in-Ok-clause-opening : goal.returns-in-Ok-clause-opening
returns-in-Ok-clause-opening g c before found = c.drive_node.ensures.opening before found

pub returns-in-Err-clause-opening : goal.returns-in-Err-clause-opening
returns-in-Err-clause-opening g c before found = record { end = ended.Memory; status_is = c.ended.ensures.status; says = inl found }

pub returns-in-Ok-clause-causes : goal.returns-in-Ok-clause-causes
returns-in-Ok-clause-causes g c low high = c.drive_node.ensures.causes low high

pub returns-in-Ok-clause-store_faults : goal.returns-in-Ok-clause-store_faults
returns-in-Ok-clause-store_faults g c = c.drive_node.ensures.store_faults

pub returns-in-Err-clause-causes : goal.returns-in-Err-clause-causes
returns-in-Err-clause-causes g c low high =
    run_causes (counts_of (g.R.Source.fault_count c.args.input.now) (g.R.Source.fault_count c.args.input.now) (g.W.Sink.fault_count c.args.output.now) (g.W.Sink.fault_count c.args.output.now)) low high (g.W.Sink.fault_count c.ended.new.output)
    c.ended.result.0.status (omega arith) (omega arith) c.ended.ensures.counted ended.Memory tt c.ended.ensures.status

pub returns-in-Err-clause-store_faults : goal.returns-in-Err-clause-store_faults
returns-in-Err-clause-store_faults g c = c.ended.ensures.store_faults ∙ sym (ap g.S.ObjectStore.fault_count c.ended.ensures.store)

pub returns-in-Ok-clause-log_sum : goal.returns-in-Ok-clause-log_sum
returns-in-Ok-clause-log_sum g c = c.drive_node.ensures.log_sum

pub returns-in-Err-clause-log_sum : goal.returns-in-Err-clause-log_sum
returns-in-Err-clause-log_sum g c = c.ended.ensures.log_sum
