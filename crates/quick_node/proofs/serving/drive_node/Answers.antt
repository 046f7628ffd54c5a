use Rattle.std.proofs.Common.{◌++◌, length, refl, sym, ap, ◌∙◌, subst, arith}
use Rattle.std.specs.Prelude.{Ok}
use Rattle.source_log.specs.Log.{IsLog}
use Rattle.index_world.specs.World.{IsWorld}
use Rattle.node_run.specs.Calm.{log_counts}
use Rattle.node_run.specs.Node.{Node}
use Rattle.node_run.specs.Standing.{NodeStands}
use Rattle.node_run.specs.Standing.{GivesLogs}
use Rattle.node_run.specs.Logs.{logs_in}
use Rattle.quick_node.specs.Opening.{outside_of, SaysAlone}
use Rattle.quick_node.specs.Running.{Counts, counts_of, Runs}
use Rattle.quick_node.proofs.DriveClause.{opened_clock, opened_clients, opened_log, opened_readers, returned}
use Rattle.quick_node.proofs.BeforeLastLine.{met_run}
use Rattle.quick_node.proofs.Finding.{run_finds}
use Rattle.quick_node.proofs.SameLog.{run_log}
use Rattle.quick_node.proofs.Caused.{run_causes}
use Rattle.quick_node.proofs.serving.drive_node.Goals as goal

pub returns-clause-drives : goal.returns-clause-drives
returns-clause-drives g c history before firsts fresh opened is opens begun stands streams =
    let Stands : Node → Type 0 = λ n. NodeStands g.L.SourceLog.told g.L.SourceLog.fault_count g.L.SourceLog.since firsts c.run-end.new.node n in
    let content = g.W.Sink.content c.run-end.new.output in
    let left = g.R.Source.left c.run-end.new.input in
    let counts : Counts = counts_of (g.R.Source.fault_count c.args.input.now) (g.R.Source.fault_count c.run-end.new.input) (g.W.Sink.fault_count c.args.output.now) (g.W.Sink.fault_count c.run-end.new.output) in
    let r : Runs Stands (length before.log_faults) before.input opened before.written content left counts c.run-end.result =
    subst (λ n. Runs Stands n before.input opened before.written content left counts c.run-end.result) (opened_readers history before fresh is (Ok tt) opened opens)
    (c.run-end.ensures.runs firsts opened before.input before.written stands (opened_clock history before fresh is (Ok tt) opened opens)
    (opened_clients history before fresh is (Ok tt) opened opens) streams.input_left streams.written) in
    let given = c.finish_with_logs-store.ensures.store firsts r.last r.stands in
    let is_log : IsLog before.log = subst IsLog (opened_log history before fresh is (Ok tt) opened opens) stands.is_log in
    let log = run_log (length before.log_faults) before.input r.end opened r.last r.lines r.outcomes r.did ∙ opened_log history before fresh is (Ok tt) opened opens in
    returned g.S.ObjectStore.told g.S.ObjectStore.fault_count g.L.SourceLog.fault_count g.L.SourceLog.since g.R.Source.left g.R.Source.fault_count g.W.Sink.content g.W.Sink.fault_count
    history before fresh r.last is is_log c.run-end.result left (g.R.Source.fault_count c.run-end.new.input) (g.W.Sink.fault_count c.run-end.new.output) r.text
    (met_run before fresh opened opens begun Stands content left counts c.run-end.result streams.read_faults streams.write_faults r)
    c.ended.result.0.store c.ended.result.0.store_faults c.ended.result.0.log_faults c.ended.result.0.status firsts c.run-end.new.input c.ended.new.output
    given.kept (ap g.S.ObjectStore.told c.ended.ensures.store ∙ given.tells) (ap g.S.ObjectStore.fault_count c.ended.ensures.store ∙ sym c.ended.ensures.store_faults) (subst (λ l. IsWorld given.kept r.last.core l) log given.world)
    (sym (c.ended.ensures.store_faults ∙ given.faults))
    (logs_in c.ended.result.1) (subst (λ ls. GivesLogs g.L.SourceLog.fault_count g.L.SourceLog.since firsts ls (log_counts r.last.indexers)) (sym c.ended.ensures.logs) (c.finish_with_logs-store.ensures.logs firsts r.last r.stands)) c.ended.ensures.log_sum
    refl (omega arith) (omega (arith, c.run-end.ensures.written, streams.write_faults)) c.ended.ensures.counted
    (c.ended.ensures.writes (before.written ++ r.text) r.written)

pub returns-clause-opening : goal.returns-clause-opening
returns-clause-opening g c before found =
    let after = outside_of (g.S.ObjectStore.told c.ended.result.0.store) (g.S.ObjectStore.fault_count c.ended.result.0.store) (g.R.Source.left c.run-end.new.input) (g.R.Source.fault_count c.run-end.new.input)
    (g.W.Sink.content c.ended.new.output) (g.W.Sink.fault_count c.ended.new.output) in
    record {
      end = c.run-end.result;
      status_is = c.ended.ensures.status;
      says = run_finds (SaysAlone before after c.ended.result.0.status) before after
          (counts_of (g.R.Source.fault_count c.args.input.now) (g.R.Source.fault_count c.run-end.new.input) (g.W.Sink.fault_count c.args.output.now) (g.W.Sink.fault_count c.run-end.new.output)) c.run-end.result c.run-end.ensures.causes found;
    }

pub returns-clause-causes : goal.returns-clause-causes
returns-clause-causes g c low high =
    run_causes (counts_of (g.R.Source.fault_count c.args.input.now) (g.R.Source.fault_count c.run-end.new.input) (g.W.Sink.fault_count c.args.output.now) (g.W.Sink.fault_count c.run-end.new.output)) low high (g.W.Sink.fault_count c.ended.new.output)
    c.ended.result.0.status c.run-end.ensures.read c.run-end.ensures.written c.ended.ensures.counted c.run-end.result c.run-end.ensures.causes c.ended.ensures.status

pub returns-clause-store_faults : goal.returns-clause-store_faults
returns-clause-store_faults g c = c.ended.ensures.store_faults ∙ sym (ap g.S.ObjectStore.fault_count c.ended.ensures.store)

pub returns-clause-log_sum : goal.returns-clause-log_sum
returns-clause-log_sum g c = c.ended.ensures.log_sum
