use Rattle.std.proofs.Common.{sym, ap, ◌∙◌, subst, arith}
use Rattle.object_store.specs.Store.{HasLanded, WhereTold}
use Rattle.quick_node.specs.Opening.{outside_of, ReportFinds, BeforeLine}
use Rattle.quick_node.specs.Reporting.{ReportsUpTo, EndsReportBy}
use Rattle.quick_node.proofs.CausedReports.{report_causes}
use Rattle.quick_node.proofs.DriveClause.{kept_logs}
use Rattle.quick_node.proofs.Finding.{report_ends}
use Rattle.quick_node.proofs.LongerLog.{index_longer}
use Rattle.quick_node.proofs.ReportClause.{reported_after}
use Rattle.quick_node.proofs.serving.report.Goals as goal

pub returns-clause-reports : goal.returns-clause-reports
returns-clause-reports g c history before shows enters =
    let streams = shows.streams_show in
    let index = index_longer before.kept history enters.log before.log enters.was_log enters.is_log enters.extends enters.index in
    let u = c.write_report-end.ensures.reports history before shows.kept shows.store_faults streams.written streams.write_faults index in
    reported_after g.S.ObjectStore.told g.S.ObjectStore.fault_count g.L.SourceLog.fault_count g.L.SourceLog.since g.R.Source.left g.R.Source.fault_count g.W.Sink.content g.W.Sink.fault_count
    c.args.asked history before enters.is_log index c.write_report-end.result.0 c.ended.result.0.store c.ended.result.0.store_faults c.ended.result.0.log_faults c.ended.result.0.status c.args.logs.items c.args._input.now
    c.write_report-end.new.output c.ended.new.output
    (subst (λ s. ReportsUpTo c.args.asked history before (g.S.ObjectStore.told s) (g.W.Sink.content c.write_report-end.new.output) (g.S.ObjectStore.fault_count s) (g.W.Sink.fault_count c.write_report-end.new.output) c.write_report-end.result.0)
    (sym c.ended.ensures.store) u)
    (c.ended.ensures.store_faults ∙ sym (ap g.S.ObjectStore.fault_count c.ended.ensures.store)) _
    (kept_logs g.L.SourceLog.fault_count g.L.SourceLog.since g.met.L.SourceLog.since_itself c.args.logs.items _ before.log_faults c.ended.ensures.logs shows.logs_show.log_faults) c.ended.ensures.log_sum
    (omega (arith, c.write_report-end.ensures.later, streams.write_faults)) c.ended.ensures.counted c.ended.ensures.writes

pub returns-clause-opening : goal.returns-clause-opening
returns-clause-opening g c =
    let before = outside_of (g.S.ObjectStore.told c.args.store) (g.S.ObjectStore.fault_count c.args.store) (g.R.Source.left c.args._input.now) (g.R.Source.fault_count c.args._input.now)
    (g.W.Sink.content c.args.output.now) (g.W.Sink.fault_count c.args.output.now) in
    record {
      end = c.write_report-end.result.0;
      status_is = c.ended.ensures.status;
      says = report_ends before (g.S.ObjectStore.told c.ended.result.0.store) (g.S.ObjectStore.fault_count c.ended.result.0.store) (g.R.Source.left c.args._input.now) (g.R.Source.fault_count c.args._input.now)
          (g.W.Sink.content c.write_report-end.new.output) (g.W.Sink.content c.ended.new.output) (g.W.Sink.fault_count c.write_report-end.new.output) (g.W.Sink.fault_count c.ended.new.output) c.ended.result.0.status c.ended.ensures.counted
          c.args.asked c.write_report-end.result.0 c.ended.ensures.writes
          (subst (λ s. BeforeLine (ReportFinds c.args.asked) before (outside_of (g.S.ObjectStore.told s) (g.S.ObjectStore.fault_count s) (g.R.Source.left c.args._input.now)
          (g.R.Source.fault_count c.args._input.now) (g.W.Sink.content c.write_report-end.new.output) (g.W.Sink.fault_count c.write_report-end.new.output)) c.write_report-end.result.0)
          (sym c.ended.ensures.store) (c.write_report-end.ensures.opening (g.R.Source.left c.args._input.now) (g.R.Source.fault_count c.args._input.now)));
    }

pub returns-clause-landed : goal.returns-clause-landed
returns-clause-landed g c =
    subst (λ s. WhereTold (g.S.ObjectStore.told c.args.store) (g.S.ObjectStore.told s) HasLanded) (sym c.ended.ensures.store) c.write_report-end.ensures.landed

pub returns-clause-causes : goal.returns-clause-causes
returns-clause-causes g c =
    report_causes (g.S.ObjectStore.fault_count c.args.store) (g.R.Source.fault_count c.args._input.now) (g.W.Sink.fault_count c.args.output.now) (g.S.ObjectStore.fault_count c.ended.result.0.store)
    (g.W.Sink.fault_count c.write_report-end.new.output) (g.W.Sink.fault_count c.ended.new.output) c.ended.result.0.status c.write_report-end.ensures.later c.ended.ensures.counted c.write_report-end.result.0
    (subst (λ n. EndsReportBy (g.S.ObjectStore.fault_count c.args.store) (g.W.Sink.fault_count c.args.output.now) n (g.W.Sink.fault_count c.write_report-end.new.output) c.write_report-end.result.0)
    (sym (ap g.S.ObjectStore.fault_count c.ended.ensures.store)) c.write_report-end.ensures.causes) c.ended.ensures.status

pub returns-clause-store_faults : goal.returns-clause-store_faults
returns-clause-store_faults g c = c.ended.ensures.store_faults ∙ sym (ap g.S.ObjectStore.fault_count c.ended.ensures.store)

pub returns-clause-log_sum : goal.returns-clause-log_sum
returns-clause-log_sum g c = c.ended.ensures.log_sum

pub returns-clause-unread : goal.returns-clause-unread
returns-clause-unread g c = c.ended.ensures.logs
