use Rattle.std.proofs.Common.{sym, ap, ◌∙◌, subst, arith}
use Rattle.quick_node.specs.Creating.{CreatesUpTo, EndsCreateBy, counts_at}
use Rattle.quick_node.specs.Opening.{outside_of, CreateFinds, BeforeLine}
use Rattle.quick_node.proofs.Caused.{made_causes}
use Rattle.quick_node.proofs.DriveClause.{kept_logs}
use Rattle.quick_node.proofs.Finding.{create_ends}
use Rattle.quick_node.proofs.CreateClause.{created_after}
use Rattle.quick_node.proofs.LongerLog.{index_longer}
use Rattle.quick_node.proofs.serving.create.Goals as goal

pub returns-clause-creates : goal.returns-clause-creates
returns-clause-creates g c history before shows enters =
    let streams = shows.streams_show in
    let index = index_longer before.kept history enters.log before.log enters.was_log enters.is_log enters.extends enters.index in
    let made = c.create_index-end.ensures.creates history before shows.kept shows.store_faults streams.input_left streams.read_faults streams.written streams.write_faults index in
    let done = created_after g.S.ObjectStore.told g.S.ObjectStore.fault_count g.L.SourceLog.fault_count g.L.SourceLog.since g.R.Source.left g.R.Source.fault_count g.W.Sink.content g.W.Sink.fault_count
    history before made.0 enters.is_log c.create_index-end.result.0 c.ended.result.0.store c.ended.result.0.store_faults c.ended.result.0.log_faults c.ended.result.0.status c.args.logs.items c.create_index-end.new.input
    c.create_index-end.new.output c.ended.new.output
    (subst (λ s. CreatesUpTo history before made.0 (g.S.ObjectStore.told s) (g.W.Sink.content c.create_index-end.new.output) (counts_at (g.S.ObjectStore.fault_count s) (g.R.Source.fault_count c.create_index-end.new.input)
    (g.W.Sink.fault_count c.create_index-end.new.output)) c.create_index-end.result.0) (sym c.ended.ensures.store) made.2)
    (c.ended.ensures.store_faults ∙ sym (ap g.S.ObjectStore.fault_count c.ended.ensures.store)) _
    (kept_logs g.L.SourceLog.fault_count g.L.SourceLog.since g.met.L.SourceLog.since_itself c.args.logs.items _ before.log_faults c.ended.ensures.logs shows.logs_show.log_faults) c.ended.ensures.log_sum
    (omega (arith, c.create_index-end.ensures.written_on, streams.write_faults)) c.ended.ensures.counted c.ended.ensures.writes in
    (done.0, done.1, (made.0, made.1, done.2), done.3)

pub returns-clause-opening : goal.returns-clause-opening
returns-clause-opening g c =
    let before = outside_of (g.S.ObjectStore.told c.args.store) (g.S.ObjectStore.fault_count c.args.store) (g.R.Source.left c.args.input.now) (g.R.Source.fault_count c.args.input.now)
    (g.W.Sink.content c.args.output.now) (g.W.Sink.fault_count c.args.output.now) in
    record {
      end = c.create_index-end.result.0;
      status_is = c.ended.ensures.status;
      says = create_ends before (g.S.ObjectStore.told c.ended.result.0.store) (g.S.ObjectStore.fault_count c.ended.result.0.store) (g.R.Source.left c.create_index-end.new.input) (g.R.Source.fault_count c.create_index-end.new.input)
          (g.W.Sink.content c.create_index-end.new.output) (g.W.Sink.content c.ended.new.output) (g.W.Sink.fault_count c.create_index-end.new.output) (g.W.Sink.fault_count c.ended.new.output) c.ended.result.0.status c.ended.ensures.counted
          (g.C.Clock.told c.args.clock) c.create_index-end.result.0 c.ended.ensures.writes
          (subst (λ s. BeforeLine (CreateFinds (g.C.Clock.told c.args.clock)) before (outside_of (g.S.ObjectStore.told s) (g.S.ObjectStore.fault_count s) (g.R.Source.left c.create_index-end.new.input)
          (g.R.Source.fault_count c.create_index-end.new.input) (g.W.Sink.content c.create_index-end.new.output) (g.W.Sink.fault_count c.create_index-end.new.output)) c.create_index-end.result.0)
          (sym c.ended.ensures.store) c.create_index-end.ensures.opening);
    }

pub returns-clause-causes : goal.returns-clause-causes
returns-clause-causes g c =
    made_causes (g.S.ObjectStore.fault_count c.args.store) (g.R.Source.fault_count c.args.input.now) (g.W.Sink.fault_count c.args.output.now) (g.S.ObjectStore.fault_count c.ended.result.0.store)
    (g.R.Source.fault_count c.create_index-end.new.input) (g.W.Sink.fault_count c.create_index-end.new.output) (g.W.Sink.fault_count c.ended.new.output) c.ended.result.0.status
    c.create_index-end.ensures.read_on c.create_index-end.ensures.written_on c.ended.ensures.counted c.create_index-end.result.0
    (subst (λ n. EndsCreateBy (counts_at (g.S.ObjectStore.fault_count c.args.store) (g.R.Source.fault_count c.args.input.now) (g.W.Sink.fault_count c.args.output.now))
    (counts_at n (g.R.Source.fault_count c.create_index-end.new.input) (g.W.Sink.fault_count c.create_index-end.new.output)) c.create_index-end.result.0)
    (sym (ap g.S.ObjectStore.fault_count c.ended.ensures.store)) c.create_index-end.ensures.causes) c.ended.ensures.status

pub returns-clause-store_faults : goal.returns-clause-store_faults
returns-clause-store_faults g c = c.ended.ensures.store_faults ∙ sym (ap g.S.ObjectStore.fault_count c.ended.ensures.store)

pub returns-clause-log_sum : goal.returns-clause-log_sum
returns-clause-log_sum g c = c.ended.ensures.log_sum

pub returns-clause-unread : goal.returns-clause-unread
returns-clause-unread g c = c.ended.ensures.logs
