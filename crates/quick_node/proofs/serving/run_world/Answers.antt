use Rattle.std.proofs.Common.{◌≡◌, ◌⊎◌, ◌++◌, [], length, map, inl, refl, sym, ap, ◌∙◌, subst, arith}
use Rattle.std.specs.Prelude.{Option, Some, None}
use Rattle.byte_fields.specs.Causes.{Rose}
use Rattle.node_run.specs.Logs.{logs_in}
use Rattle.object_store.specs.Store.{State, WhereTold}
use Rattle.quick_node.specs.Ending.{ended_status, last_line}
use Rattle.quick_node.specs.Opening.{IsFoundFrom, SaysAlone, outside_of}
use Rattle.input_lines.specs.Requests.{HasRead}
use Rattle.quick_node.specs.Runs.{Runs, options_of}
use Rattle.quick_node.specs.Saying.{RanOn, end_of}
use Rattle.quick_node.specs.Serve.{WroteLine}
use Rattle.quick_node.specs.declared.error_line.End.TheVariants as ended
use Rattle.input_lines.specs.declared.requests.ReadEnd.TheVariants as reads
use Rattle.quick_node.proofs.RunClause.{goes_still, memory_silent, run_returned, runs_failed, runs_ran, runs_short, whole_is}
use Rattle.quick_node.proofs.RunFound.{failed_causes, found_from, said_causes, said_finds, short_causes, unread_finds}
use Rattle.quick_node.proofs.serving.run_world.Goals as goal

pub run_requests-requires-clause-indexers : goal.run_requests-requires-clause-indexers
run_requests-requires-clause-indexers g c κs within = c.requires.indexers

pub run_requests-requires-clause-searchers : goal.run_requests-requires-clause-searchers
run_requests-requires-clause-searchers g c κs within = c.requires.searchers

-- ---- no memory for the requests

pub returns-in_default-clause-runs : goal.returns-in_default-clause-runs
returns-in_default-clause-runs g c asked history before fresh opened same is opens counted stands is_log logs streams =
    let u = c.unused.ensures in
    let w = u.writes before.written streams.written in
    let none = memory_silent (g.W.Sink.fault_count c.args.output.now) (g.W.Sink.fault_count c.unused.new.output) c.unused.result.0.status w.text w.wrote in
    run_returned g.S.ObjectStore.told g.S.ObjectStore.fault_count g.L.SourceLog.fault_count g.L.SourceLog.since g.R.Source.left g.R.Source.fault_count g.W.Sink.content g.W.Sink.fault_count
    (λ after. Runs asked history before after c.unused.result.0.status) c.unused.result.0.store c.unused.result.0.store_faults c.unused.result.0.log_faults c.args.logs.items (logs_in c.unused.result.1) c.read_requests.new.input c.unused.new.output
    stands.kept (before.written ++ w.text) (u.store ∙ stands.told) (sym u.store_faults.0)
    u.later u.log_sum w.written
    (runs_short asked history before _ fresh opened.core is is_log (sym (u.store_faults.0 ∙ u.store_faults.1 ∙ stands.store_faults)) stands.world w.text refl opened opens counted (goes_still opened.core)
    c.unused.result.0.status none.0 none.1)

pub returns-in_default-clause-opening : goal.returns-in_default-clause-opening
returns-in_default-clause-opening g c told count found = record { end = ended.Memory; status_is = c.unused.ensures.status; says = inl (found_from told c.args.world.told found) }

pub returns-in_default-clause-causes : goal.returns-in_default-clause-causes
returns-in_default-clause-causes g c low high =
    short_causes (g.R.Source.fault_count c.args.input.now) (g.R.Source.fault_count c.read_requests.new.input) (g.W.Sink.fault_count c.args.output.now) (g.W.Sink.fault_count c.unused.new.output) low high c.unused.result.0.status
    c.read_requests.ensures.cause.later c.unused.ensures.counted c.unused.ensures.status

pub returns-in_default-clause-store_faults : goal.returns-in_default-clause-store_faults
returns-in_default-clause-store_faults g c = c.unused.ensures.store_faults.0

pub returns-in_default-clause-log_sum : goal.returns-in_default-clause-log_sum
returns-in_default-clause-log_sum g c = c.unused.ensures.log_sum

-- ---- a run

pub returns-in-None-clause-runs : goal.returns-in-None-clause-runs
returns-in-None-clause-runs g c asked history before fresh opened same is opens counted stands is_log logs streams =
    let count = g.L.SourceLog.fault_count in
    let e = c.run_requests.ensures in
    let status = c.run_requests.result.0.status in
    let store = c.run_requests.result.0.store in
    let lasts = logs_in c.run_requests.result.1 in
    let read = subst (λ end. HasRead before.input (g.R.Source.left c.read_requests.new.input) c.in-Ok.requests.items end) (whole_is c.in-Ok.read (sym c.end_of.ensures ∙ c.in-None.is)) (c.in-Ok.ensures.reads before.input streams.input_left) in
    let r : RanOn (options_of asked) before.log before.log_faults (map count lasts) opened.core c.in-Ok.requests.items (g.S.ObjectStore.told store) (g.S.ObjectStore.fault_count store) before.written
    (g.W.Sink.content c.run_requests.new.output) (g.W.Sink.fault_count c.args.output.now) (g.W.Sink.fault_count c.run_requests.new.output) status =
    subst (λ fs. RanOn (options_of asked) before.log fs (map count lasts) opened.core c.in-Ok.requests.items (g.S.ObjectStore.told store) (g.S.ObjectStore.fault_count store) before.written
    (g.W.Sink.content c.run_requests.new.output) (g.W.Sink.fault_count c.args.output.now) (g.W.Sink.fault_count c.run_requests.new.output) status) logs.log_faults
    (subst (λ o. RanOn o before.log (map count c.args.logs.items) (map count lasts) opened.core c.in-Ok.requests.items (g.S.ObjectStore.told store) (g.S.ObjectStore.fault_count store) before.written
    (g.W.Sink.content c.run_requests.new.output) (g.W.Sink.fault_count c.args.output.now) (g.W.Sink.fault_count c.run_requests.new.output) status) same
    (e.ran opened.core before.log before.written is_log stands logs.log streams.written)) in
    run_returned g.S.ObjectStore.told g.S.ObjectStore.fault_count g.L.SourceLog.fault_count g.L.SourceLog.since g.R.Source.left g.R.Source.fault_count g.W.Sink.content g.W.Sink.fault_count
    (λ after. Runs asked history before after status) store c.run_requests.result.0.store_faults c.run_requests.result.0.log_faults c.args.logs.items lasts c.read_requests.new.input c.run_requests.new.output
    r.ran.kept (before.written ++ r.ran.text) r.ran.tells (sym e.store_faults) e.later e.log_sum r.ran.written
    (runs_ran asked history before _ fresh r.ran.exit is is_log (sym (e.store_faults ∙ r.ran.faults)) r.ran.world r.ran.text refl opened opens counted r.ran.goes_on c.in-Ok.requests.items read r.end status r.ran.says
    (λ end. subst (λ n. Rose n (g.W.Sink.fault_count c.run_requests.new.output)) streams.write_faults (r.rose end)) r.status_is)

pub returns-in-None-clause-opening : goal.returns-in-None-clause-opening
returns-in-None-clause-opening g c told count found =
    said_finds (outside_of told count (g.R.Source.left c.args.input.now) (g.R.Source.fault_count c.args.input.now) (g.W.Sink.content c.args.output.now) (g.W.Sink.fault_count c.args.output.now))
    (outside_of (g.S.ObjectStore.told c.run_requests.result.0.store) (g.S.ObjectStore.fault_count c.run_requests.result.0.store) (g.R.Source.left c.read_requests.new.input) (g.R.Source.fault_count c.read_requests.new.input) (g.W.Sink.content c.run_requests.new.output) (g.W.Sink.fault_count c.run_requests.new.output))
    c.run_requests.result.0.status c.run_requests.ensures.ends (found_from told c.args.world.told found)

pub returns-in-None-clause-causes : goal.returns-in-None-clause-causes
returns-in-None-clause-causes g c low high =
    said_causes (g.R.Source.fault_count c.args.input.now) (g.R.Source.fault_count c.read_requests.new.input) (g.W.Sink.fault_count c.args.output.now) (g.W.Sink.fault_count c.run_requests.new.output) low high c.run_requests.result.0.status
    c.read_requests.ensures.cause.later c.run_requests.ensures.counted c.run_requests.ensures.ends

pub returns-in-None-clause-store_faults : goal.returns-in-None-clause-store_faults
returns-in-None-clause-store_faults g c = c.run_requests.ensures.store_faults

pub returns-in-None-clause-log_sum : goal.returns-in-None-clause-log_sum
returns-in-None-clause-log_sum g c = c.run_requests.ensures.log_sum

-- ---- an input that is no list of requests, or that failed

pub returns-in-Some-clause-runs : goal.returns-in-Some-clause-runs
returns-in-Some-clause-runs g c asked history before fresh opened same is opens counted stands is_log logs streams =
    let u = c.unused-in-Some.ensures in
    let e = c.in-Some.end in
    let status = c.unused-in-Some.result.0.status in
    let ends : end_of c.in-Ok.read ≡ Some e = sym c.end_of.ensures ∙ c.in-Some.is in
    let w = u.writes before.written streams.written in
    let wrote = subst (λ n. ((status ≡ ended_status e) × WroteLine n (g.W.Sink.fault_count c.unused-in-Some.new.output) (last_line e) w.text) ⊎ ((status ≡ 11) × (w.text ≡ []))) streams.write_faults w.wrote in
    run_returned g.S.ObjectStore.told g.S.ObjectStore.fault_count g.L.SourceLog.fault_count g.L.SourceLog.since g.R.Source.left g.R.Source.fault_count g.W.Sink.content g.W.Sink.fault_count
    (λ after. Runs asked history before after status) c.unused-in-Some.result.0.store c.unused-in-Some.result.0.store_faults c.unused-in-Some.result.0.log_faults c.args.logs.items (logs_in c.unused-in-Some.result.1)
    c.read_requests.new.input c.unused-in-Some.new.output stands.kept (before.written ++ w.text) (u.store ∙ stands.told) (sym u.store_faults.0)
    u.later u.log_sum w.written
    (runs_failed asked history before _ fresh opened.core is is_log (sym (u.store_faults.0 ∙ u.store_faults.1 ∙ stands.store_faults)) stands.world w.text refl opened opens counted (goes_still opened.core)
    c.in-Ok.read e ends c.in-Ok.requests.items (c.in-Ok.ensures.reads before.input streams.input_left)
    (λ fault. subst (λ n. Rose n (g.R.Source.fault_count c.read_requests.new.input)) streams.read_faults (c.in-Ok.ensures.cause.failed fault)) refl status wrote)

pub returns-in-Some-clause-opening : goal.returns-in-Some-clause-opening
returns-in-Some-clause-opening g c told count found =
    let before = outside_of told count (g.R.Source.left c.args.input.now) (g.R.Source.fault_count c.args.input.now) (g.W.Sink.content c.args.output.now) (g.W.Sink.fault_count c.args.output.now) in
    let after = (outside_of (g.S.ObjectStore.told c.unused-in-Some.result.0.store) (g.S.ObjectStore.fault_count c.unused-in-Some.result.0.store) (g.R.Source.left c.read_requests.new.input) (g.R.Source.fault_count c.read_requests.new.input) (g.W.Sink.content c.unused-in-Some.new.output) (g.W.Sink.fault_count c.unused-in-Some.new.output)) in
    record {
      end = c.in-Some.end;
      status_is = c.unused-in-Some.ensures.status;
      says = unread_finds (SaysAlone before after c.unused-in-Some.result.0.status) before after c.in-Ok.read c.in-Some.end (sym c.end_of.ensures ∙ c.in-Some.is)
          (subst (λ (t : Option State). WhereTold told t IsFoundFrom) (sym c.unused-in-Some.ensures.store) found) c.unused-in-Some.ensures.writes;
    }

pub returns-in-Some-clause-causes : goal.returns-in-Some-clause-causes
returns-in-Some-clause-causes g c low high =
    failed_causes (g.R.Source.fault_count c.args.input.now) (g.R.Source.fault_count c.read_requests.new.input) (g.W.Sink.fault_count c.args.output.now) (g.W.Sink.fault_count c.unused-in-Some.new.output) low high c.unused-in-Some.result.0.status
    c.read_requests.ensures.cause.later c.unused-in-Some.ensures.counted c.in-Ok.read c.in-Some.end (sym c.end_of.ensures ∙ c.in-Some.is) c.in-Ok.ensures.cause.failed c.unused-in-Some.ensures.status

pub returns-in-Some-clause-store_faults : goal.returns-in-Some-clause-store_faults
returns-in-Some-clause-store_faults g c = c.unused-in-Some.ensures.store_faults.0

pub returns-in-Some-clause-log_sum : goal.returns-in-Some-clause-log_sum
returns-in-Some-clause-log_sum g c = c.unused-in-Some.ensures.log_sum
