use Rattle.std.proofs.Common.{◌≡◌, ◌⊎◌, ◌++◌, [], refl, sym, ap, ◌∙◌, subst, arith}
use Rattle.std.specs.Prelude.{Some, Ok, Err}
use Rattle.index_world.specs.Loading.{LoadsWorld, LoadsNone}
use Rattle.index_world.specs.Opened.{OpensNot}
use Rattle.index_world.specs.Taking.{IsFaultBetween}
use Rattle.node_run.specs.Logs.{logs_in}
use Rattle.node_run.specs.Node.{Node}
use Rattle.object_store.specs.Store.{WhereTold}
use Rattle.quick_node.specs.Causes.{faults_of}
use Rattle.quick_node.specs.Ending.{ended_status, last_line}
use Rattle.quick_node.specs.Runs.{Runs}
use Rattle.quick_node.specs.Serve.{Opens, WroteLine}
use Rattle.quick_node.specs.declared.error_line.End.TheVariants as ended
use Rattle.quick_node.proofs.Caused.{opening_causes}
use Rattle.quick_node.proofs.DriveClause.{begins}
use Rattle.quick_node.proofs.RunClause.{run_returned, runs_unopened}
use Rattle.quick_node.proofs.RunFound.{opens_from}
use Rattle.quick_node.proofs.serving.run_index.Goals as goal

pub at-requires : goal.at-requires
at-requires g c = omega arith

pub run_world-requires-clause-indexers : goal.run_world-requires-clause-indexers
run_world-requires-clause-indexers g c κs within = c.requires.indexers

pub run_world-requires-clause-searchers : goal.run_world-requires-clause-searchers
run_world-requires-clause-searchers g c κs within = c.requires.searchers

pub returns-in-Ok-clause-runs : goal.returns-in-Ok-clause-runs
returns-in-Ok-clause-runs g c asked history before same shows enters =
    let b = begins history before enters in
    let fresh = b.fresh in
    let count : fresh.core.store_faults ≡ before.store_faults = ap (λ n. n.core.store_faults) b.is.is in
    let clock : fresh.core.clock ≡ 0 = ap (λ n. n.core.clock) b.is.is in
    let l : LoadsWorld fresh.core before.log c.in-Ok.world =
    c.in-Ok.ensures.step before.kept fresh.core before.log shows.kept (shows.store_faults ∙ sym count) (ap Some (c.at.ensures ∙ sym clock)) (omega (arith, clock)) (ap (λ n. n.core.frozen) b.is.is) b.world in
    let opened : Node = record fresh { core = l.after } in
    let opens : Opens fresh (Ok tt) opened = record { fate = l.loads.fate; core = l.after; did = l.loads.did; is = refl } in
    c.run_world.ensures.runs asked history before fresh opened same b.is opens l.loads.faults l.stands enters.is_log shows.logs_show shows.streams_show

pub returns-in-Err-clause-runs : goal.returns-in-Err-clause-runs
returns-in-Err-clause-runs g c asked history before same shows enters =
    let b = begins history before enters in
    let fresh = b.fresh in
    let streams = shows.streams_show in
    let error = c.in-Err.unopened.error in
    let store = c.in-Err.unopened.store in
    let status = c.ended.result.0.status in
    let count : fresh.core.store_faults ≡ before.store_faults = ap (λ n. n.core.store_faults) b.is.is in
    let clock : fresh.core.clock ≡ 0 = ap (λ n. n.core.clock) b.is.is in
    let l : LoadsNone fresh.core before.log error (g.S.ObjectStore.told store) (g.S.ObjectStore.fault_count store) =
    c.in-Err.ensures.step before.kept fresh.core before.log shows.kept (shows.store_faults ∙ sym count) (ap Some (c.at.ensures ∙ sym clock)) (omega (arith, clock)) (ap (λ n. n.core.frozen) b.is.is) b.world in
    let w = c.ended.ensures.writes before.written streams.written in
    let wrote = subst (λ n. ((status ≡ ended_status (ended.NotOpened error)) × WroteLine n (g.W.Sink.fault_count c.ended.new.output) (last_line (ended.NotOpened error)) w.text) ⊎ ((status ≡ 11) × (w.text ≡ [])))
    streams.write_faults w.wrote in
    run_returned g.S.ObjectStore.told g.S.ObjectStore.fault_count g.L.SourceLog.fault_count g.L.SourceLog.since g.R.Source.left g.R.Source.fault_count g.W.Sink.content g.W.Sink.fault_count
    (λ after. Runs asked history before after status) c.ended.result.0.store c.ended.result.0.store_faults c.ended.result.0.log_faults c.args.logs.items (logs_in c.ended.result.1) c.args.input.now c.ended.new.output
    l.kept (before.written ++ w.text) (ap g.S.ObjectStore.told c.ended.ensures.store ∙ l.tells) (ap g.S.ObjectStore.fault_count c.ended.ensures.store ∙ sym c.ended.ensures.store_faults)
    c.ended.ensures.later c.ended.ensures.log_sum w.written
    (runs_unopened asked history before _ fresh l.after b.is enters.is_log (sym (c.ended.ensures.store_faults ∙ l.counts)) l.world w.text refl l.unread
    (record { fate = l.loads.fate; core = l.after; did = l.loads.did; is = refl }) error l.says status wrote)

pub returns-in-Ok-clause-opening : goal.returns-in-Ok-clause-opening
returns-in-Ok-clause-opening g c =
    c.run_world.ensures.opening (g.S.ObjectStore.told c.args.store) (g.S.ObjectStore.fault_count c.args.store)
    (opens_from (g.S.ObjectStore.told c.args.store) c.in-Ok.world.told c.in-Ok.world c.in-Ok.ensures.opened)

pub returns-in-Err-clause-opening : goal.returns-in-Err-clause-opening
returns-in-Err-clause-opening g c = record {
  end = ended.NotOpened c.in-Err.unopened.error;
  status_is = c.ended.ensures.status;
  says = record {
    why = subst (λ s. WhereTold (g.S.ObjectStore.told c.args.store) (g.S.ObjectStore.told s) (OpensNot (g.S.ObjectStore.fault_count c.args.store) (g.S.ObjectStore.fault_count s) c.in-Err.unopened.error))
        (sym c.ended.ensures.store) c.in-Err.ensures.opened;
    input = (refl, refl);
    line = c.ended.ensures.writes;
  };
}

pub returns-in-Ok-clause-causes : goal.returns-in-Ok-clause-causes
returns-in-Ok-clause-causes g c = c.run_world.ensures.causes (g.S.ObjectStore.fault_count c.args.store) (g.S.ObjectStore.fault_count c.run_world.result.0.store)

pub returns-in-Err-clause-causes : goal.returns-in-Err-clause-causes
returns-in-Err-clause-causes g c =
    opening_causes (faults_of (g.S.ObjectStore.fault_count c.args.store) (g.R.Source.fault_count c.args.input.now) (g.W.Sink.fault_count c.args.output.now)) (faults_of (g.S.ObjectStore.fault_count c.ended.result.0.store) (g.R.Source.fault_count c.args.input.now) (g.W.Sink.fault_count c.ended.new.output))
    c.ended.result.0.status (omega arith) c.ended.ensures.counted c.in-Err.unopened.error
    (subst (λ n. IsFaultBetween (g.S.ObjectStore.fault_count c.args.store) n c.in-Err.unopened.error) (sym (ap g.S.ObjectStore.fault_count c.ended.ensures.store)) c.in-Err.ensures.faults) c.ended.ensures.status

pub returns-in-Ok-clause-store_faults : goal.returns-in-Ok-clause-store_faults
returns-in-Ok-clause-store_faults g c = c.run_world.ensures.store_faults

pub returns-in-Err-clause-store_faults : goal.returns-in-Err-clause-store_faults
returns-in-Err-clause-store_faults g c = c.ended.ensures.store_faults ∙ sym (ap g.S.ObjectStore.fault_count c.ended.ensures.store)

pub returns-in-Ok-clause-log_sum : goal.returns-in-Ok-clause-log_sum
returns-in-Ok-clause-log_sum g c = c.run_world.ensures.log_sum

pub returns-in-Err-clause-log_sum : goal.returns-in-Err-clause-log_sum
returns-in-Err-clause-log_sum g c = c.ended.ensures.log_sum
