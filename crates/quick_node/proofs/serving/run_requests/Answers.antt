use Rattle.std.proofs.Common.{◌≡◌, ◌++◌, [], ap, ◌∙◌, subst, sym, arith, append_assoc, append-nil}
use Rattle.std.specs.List.{AllZip}
use Rattle.std.specs.Prelude.{map, Some}
use Rattle.quick_node.specs.Saying.{RunsOn}
use Rattle.quick_node.proofs.RunClause.{all_each, nothing_behind, said_alone, said_rose}
use Rattle.quick_node.proofs.serving.run_requests.Goals as goal

pub finish-end-requires-clause-indexers : goal.finish-end-requires-clause-indexers
finish-end-requires-clause-indexers g c = λ κs lives. c.requires.indexers

pub finish-end-requires-clause-searchers : goal.finish-end-requires-clause-searchers
finish-end-requires-clause-searchers g c = λ κs lives. c.requires.searchers

pub returns-clause-later : goal.returns-clause-later
returns-clause-later g c = subst (λ ls. AllZip g.L.SourceLog.since c.args.logs.items ls) (sym c.ended.ensures.logs) c.finish-end.ensures.later

pub returns-clause-counted : goal.returns-clause-counted
returns-clause-counted g c = omega (arith, c.finish-end.ensures.counted, c.ended.ensures.counted)

pub returns-clause-ends : goal.returns-clause-ends
returns-clause-ends g c =
    said_alone (g.W.Sink.fault_count c.args.output.now) (g.W.Sink.fault_count c.finish-end.new.output) (g.W.Sink.fault_count c.ended.new.output) c.ended.result.0.status c.finish-end.result.end
    c.ended.ensures.counted c.finish-end.ensures.ends c.ended.ensures.status

pub returns-clause-ran : goal.returns-clause-ran
returns-clause-ran g c core log held is_log stands told at =
    let count = g.L.SourceLog.fault_count in
    let write = g.W.Sink.fault_count in
    let end = c.finish-end.result.end in
    let r = c.finish-end.ensures.ran core log held is_log stands (all_each (λ own. g.L.SourceLog.told own ≡ Some log) c.args.logs.items told) at in
    let w = c.ended.ensures.writes (held ++ r.text) r.written in
    let silent : w.text ≡ [] = nothing_behind (write c.args.output.now) (write c.finish-end.new.output) (write c.ended.new.output) c.ended.result.0.status end w.text c.finish-end.ensures.ends w.wrote in
    record {
      end = end;
      ran = subst (λ ls. RunsOn c.args.options log (map count c.args.logs.items) (map count ls) core c.args.requests.items (g.S.ObjectStore.told c.ended.result.0.store)
          (g.S.ObjectStore.fault_count c.ended.result.0.store) held (g.W.Sink.content c.ended.new.output) end) (sym c.ended.ensures.logs) (record {
            exit = r.exit;
            goes_on = r.goes_on;
            kept = r.kept;
            tells = ap g.S.ObjectStore.told c.ended.ensures.store ∙ r.tells;
            world = r.world;
            faults = ap g.S.ObjectStore.fault_count c.ended.ensures.store ∙ r.faults;
            text = r.text;
            written = w.written ∙ ap (λ t. Some ((held ++ r.text) ++ t)) silent ∙ ap Some (append-nil (held ++ r.text));
            says = r.says;
          });
      rose = said_rose (write c.args.output.now) (write c.finish-end.new.output) (write c.ended.new.output) end c.ended.ensures.counted c.finish-end.ensures.ends;
      status_is = c.ended.ensures.status;
    }

pub returns-clause-store_faults : goal.returns-clause-store_faults
returns-clause-store_faults g c = c.ended.ensures.store_faults ∙ sym (ap g.S.ObjectStore.fault_count c.ended.ensures.store)

pub returns-clause-log_sum : goal.returns-clause-log_sum
returns-clause-log_sum g c = c.ended.ensures.log_sum
