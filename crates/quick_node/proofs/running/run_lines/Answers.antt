use Rattle.std.proofs.Common.{◌+◌, [], length, refl, arith}
use Rattle.node_run.specs.Node.{Node}
use Rattle.node_run.specs.Standing.{NodeStands}
use Rattle.input_lines.specs.Held.{held as in_hand}
use Rattle.quick_node.specs.Running.{counts_of}
use Rattle.quick_node.proofs.RunSteps.{if_ok_err, begins, begins_with, ends_short, run_in_short, went_on, same_number, ended_by}
use Rattle.quick_node.proofs.Caused.{ended_earlier}
use Rattle.quick_node.proofs.running.run_lines.Goals as goal

pub lines-init : goal.lines-init
lines-init g c = record {
  going = λ firsts begun text held stands clock clients told written.
      begins_with (λ n. NodeStands g.L.SourceLog.told g.L.SourceLog.fault_count g.L.SourceLog.since firsts c.args.node.now n) text begun held
      (g.W.Sink.content c.args.output.now) (g.R.Source.left c.args.input.now) (in_hand c.in_ok-lines.lines) c.in_ok-lines.lines.taken
      c.in_ok-lines.ensures.held c.in_ok-lines.ensures.taken clock clients stands told written;
  read = omega arith;
  written = omega arith;
}

pub lines-preserved : goal.lines-preserved
lines-preserved g c = record {
  going = λ firsts begun text held stands clock clients told written.
      let Stands : Node → Type 0 = λ n. NodeStands g.L.SourceLog.told g.L.SourceLog.fault_count g.L.SourceLog.since firsts c.next_line.new.node n in
      let counts = counts_of (g.R.Source.fault_count c.args.input.now) (g.R.Source.fault_count c.next_line.new.input) (g.W.Sink.fault_count c.args.output.now) (g.W.Sink.fault_count c.next_line.new.output) in
      let going = c.lines.invariant.going firsts begun text held stands clock clients told written in
      let next = went_on Stands (length begun.indexers) text begun held (g.W.Sink.content c.next_line.new.output) (g.R.Source.left c.next_line.new.input) (in_hand c.next_line.new.lines) c.next_line.new.lines.taken (c.lines.number + 1) counts c.in_ok-end.end c.in_default.is
      (c.in_ok-end.ensures.goes firsts (length begun.indexers) text begun held counts going c.lines.invariant.read (omega arith) c.lines.invariant.written (omega arith)) in
      let limit = c.next_line.new.lines.limit in
      same_number Stands (length begun.indexers) text begun held (g.W.Sink.content c.next_line.new.output) (g.R.Source.left c.next_line.new.input) (in_hand c.next_line.new.lines) c.next_line.new.lines.taken (c.lines.number + 1) c.saturating_add-number.result
      (omega (arith, c.saturating_add-number.ensures, next.count, next.read.few, limit)) next;
  read = omega (arith, c.lines.invariant.read, c.next_line.ensures.read);
  written = omega (arith, c.lines.invariant.written, c.next_line.ensures.written);
}

pub lines-smaller : goal.lines-smaller
lines-smaller g c =
    let limit = c.next_line.new.lines.limit in
    let more = c.in_ok-end.ensures.moves c.in_default.is in
    omega (arith, more, limit)

pub returns-in_err-lines-clause-read : goal.returns-in_err-lines-clause-read
returns-in_err-lines-clause-read g c = omega arith

pub returns-in_err-lines-clause-written : goal.returns-in_err-lines-clause-written
returns-in_err-lines-clause-written g c = omega arith

pub returns-in_err-lines-clause-runs : goal.returns-in_err-lines-clause-runs
returns-in_err-lines-clause-runs g c firsts begun text held stands clock clients told written =
    let Stands : Node → Type 0 = λ n. NodeStands g.L.SourceLog.told g.L.SourceLog.fault_count g.L.SourceLog.since firsts c.args.node.now n in
    let content = g.W.Sink.content c.args.output.now in
    let left = g.R.Source.left c.args.input.now in
    let counts = counts_of (g.R.Source.fault_count c.args.input.now) (g.R.Source.fault_count c.args.input.now) (g.W.Sink.fault_count c.args.output.now) (g.W.Sink.fault_count c.args.output.now) in
    let going = begins Stands text begun held content left clock clients stands told written in
    run_in_short Stands (length begun.indexers) text begun held content left counts c.from_residual.result c.from_residual.ensures.0
    (ends_short Stands (length begun.indexers) text begun held content left [] 0 0 going Stands content left counts going.stands refl)

pub returns-in_err-end-clause-read : goal.returns-in_err-end-clause-read
returns-in_err-end-clause-read g c = omega (arith, c.lines.invariant.read, c.next_line.ensures.read)

pub returns-in_err-end-clause-written : goal.returns-in_err-end-clause-written
returns-in_err-end-clause-written g c = omega (arith, c.lines.invariant.written, c.next_line.ensures.written)

pub returns-in_err-end-clause-runs : goal.returns-in_err-end-clause-runs
returns-in_err-end-clause-runs g c firsts begun text held stands clock clients told written =
    let Stands : Node → Type 0 = λ n. NodeStands g.L.SourceLog.told g.L.SourceLog.fault_count g.L.SourceLog.since firsts c.next_line.new.node n in
    let counts = counts_of (g.R.Source.fault_count c.args.input.now) (g.R.Source.fault_count c.next_line.new.input) (g.W.Sink.fault_count c.args.output.now) (g.W.Sink.fault_count c.next_line.new.output) in
    let going = c.lines.invariant.going firsts begun text held stands clock clients told written in
    run_in_short Stands (length begun.indexers) text begun held (g.W.Sink.content c.next_line.new.output) (g.R.Source.left c.next_line.new.input) counts c.from_residual-in_err-end.result c.from_residual-in_err-end.ensures.0
    (c.in_err-end.ensures.goes firsts (length begun.indexers) text begun held counts going c.lines.invariant.read (omega arith) c.lines.invariant.written (omega arith))

pub returns-in-Some-clause-read : goal.returns-in-Some-clause-read
returns-in-Some-clause-read g c = omega (arith, c.lines.invariant.read, c.next_line.ensures.read)

pub returns-in-Some-clause-written : goal.returns-in-Some-clause-written
returns-in-Some-clause-written g c = omega (arith, c.lines.invariant.written, c.next_line.ensures.written)

pub returns-in-Some-clause-runs : goal.returns-in-Some-clause-runs
returns-in-Some-clause-runs g c firsts begun text held stands clock clients told written =
    let Stands : Node → Type 0 = λ n. NodeStands g.L.SourceLog.told g.L.SourceLog.fault_count g.L.SourceLog.since firsts c.next_line.new.node n in
    let counts = counts_of (g.R.Source.fault_count c.args.input.now) (g.R.Source.fault_count c.next_line.new.input) (g.W.Sink.fault_count c.args.output.now) (g.W.Sink.fault_count c.next_line.new.output) in
    let going = c.lines.invariant.going firsts begun text held stands clock clients told written in
    ended_by Stands (length begun.indexers) text begun held (g.W.Sink.content c.next_line.new.output) (g.R.Source.left c.next_line.new.input) (in_hand c.next_line.new.lines) c.next_line.new.lines.taken (c.lines.number + 1) counts c.in_ok-end.end c.in-Some.end c.in-Some.is
    (c.in_ok-end.ensures.goes firsts (length begun.indexers) text begun held counts going c.lines.invariant.read (omega arith) c.lines.invariant.written (omega arith))

pub returns-in_err-lines-clause-causes : goal.returns-in_err-lines-clause-causes
returns-in_err-lines-clause-causes g c = if_ok_err c.from_residual.result _ c.from_residual.ensures.0

pub returns-in_err-end-clause-causes : goal.returns-in_err-end-clause-causes
returns-in_err-end-clause-causes g c = if_ok_err c.from_residual-in_err-end.result _ c.from_residual-in_err-end.ensures.0

pub returns-in-Some-clause-causes : goal.returns-in-Some-clause-causes
returns-in-Some-clause-causes g c =
    ended_earlier (g.R.Source.fault_count c.args.input.now) (g.R.Source.fault_count c.lines.input) (g.R.Source.fault_count c.next_line.new.input) (g.W.Sink.fault_count c.args.output.now) (g.W.Sink.fault_count c.lines.output)
    (g.W.Sink.fault_count c.next_line.new.output) c.lines.invariant.read c.lines.invariant.written c.in_ok-end.end c.in-Some.end c.in-Some.is c.in_ok-end.ensures.causes
