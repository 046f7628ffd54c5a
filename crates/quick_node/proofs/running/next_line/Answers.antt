use Rattle.std.proofs.Common.{◌≡◌, ◌+◌, ◌++◌, List, ℕ, length, refl, sym, subst, arith}
use Rattle.std.specs.Prelude.{Option, None, Result, IfOk, IfSome}
use Rattle.std.specs.declared.alloc.AllocError.{AllocError}
use Rattle.node_run.specs.Standing.{NodeStands}
use Rattle.node_run.specs.Lines.{printed}
use Rattle.node_run.specs.Node.{Node}
use Rattle.quick_node.specs.declared.error_line.End.{End as Ended}
use Rattle.quick_node.specs.declared.error_line.End.TheVariants as ended
use Rattle.quick_node.specs.Causes.{EndsRunBy}
use Rattle.quick_node.specs.Running.{counts_of, GoesOrEnds, Runs}
use Rattle.input_lines.specs.Held.{held as in_hand}
use Rattle.input_lines.specs.Pieces.{IsLine, IsFed, IsFault}
use Rattle.quick_node.proofs.RunSteps.{rose_earlier, ends_short, ends_by_fault, ends_at_end, ends_at_line, ends_at_input, came_line, came_last, line_came, done_or_ends, never_goes_on, ends_in_short, some_not_none, if_ok_any, if_ok_err}
use Rattle.quick_node.proofs.Caused.{line_causes, done_causes}
use Rattle.quick_node.proofs.running.next_line.Goals as goal

pub returns-in_err-next-clause-moves : goal.returns-in_err-next-clause-moves
returns-in_err-next-clause-moves g c = if_ok_err c.from_residual.result _ c.from_residual.ensures.0

pub returns-in_err-next-clause-read : goal.returns-in_err-next-clause-read
returns-in_err-next-clause-read g c = c.next.ensures.cause.later

pub returns-in_err-next-clause-written : goal.returns-in_err-next-clause-written
returns-in_err-next-clause-written g c = omega arith

pub returns-in_err-next-clause-goes : goal.returns-in_err-next-clause-goes
returns-in_err-next-clause-goes g c firsts readers text begun held counts going rb ra wb wa =
    let Stands : Node → Type 0 = λ n. NodeStands g.L.SourceLog.told g.L.SourceLog.fault_count g.L.SourceLog.since firsts c.args.node.now n in
    let content = g.W.Sink.content c.args.output.now in
    ends_in_short Stands readers text begun held content (g.R.Source.left c.next.new.input) (in_hand c.next.new.self) c.next.new.self.taken (c.args.number + 1) counts c.from_residual.result
    c.from_residual.ensures.0
    (ends_short Stands readers text begun held content (g.R.Source.left c.args.input.now) (in_hand c.args.lines.now) c.args.lines.now.taken c.args.number going Stands content (g.R.Source.left c.next.new.input) counts going.stands refl)

pub returns-in-Line-clause-moves : goal.returns-in-Line-clause-moves
returns-in-Line-clause-moves g c = if_ok_any c.take_line.result _ (λ end none. c.in_ok-next.ensures.fed (subst IsFed (sym c.in-Line.is) tt))

pub returns-in-Line-clause-read : goal.returns-in-Line-clause-read
returns-in-Line-clause-read g c = c.next.ensures.cause.later

pub returns-in-Line-clause-written : goal.returns-in-Line-clause-written
returns-in-Line-clause-written g c = c.take_line.ensures.counted

pub returns-in-Line-clause-goes : goal.returns-in-Line-clause-goes
returns-in-Line-clause-goes g c firsts readers text begun held counts going rb ra wb wa =
    let Old : Node → Type 0 = λ n. NodeStands g.L.SourceLog.told g.L.SourceLog.fault_count g.L.SourceLog.since firsts c.args.node.now n in
    let New : Node → Type 0 = λ n. NodeStands g.L.SourceLog.told g.L.SourceLog.fault_count g.L.SourceLog.since firsts c.take_line.new.node n in
    let t = c.in_ok-next.ensures.comes going.behind going.left_is in
    let limit = c.args.lines.now.limit in
    line_came Old readers text begun held (g.W.Sink.content c.args.output.now) (g.R.Source.left c.args.input.now) (in_hand c.args.lines.now) c.args.lines.now.taken c.args.number going
    c.next.new.self.line.items c.line.result.now c.next.new.self.taken (in_hand c.next.new.self) t.0 (g.R.Source.left c.next.new.input) New
    (g.W.Sink.content c.take_line.new.output) c.saturating_add-number.result (g.W.Sink.fault_count c.args.output.now) (g.W.Sink.fault_count c.take_line.new.output) counts c.take_line.result
    (came_line Old readers text begun held (g.W.Sink.content c.args.output.now) (g.R.Source.left c.args.input.now) (in_hand c.args.lines.now) c.args.lines.now.taken c.args.number going
    c.in_ok-next.field-0 c.next.new.self.line.items c.next.new.self.taken (in_hand c.next.new.self ++ t.0) c.in-Line.is t.2) t.1 (c.in_ok-next.ensures.moves (subst IsLine (sym c.in-Line.is) tt)) c.line.ensures
    (omega (arith, c.saturating_add-number.ensures, going.count, going.read.few, limit)) wb wa
    (c.take_line.ensures.takes firsts going.mid (held ++ printed going.outcomes) going.stands going.written)

pub returns-in-Last-clause-moves : goal.returns-in-Last-clause-moves
returns-in-Last-clause-moves g c =
    let Grows : Type 0 = c.next.new.self.taken ≡ c.args.lines.now.taken + length c.next.new.self.line.items + 1 in
    subst (λ (r : Result (Option Ended) AllocError). IfOk r (λ end. end ≡ None → Grows)) (sym c.or_done.ensures) (never_goes_on c.take_line-in-Last.result Grows)

pub returns-in-Last-clause-read : goal.returns-in-Last-clause-read
returns-in-Last-clause-read g c = c.next.ensures.cause.later

pub returns-in-Last-clause-written : goal.returns-in-Last-clause-written
returns-in-Last-clause-written g c = c.take_line-in-Last.ensures.counted

pub returns-in-Last-clause-goes : goal.returns-in-Last-clause-goes
returns-in-Last-clause-goes g c firsts readers text begun held counts going rb ra wb wa =
    let Old : Node → Type 0 = λ n. NodeStands g.L.SourceLog.told g.L.SourceLog.fault_count g.L.SourceLog.since firsts c.args.node.now n in
    let New : Node → Type 0 = λ n. NodeStands g.L.SourceLog.told g.L.SourceLog.fault_count g.L.SourceLog.since firsts c.take_line-in-Last.new.node n in
    let t = c.in_ok-next.ensures.comes going.behind going.left_is in
    let limit = c.args.lines.now.limit in
    let last = came_last Old readers text begun held (g.W.Sink.content c.args.output.now) (g.R.Source.left c.args.input.now) (in_hand c.args.lines.now) c.args.lines.now.taken c.args.number going
    c.in_ok-next.field-0 c.next.new.self.line.items c.next.new.self.taken (in_hand c.next.new.self ++ t.0) c.in-Last.is t.2 in
    let r = line_came Old readers text begun held (g.W.Sink.content c.args.output.now) (g.R.Source.left c.args.input.now) (in_hand c.args.lines.now) c.args.lines.now.taken c.args.number going
    c.next.new.self.line.items c.line-in-Last.result.now c.next.new.self.taken (in_hand c.next.new.self) t.0 (g.R.Source.left c.next.new.input) New
    (g.W.Sink.content c.take_line-in-Last.new.output) c.saturating_add-number.result (g.W.Sink.fault_count c.args.output.now) (g.W.Sink.fault_count c.take_line-in-Last.new.output) counts c.take_line-in-Last.result
    last.0 t.1 (c.in_ok-next.ensures.moves (subst IsLine (sym c.in-Last.is) tt)) c.line-in-Last.ensures
    (omega (arith, c.saturating_add-number.ensures, going.count, going.read.few, limit)) wb wa
    (c.take_line-in-Last.ensures.takes firsts going.mid (held ++ printed going.outcomes) going.stands going.written) in
    let Goes : Result (Option Ended) AllocError → Type 0 = GoesOrEnds New readers text begun held (g.W.Sink.content c.take_line-in-Last.new.output) (g.R.Source.left c.next.new.input) (in_hand c.next.new.self) c.next.new.self.taken (c.args.number + 1) counts in
    subst Goes (sym c.or_done.ensures)
    (done_or_ends New readers text begun held (g.W.Sink.content c.take_line-in-Last.new.output) (g.R.Source.left c.next.new.input) (in_hand c.next.new.self) t.0 c.next.new.self.taken (c.args.number + 1)
    counts c.take_line-in-Last.result t.1 last.1 r)

pub returns-in-End-clause-moves : goal.returns-in-End-clause-moves
returns-in-End-clause-moves g c e = absurd (some_not_none ended.Done e)

pub returns-in-End-clause-read : goal.returns-in-End-clause-read
returns-in-End-clause-read g c = c.next.ensures.cause.later

pub returns-in-End-clause-written : goal.returns-in-End-clause-written
returns-in-End-clause-written g c = omega arith

pub returns-in-End-clause-goes : goal.returns-in-End-clause-goes
returns-in-End-clause-goes g c firsts readers text begun held counts going rb ra wb wa =
    let Stands : Node → Type 0 = λ n. NodeStands g.L.SourceLog.told g.L.SourceLog.fault_count g.L.SourceLog.since firsts c.args.node.now n in
    let t = c.in_ok-next.ensures.comes going.behind going.left_is in
    ends_at_end Stands readers text begun held (g.W.Sink.content c.args.output.now) (g.R.Source.left c.args.input.now) (in_hand c.args.lines.now) c.args.lines.now.taken c.args.number going
    c.in_ok-next.field-0 c.next.new.self.line.items c.next.new.self.taken (in_hand c.next.new.self ++ t.0) (g.R.Source.left c.next.new.input) counts c.in-End.is t.2

pub returns-in-LineOver-clause-moves : goal.returns-in-LineOver-clause-moves
returns-in-LineOver-clause-moves g c e = absurd (some_not_none ended.LineOver e)

pub returns-in-LineOver-clause-read : goal.returns-in-LineOver-clause-read
returns-in-LineOver-clause-read g c = c.next.ensures.cause.later

pub returns-in-LineOver-clause-written : goal.returns-in-LineOver-clause-written
returns-in-LineOver-clause-written g c = omega arith

pub returns-in-LineOver-clause-goes : goal.returns-in-LineOver-clause-goes
returns-in-LineOver-clause-goes g c firsts readers text begun held counts going rb ra wb wa =
    let Stands : Node → Type 0 = λ n. NodeStands g.L.SourceLog.told g.L.SourceLog.fault_count g.L.SourceLog.since firsts c.args.node.now n in
    let t = c.in_ok-next.ensures.comes going.behind going.left_is in
    ends_at_line Stands readers text begun held (g.W.Sink.content c.args.output.now) (g.R.Source.left c.args.input.now) (in_hand c.args.lines.now) c.args.lines.now.taken c.args.number going
    c.in_ok-next.field-0 c.next.new.self.line.items c.next.new.self.taken (in_hand c.next.new.self ++ t.0) (g.R.Source.left c.next.new.input) counts c.in-LineOver.is t.2

pub returns-in-InputOver-clause-moves : goal.returns-in-InputOver-clause-moves
returns-in-InputOver-clause-moves g c e = absurd (some_not_none ended.InputOver e)

pub returns-in-InputOver-clause-read : goal.returns-in-InputOver-clause-read
returns-in-InputOver-clause-read g c = c.next.ensures.cause.later

pub returns-in-InputOver-clause-written : goal.returns-in-InputOver-clause-written
returns-in-InputOver-clause-written g c = omega arith

pub returns-in-InputOver-clause-goes : goal.returns-in-InputOver-clause-goes
returns-in-InputOver-clause-goes g c firsts readers text begun held counts going rb ra wb wa =
    let Stands : Node → Type 0 = λ n. NodeStands g.L.SourceLog.told g.L.SourceLog.fault_count g.L.SourceLog.since firsts c.args.node.now n in
    let t = c.in_ok-next.ensures.comes going.behind going.left_is in
    ends_at_input Stands readers text begun held (g.W.Sink.content c.args.output.now) (g.R.Source.left c.args.input.now) (in_hand c.args.lines.now) c.args.lines.now.taken c.args.number going
    c.in_ok-next.field-0 c.next.new.self.line.items c.next.new.self.taken (in_hand c.next.new.self ++ t.0) (g.R.Source.left c.next.new.input) counts c.in-InputOver.is t.2

pub returns-in-Fault-clause-moves : goal.returns-in-Fault-clause-moves
returns-in-Fault-clause-moves g c e = absurd (some_not_none ended.ReadFault e)

pub returns-in-Fault-clause-read : goal.returns-in-Fault-clause-read
returns-in-Fault-clause-read g c = c.next.ensures.cause.later

pub returns-in-Fault-clause-written : goal.returns-in-Fault-clause-written
returns-in-Fault-clause-written g c = omega arith

pub returns-in-Fault-clause-goes : goal.returns-in-Fault-clause-goes
returns-in-Fault-clause-goes g c firsts readers text begun held counts going rb ra wb wa =
    let Stands : Node → Type 0 = λ n. NodeStands g.L.SourceLog.told g.L.SourceLog.fault_count g.L.SourceLog.since firsts c.args.node.now n in
    let t = c.in_ok-next.ensures.comes going.behind going.left_is in
    let fault : IsFault c.in_ok-next.field-0 = subst IsFault (sym c.in-Fault.is) tt in
    subst (λ (left : Option (List ℕ)). Runs Stands readers text begun held (g.W.Sink.content c.args.output.now) left counts ended.ReadFault) (sym t.1)
    (ends_by_fault Stands readers text begun held (g.W.Sink.content c.args.output.now) (g.R.Source.left c.args.input.now) (in_hand c.args.lines.now) c.args.lines.now.taken c.args.number going
    c.in_ok-next.field-0 c.next.new.self.line.items c.next.new.self.taken (in_hand c.next.new.self) t.0 counts c.in-Fault.is t.2 (c.in_ok-next.ensures.none fault)
    (rose_earlier counts.read_before (g.R.Source.fault_count c.args.input.now) (g.R.Source.fault_count c.next.new.input) counts.read_after rb (c.in_ok-next.ensures.cause.failed fault) ra))

pub returns-in_err-next-clause-causes : goal.returns-in_err-next-clause-causes
returns-in_err-next-clause-causes g c = if_ok_err c.from_residual.result _ c.from_residual.ensures.0

pub returns-in-Line-clause-causes : goal.returns-in-Line-clause-causes
returns-in-Line-clause-causes g c =
    line_causes (g.R.Source.fault_count c.args.input.now) (g.R.Source.fault_count c.next.new.input) (g.W.Sink.fault_count c.args.output.now) (g.W.Sink.fault_count c.take_line.new.output) c.take_line.result
    c.take_line.ensures.causes

pub returns-in-Last-clause-causes : goal.returns-in-Last-clause-causes
returns-in-Last-clause-causes g c =
    let counts = counts_of (g.R.Source.fault_count c.args.input.now) (g.R.Source.fault_count c.next.new.input) (g.W.Sink.fault_count c.args.output.now) (g.W.Sink.fault_count c.take_line-in-Last.new.output) in
    subst (λ (r : Result (Option Ended) AllocError). IfOk r (λ end. IfSome end (EndsRunBy counts))) (sym c.or_done.ensures)
    (done_causes counts c.take_line-in-Last.result
    (line_causes (g.R.Source.fault_count c.args.input.now) (g.R.Source.fault_count c.next.new.input) (g.W.Sink.fault_count c.args.output.now) (g.W.Sink.fault_count c.take_line-in-Last.new.output) c.take_line-in-Last.result
    c.take_line-in-Last.ensures.causes))

pub returns-in-End-clause-causes : goal.returns-in-End-clause-causes
returns-in-End-clause-causes g c = tt

pub returns-in-LineOver-clause-causes : goal.returns-in-LineOver-clause-causes
returns-in-LineOver-clause-causes g c = tt

pub returns-in-InputOver-clause-causes : goal.returns-in-InputOver-clause-causes
returns-in-InputOver-clause-causes g c = tt

pub returns-in-Fault-clause-causes : goal.returns-in-Fault-clause-causes
returns-in-Fault-clause-causes g c = c.in_ok-next.ensures.cause.failed (subst IsFault (sym c.in-Fault.is) tt)
