use Rattle.std.proofs.Common.{arith}
use Rattle.index_report.proofs.Lines.{line_ended}
use Rattle.index_report.specs.Reports.{span_word}
use Rattle.index_report.proofs.splits.put_spans.Goals as goal

pub returns : goal.returns
returns c = line_ended span_word c.args.spans.now c.loop-span.span-index _ _ _ (omega arith) c.loop-span.invariant c.in_ok-push_str.ensures.bytes
