use Rattle.std.proofs.Common.{arith}
use Rattle.source_checkpoint.proofs.Loops.{each_more}
use Rattle.source_checkpoint.specs.Deltas.{raised}
use Rattle.source_checkpoint.proofs.span.raise_all.Goals as goal

pub loop-span-preserved : goal.loop-span-preserved
loop-span-preserved c =
    each_more (raised c.args.upto) c.args.spans.now c.loop-span.spans c.loop-span.span-index c.span-item.result c.raise.new.self (omega arith) c.loop-span.invariant c.span-item.is c.raise.ensures
