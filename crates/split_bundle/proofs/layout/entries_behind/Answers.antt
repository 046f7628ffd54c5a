use Rattle.std.proofs.Common.{arith}
use Rattle.split_bundle.specs.Reading.{entries_behind}
use Rattle.split_bundle.proofs.Walks.{entries_end, entries_more, entries_fault}
use Rattle.split_bundle.proofs.layout.entries_behind.Goals as goal

pub returns-in-Err-clause-exact : goal.returns-in-Err-clause-exact
returns-in-Err-clause-exact c =
    entries_fault c.args.entry c.args.bytes.now c.args.count c.loop-taken.taken c.loop-taken.at (entries_behind c.args.entry c.args.count c.args.bytes.now c.args.from) c.loop-taken.invariant.so_far c.in-Err.fault (omega arith) c.in-Err.ensures.exact

pub loop-taken-preserved : goal.loop-taken-preserved
loop-taken-preserved c = record {
  so_far = entries_more c.args.entry c.args.bytes.now c.args.count c.loop-taken.taken c.loop-taken.at (entries_behind c.args.entry c.args.count c.args.bytes.now c.args.from) c.loop-taken.invariant.so_far c.in-Ok.next (omega arith) c.in-Ok.ensures.exact;
  within = c.in-Ok.ensures.within;
}

pub returns-clause-exact : goal.returns-clause-exact
returns-clause-exact c =
    entries_end c.args.entry c.args.bytes.now c.args.count c.loop-taken.taken c.loop-taken.at (entries_behind c.args.entry c.args.count c.args.bytes.now c.args.from) c.loop-taken.invariant.so_far (omega arith)
