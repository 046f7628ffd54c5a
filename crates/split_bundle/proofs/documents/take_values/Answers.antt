use Rattle.std.proofs.Common.{arith}
use Rattle.split_bundle.specs.DocReading.{values_at}
use Rattle.split_bundle.proofs.DocLoops.{values_begun, values_end, values_more, values_fault}
use Rattle.split_bundle.proofs.documents.take_values.Goals as goal

pub loop-taken-init : goal.loop-taken-init
loop-taken-init c = record {
  so_far = values_begun c.args.kind c.args.bytes.now c.args.count c.args.from c.vacant-values.result c.vacant-values.ensures;
  within = c.requires;
}

pub loop-taken-preserved : goal.loop-taken-preserved
loop-taken-preserved c = record {
  so_far = rw (c.in_ok-push-in-Ok.ensures.ok) (values_more c.args.kind c.args.bytes.now c.args.count c.loop-taken.taken c.loop-taken.at c.loop-taken.values (values_at c.args.kind c.args.count c.args.bytes.now c.args.from) c.loop-taken.invariant.so_far
      c.in-Ok.value c.in-Ok.next (omega arith) c.in-Ok.ensures.exact);
  within = c.in-Ok.ensures.within;
}

pub returns-in-Err-clause-exact : goal.returns-in-Err-clause-exact
returns-in-Err-clause-exact c =
    values_fault c.args.kind c.args.bytes.now c.args.count c.loop-taken.taken c.loop-taken.at c.loop-taken.values (values_at c.args.kind c.args.count c.args.bytes.now c.args.from) c.loop-taken.invariant.so_far
    c.in-Err.fault (omega arith) c.in-Err.ensures.exact

pub returns-clause-exact : goal.returns-clause-exact
returns-clause-exact c =
    values_end c.args.kind c.args.bytes.now c.args.count c.loop-taken.taken c.loop-taken.at c.loop-taken.values (values_at c.args.kind c.args.count c.args.bytes.now c.args.from) c.loop-taken.invariant.so_far (omega arith)
