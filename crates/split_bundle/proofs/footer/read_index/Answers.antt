use Rattle.std.proofs.Common.{arith, ap}
use Rattle.split_bundle.specs.Reading.{block_starts_at, of_section}
use Rattle.split_bundle.proofs.Indexes.{blocks_end, blocks_more, blocks_fault, blocks_begun}
use Rattle.split_bundle.proofs.footer.read_index.Goals as goal

pub returns-in-Err : goal.returns-in-Err
returns-in-Err c = record {
  exact = blocks_fault c.args.bytes.now c.args.table.count c.loop-taken.taken c.loop-taken.at c.loop-taken.index (block_starts_at c.args.table.count c.args.bytes.now c.args.table.at) c.loop-taken.invariant.so_far c.in-Err._fault 6 (omega arith) c.in-Err.ensures.exact;
}

pub loop-taken-init : goal.loop-taken-init
loop-taken-init c = record {
  so_far = blocks_begun c.args.bytes.now c.args.table.count c.args.table.at c.vacant-index.result c.vacant-index.ensures;
  within = c.requires;
}

pub loop-taken-preserved : goal.loop-taken-preserved
loop-taken-preserved c = record {
  so_far = rw (c.in_ok-push-in-Ok.ensures.ok, c.in_ok-from_slice-in-Ok.ensures) (blocks_more c.args.bytes.now c.args.table.count c.loop-taken.taken c.loop-taken.at c.loop-taken.index (block_starts_at c.args.table.count c.args.bytes.now c.args.table.at) c.loop-taken.invariant.so_far
      (record { first = c.in-Ok.entry.first.now; start = c.in-Ok.entry.start }) c.in-Ok.next (omega arith) c.in-Ok.ensures.exact);
  within = c.in-Ok.ensures.within;
}

pub returns : goal.returns
returns c = record {
  exact = ap (of_section 6) (blocks_end c.args.bytes.now c.args.table.count c.loop-taken.taken c.loop-taken.at c.loop-taken.index (block_starts_at c.args.table.count c.args.bytes.now c.args.table.at) c.loop-taken.invariant.so_far (omega arith));
}
